use Rattle.std.proofs.Common.{subst}
use Rattle.ct_core.specs.Choice.{HasProgress}
use Rattle.ct_core.specs.CoreValue.{CoreValue}
use Rattle.ct_core.proofs.ChoiceLemmas.{has_progress}
use Rattle.ct_core.proofs.scheduler.Core.hand_out_progress.Goals as goal

pub returns : goal.returns
returns c =
    subst (λ (v : CoreValue). HasProgress v.plan v.entries) c.self.view_is
    (has_progress c.self.inside.run.plan c.self.inside.run.history.entries.items c.parts.ensures.sound)
