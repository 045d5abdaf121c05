use Rattle.std.proofs.Common.{subst}
use Rattle.ct_history.specs.Legal.{StaysWithin}
use Rattle.ct_history.proofs.LegalLemmas.{legal_allowed}
use Rattle.ct_history.proofs.WithinLemmas.{stays_within}
use Rattle.ct_core.specs.CoreValue.{CoreValue}
use Rattle.ct_core.proofs.scheduler.Core.into_parts.Goals as goal

pub returns-clause-within : goal.returns-clause-within
returns-clause-within c =
    subst (λ (v : CoreValue). StaysWithin v.plan v.entries) c.self.view_is
    (stays_within c.self.inside.run.plan c.self.inside.run.history.entries.items (legal_allowed c.self.inside.run.plan c.self.inside.run.history.entries.items c.self.invariant.orderly.kept.legal))
