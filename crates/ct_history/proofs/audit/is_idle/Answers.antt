use Rattle.std.proofs.Common.{◌∙◌}
use Rattle.ct_history.proofs.AuditedLemmas.{open_none}
use Rattle.ct_history.proofs.audit.is_idle.Goals as goal

pub returns : goal.returns
returns c = c.is_empty.ensures ∙ open_none c.args.running.now
