use Rattle.std.proofs.Common.{take}
use Rattle.ct_history.specs.Audited.{IsAuditOf}
use Rattle.ct_explain.proofs.story.note_until.Given as goal

abbrev pub invariant-loop-place : goal.invariant-loop-place
invariant-loop-place l = IsAuditOf l.plan (take l.place l.entries) l.audit
