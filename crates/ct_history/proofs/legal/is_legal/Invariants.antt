use Rattle.std.proofs.Common.{◌≡◌, drop, take}
use Rattle.ct_history.specs.Audited.{IsAuditOf}
use Rattle.ct_history.specs.Legal.{are_allowed_behind, is_allowed_so_far}
use Rattle.ct_history.proofs.legal.is_legal.Given as goal

abbrev pub invariant-loop-at : goal.invariant-loop-at
invariant-loop-at l =
    IsAuditOf l.plan (take l.at l.entries) l.audit
    × (are_allowed_behind l.plan (take l.at l.entries) (drop l.at l.entries) ≡ is_allowed_so_far l.plan l.entries)
