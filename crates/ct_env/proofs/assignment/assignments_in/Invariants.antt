use Rattle.std.proofs.Common.{◌≡◌, ◌++◌, drop}
use Rattle.ct_env.specs.Assignment.{assignments_in}
use Rattle.ct_env.proofs.assignment.assignments_in.Given as goal

abbrev pub invariant-loop-entry : goal.invariant-loop-entry
invariant-loop-entry l = l.pairs ++ assignments_in (drop l.entry-index l.entries) ≡ assignments_in l.entries
