use Rattle.std.proofs.Common.{◌≤◌, length}
use Rattle.ct_core.proofs.FirstLemmas.{AreSettleableTo}
use Rattle.ct_core.proofs.begin.first_settleable.Given as goal

abbrev pub invariant-loop-place : goal.invariant-loop-place
invariant-loop-place l = (length l.plan.tests ≤ length l.marks) × AreSettleableTo l.plan.tests l.marks l.place
