use Rattle.std.proofs.Common.{◌≡◌, ◌++◌}
use Rattle.ct_explain.proofs.bars.listed.Given as goal

abbrev pub invariant-loop-worker : goal.invariant-loop-worker
invariant-loop-worker l = l.workers ++ l.worker-iterator ≡ l.fn.kept.keys
