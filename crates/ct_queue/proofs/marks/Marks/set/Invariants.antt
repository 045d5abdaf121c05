use Rattle.std.proofs.Common.{set}
use Rattle.ct_queue.proofs.TreeLemmas.{IsRising}
use Rattle.ct_queue.proofs.marks.Marks.set.Given as goal

abbrev pub invariant-loop-node : goal.invariant-loop-node
invariant-loop-node l = IsRising (set l.fn.self l.fn.place l.fn.mark) l.self-inside.nodes.items l.node

abbrev pub decreases-loop-node : goal.decreases-loop-node
decreases-loop-node l = l.node
