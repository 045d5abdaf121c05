use Rattle.std.proofs.Common.{◌≡◌, ◌≤◌, length}
use Rattle.std.specs.Path.{rfind_below}
use Rattle.ct_base.specs.Bytes.{space}
use Rattle.ct_cost.proofs.line.last_space.Given as goal

abbrev pub invariant-loop-end : goal.invariant-loop-end
invariant-loop-end l = (rfind_below space l.text l.end ≡ rfind_below space l.text (length l.text)) × (l.end ≤ length l.text)

abbrev pub decreases-loop-end : goal.decreases-loop-end
decreases-loop-end l = l.end
