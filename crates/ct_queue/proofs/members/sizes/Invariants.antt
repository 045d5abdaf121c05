use Rattle.std.proofs.Common.{take, length}
use Rattle.ct_queue.specs.Spots.{IsTable, size_of}
use Rattle.ct_queue.proofs.members.sizes.Given as goal

abbrev pub invariant-loop-line : goal.invariant-loop-line
invariant-loop-line l = IsTable (size_of (take l.line-index l.lines)) (length l.lines) l.sizes.items
