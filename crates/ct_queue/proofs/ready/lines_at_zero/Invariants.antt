use Rattle.std.proofs.Common.{◌≡◌, length}
use Rattle.ct_queue.proofs.ReadyLemmas.{AreMarkedTo}
use Rattle.ct_queue.proofs.ready.lines_at_zero.Given as goal

abbrev pub invariant-loop-place : goal.invariant-loop-place
invariant-loop-place l = (l.members.lines ≡ l.fn.lines) × (l.members.bunches ≡ l.fn.bunches) × (length l.members.members ≡ length l.fn.lines) × AreMarkedTo l.counts l.members.members l.place
