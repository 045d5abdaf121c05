use Rattle.std.proofs.Common.{◌≡◌, ◌≤◌, get_or}
use Rattle.ct_times.proofs.chain.first_at.Given as goal

abbrev pub invariant-loop-first : goal.invariant-loop-first
invariant-loop-first l = (l.first ≤ l.place) × (get_or l.times l.first 0 ≡ get_or l.times l.place 0)

abbrev pub decreases-loop-first : goal.decreases-loop-first
decreases-loop-first l = l.first
