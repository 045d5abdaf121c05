use Rattle.std.proofs.Common.{◌≡◌, drop}
use Rattle.ct_alloc.specs.Placement.{is_placement}
use Rattle.ct_history.proofs.placed.is_placement.Given as goal

abbrev pub invariant-loop-at : goal.invariant-loop-at
invariant-loop-at l = is_placement l.resources (drop l.at l.needs) (drop l.at l.picks) ≡ is_placement l.resources l.needs l.picks
