use Rattle.std.proofs.Common.{◌≡◌, drop}
use Rattle.ct_history.specs.Course.{runs}
use Rattle.ct_history.specs.Seen.{slots_used}
use Rattle.ct_explain.specs.Waits.{full_from}
use Rattle.ct_explain.proofs.slot_wait.full_place_of.Given as goal

abbrev pub invariant-loop-place : goal.invariant-loop-place
invariant-loop-place l = full_from l.place (drop l.place l.resources) (slots_used (runs l.starts)) l.picks ≡ full_from 0 l.resources (slots_used (runs l.starts)) l.picks
