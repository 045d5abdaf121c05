use Rattle.std.proofs.Common.{◌≡◌, drop}
use Rattle.ct_alloc.specs.Placement.{fits_beside, fits_from}
use Rattle.ct_history.specs.Course.{runs}
use Rattle.ct_history.specs.Seen.{slots_used}
use Rattle.ct_history.proofs.placed.fits_beside.Given as goal

abbrev pub invariant-loop-place : goal.invariant-loop-place
invariant-loop-place l = fits_from l.place (drop l.place l.resources) (slots_used (runs l.running)) l.picks ≡ fits_beside l.resources (slots_used (runs l.running)) l.picks
