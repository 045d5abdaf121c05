use Rattle.std.proofs.Common.{◌≡◌, drop}
use Rattle.std.specs.List.{list_all}
use Rattle.ct_alloc.proofs.PickLemmas.{have_room}
use Rattle.ct_alloc.proofs.free.Free.fits.Given as goal

abbrev pub invariant-loop-pick : goal.invariant-loop-pick
invariant-loop-pick l = list_all (have_room l.self.resources l.self.used l.picks) (drop l.pick-index l.picks) ≡ list_all (have_room l.self.resources l.self.used l.picks) l.picks
