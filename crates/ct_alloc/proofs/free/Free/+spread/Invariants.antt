use Rattle.std.proofs.Common.{length}
use Rattle.ct_alloc.proofs.free.Free.+spread.Given as goal

abbrev pub decreases-spread : goal.decreases-spread
decreases-spread l = length l.needs.now
