use Rattle.std.proofs.Common.{◌+◌, ◌-◌, ◌*◌, length}
use Rattle.ct_worker.proofs.crew.+crew.Given as goal

abbrev pub decreases-crew : goal.decreases-crew
decreases-crew g l = 4 * length l.passes.now

abbrev pub decreases-both : goal.decreases-both
decreases-both g l = 4 * length l.passes.now - 1

abbrev pub decreases-both-front : goal.decreases-both-front
decreases-both-front g l = 4 * length l.low.now + 1

abbrev pub decreases-both-back : goal.decreases-both-back
decreases-both-back g l = 4 * length l.high.now + 1
