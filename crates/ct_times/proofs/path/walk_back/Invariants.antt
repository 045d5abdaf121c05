use Rattle.ct_times.specs.Works.{kept_at}
use Rattle.ct_times.proofs.WalkLemmas.{way_left}
use Rattle.ct_times.proofs.WeightLemmas.{HasGoneBack}
use Rattle.ct_times.proofs.path.walk_back.Given as goal

abbrev pub invariant-walk : goal.invariant-walk
invariant-walk l = HasGoneBack (kept_at l.weights) l.tests l.fn.end l.path.keys l.next

abbrev pub decreases-walk : goal.decreases-walk
decreases-walk l = way_left l.tests l.next
