use Rattle.std.proofs.Common.{◌≡◌, drop}
use Rattle.std.specs.Prelude.{max}
use Rattle.ct_times.specs.Bounds.{greatest}
use Rattle.ct_times.specs.Works.{kept_at}
use Rattle.ct_times.proofs.path.greatest.Given as goal

abbrev pub invariant-loop-number : goal.invariant-loop-number
invariant-loop-number l = max l.most (greatest (kept_at l.weights) (drop l.number-index l.numbers)) ≡ greatest (kept_at l.weights) l.numbers
