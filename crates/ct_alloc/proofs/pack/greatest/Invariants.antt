use Rattle.std.proofs.Common.{◌≡◌, ◌<◌, MatchOption}
use Rattle.ct_alloc.proofs.pack.greatest.Given as goal

abbrev pub invariant-loop-at : goal.invariant-loop-at
invariant-loop-at l = MatchOption l.best (l.at ≡ 0) (λ at. at < l.at)
