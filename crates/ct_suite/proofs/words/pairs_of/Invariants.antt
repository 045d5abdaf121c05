use Rattle.std.proofs.Common.{◌≡◌, ◌++◌, option_map}
use Rattle.std.specs.Vec.Iter.{into_iter_items, into_iter_len}
use Rattle.ct_suite.specs.Words.{pairs_of}
use Rattle.ct_suite.specs.Values.{texts}
use Rattle.ct_suite.proofs.words.pairs_of.Given as goal

abbrev pub invariant-loop-key : goal.invariant-loop-key
invariant-loop-key l =
    option_map (λ more. l.pairs ++ more) (pairs_of (texts (into_iter_items l.rest))) ≡ pairs_of (texts (into_iter_items l.initial.rest))

abbrev pub decreases-loop-key : goal.decreases-loop-key
decreases-loop-key l = into_iter_len l.rest
