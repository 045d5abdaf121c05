use Rattle.std.proofs.Common.{◌≡◌, option_map}
use Rattle.std.specs.Vec.Iter.{into_iter_items, into_iter_len}
use Rattle.ct_suite.specs.Words.{names_and_pairs}
use Rattle.ct_suite.specs.Values.{texts}
use Rattle.ct_suite.proofs.WordLemmas.{behind_names}
use Rattle.ct_suite.proofs.words.names_and_pairs.Given as goal

abbrev pub invariant-loop-value : goal.invariant-loop-value
invariant-loop-value l =
    option_map (behind_names l.names) (names_and_pairs (texts (into_iter_items l.rest))) ≡ names_and_pairs (texts (into_iter_items l.initial.rest))

abbrev pub decreases-loop-value : goal.decreases-loop-value
decreases-loop-value l = into_iter_len l.rest
