use Rattle.std.proofs.Common.{◌≡◌, ◌∷◌, ◌++◌, ap, sym, ◌∙◌, option_map}
use Rattle.std.specs.Vec.Iter.{into_iter_items}
use Rattle.ct_suite.specs.Values.{texts}
use Rattle.ct_suite.specs.Words.{pairs_of}
use Rattle.ct_suite.proofs.WordLemmas.{pairs_of-more}
use Rattle.ct_suite.proofs.words.pairs_of.Goals as goal

pub loop-key-preserved : goal.loop-key-preserved
loop-key-preserved c =
    let rest = into_iter_items c.next-in-Some.new.self in
    let whole : into_iter_items c.loop-key.rest ≡ c.in-Some.key ∷ c.in-Some-next.value ∷ rest =
    c.in-Some.ensures.items ∙ ap (λ values. c.in-Some.key ∷ values) c.in-Some-next.ensures.items in
    ap (λ pairs. option_map (λ more. pairs ++ more) (pairs_of (texts rest))) c.in_ok-push.ensures.ok
    ∙ sym (pairs_of-more c.loop-key.pairs c.in-Some.key.text c.in-Some-next.value.text (texts rest))
    ∙ ap (λ values. option_map (λ more. c.loop-key.pairs ++ more) (pairs_of (texts values))) (sym whole)
    ∙ c.loop-key.invariant
