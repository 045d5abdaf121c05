use Rattle.std.proofs.Common.{◌∷◌, ◌++◌, [], ap, ◌∙◌, append_assoc}
use Rattle.ct_suite.proofs.WordLemmas.{flat_map-next}
use Rattle.ct_suite.proofs.words.joined.Goals as goal

pub loop-value-preserved : goal.loop-value-preserved
loop-value-preserved c =
    let text = c.loop-value.text.items in
    flat_map-next (λ value. 59 ∷ value) c.args.first.now c.args.rest.now c.loop-value.value-index c.value-item.result text c.extend_from_slice.new.self.items c.loop-value-test.true c.value-item.is c.loop-value.invariant (c.in_ok-extend_from_slice.ensures.items
    ∙ ap (λ items. items ++ c.bytes-in-loop-value.result.now) c.in_ok-push.ensures.items
    ∙ append_assoc text (59 ∷ []) c.bytes-in-loop-value.result.now
    ∙ ap (λ value. text ++ 59 ∷ value) c.bytes-in-loop-value.ensures)
