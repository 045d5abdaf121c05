use Rattle.std.proofs.Common.{ap, sym, ◌∙◌, option_map}
use Rattle.std.specs.Vec.Iter.{into_iter_items}
use Rattle.ct_suite.specs.Words.{names_and_pairs}
use Rattle.ct_suite.specs.Values.{texts}
use Rattle.ct_suite.proofs.WordLemmas.{behind_names, with_pairs, names_and_pairs-more, names_and_pairs-found}
use Rattle.ct_suite.proofs.words.names_and_pairs.Goals as goal

pub loop-value-preserved : goal.loop-value-preserved
loop-value-preserved c =
    let rest = texts (into_iter_items c.next.new.self) in
    ap (λ names. option_map (behind_names names) (names_and_pairs rest)) c.in_ok-push.ensures.ok
    ∙ sym (names_and_pairs-more c.loop-value.names rest c.in-Some.value.text (sym c.is_properties.ensures ∙ c.if-is_properties.false))
    ∙ ap (λ values. option_map (behind_names c.loop-value.names) (names_and_pairs (texts values))) (sym c.in-Some.ensures.items)
    ∙ c.loop-value.invariant

pub returns-then-is_properties : goal.returns-then-is_properties
returns-then-is_properties c =
    let rest = texts (into_iter_items c.next.new.self) in
    c.with_names.ensures
    ∙ ap (option_map (with_pairs c.loop-value.names)) c.in_ok-pairs.ensures
    ∙ sym (names_and_pairs-found c.loop-value.names rest c.in-Some.value.text (sym c.is_properties.ensures ∙ c.if-is_properties.true))
    ∙ ap (λ values. option_map (behind_names c.loop-value.names) (names_and_pairs (texts values))) (sym c.in-Some.ensures.items)
    ∙ c.loop-value.invariant
    ∙ ap (λ values. names_and_pairs (texts values)) (c.into_iter-rest.ensures.rest ∙ c.into_vec.ensures)
