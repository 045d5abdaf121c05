use Rattle.std.proofs.Common.{◌∙◌, sym, eqb, get_or}
use Rattle.std.proofs.lemmas.List.Folds.{list_any_more}
use Rattle.ct_select.proofs.ChosenLemmas.{others_more}
use Rattle.ct_select.proofs.numbers.set_of.Goals as goal

pub loop-number-preserved : goal.loop-number-preserved
loop-number-preserved c = λ asked.
    let at = c.loop-number.number-index in
    let numbers = c.args.numbers.now in
    others_more asked (get_or numbers at 0) _ _ _ (c.in_ok-insert.ensures.updates.0 asked) (c.loop-number.invariant asked)
    ∙ sym (list_any_more (λ other. eqb other asked) numbers at 0 c.loop-number-test.true)
