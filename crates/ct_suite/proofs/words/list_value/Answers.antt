use Rattle.std.proofs.Common.{sym, ap, ◌∙◌, Some}
use Rattle.ct_suite.proofs.WordLemmas.{list_value-first}
use Rattle.ct_suite.proofs.words.list_value.Goals as goal

pub returns : goal.returns
returns c =
    ap Some (c.from_vec.ensures ∙ c.in_ok-text.ensures) ∙ sym (list_value-first c.args.values.now c.in-Some.first.now c.in-Some.ensures.value)
