use Rattle.std.proofs.Common.{◌≡◌, ◌++◌, [], ap, sym, ◌∙◌, arith, vec_len}
use Rattle.std.proofs.lemmas.Bool.{eqb-true}
use Rattle.std.proofs.lemmas.List.{nil_from_length}
use Rattle.ct_suite.proofs.reader.join_own.Goals as goal

pub returns-clause-joined : goal.returns-clause-joined
returns-clause-joined c =
    let text = c.args.text.now in
    let len : vec_len text ≡ 0 =
    eqb-true (vec_len text) 0 (sym c.is_empty.ensures ∙ c.if-not-is_empty.false) in
    let none : text.items ≡ [] = nil_from_length text.items (omega (arith, len, text.ok.0)) in
    c.into_vec.ensures ∙ ap (λ items. items ++ c.args.piece) (sym none)
