use Rattle.std.proofs.Common.{◌≡◌, ◌∙◌, sym, ap, ℕ, List, [], ◌∷◌, ◌++◌, OnOk, codes, subst}
use Rattle.ct_report.proofs.TotalLemmas.{under_some, two_behind}
use Rattle.ct_report.specs.Report.{under}
use Rattle.ct_report.proofs.summaries.push_under.Goals as goal

pub returns : goal.returns
returns c =
    let old = c.args.lines.now in
    let heading = c.args.heading.now in
    let more = c.args.more in
    let two : c.push_line-2.new.lines ≡ (old ++ codes "\n" ∷ []) ++ heading ∷ [] = c.in_ok-push_line-2.ensures ∙ ap (λ (lines : List (List ℕ)). lines ++ heading ∷ []) c.in_ok-push_line.ensures in
    let all : c.push_line-2.new.lines ++ more ≡ old ++ under heading more =
    ap (λ (lines : List (List ℕ)). lines ++ more) two
    ∙ two_behind old (codes "\n") heading more
    ∙ ap (λ (rest : List (List ℕ)). old ++ rest) (sym (under_some heading more (sym c.is_empty.ensures ∙ c.if-is_empty.false))) in
    subst (λ (lines : List (List ℕ)). OnOk c.push_all.result (c.push_all.new.lines ≡ lines)) all c.push_all.ensures
