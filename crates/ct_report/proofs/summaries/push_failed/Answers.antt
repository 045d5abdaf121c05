use Rattle.std.proofs.Common.{◌≡◌, ◌∙◌, sym, ap, ℕ, List, [], ◌∷◌, ◌++◌, OnOk, append_assoc, codes, subst}
use Rattle.ct_report.specs.Report.{failed_lines, under}
use Rattle.ct_report.proofs.TotalLemmas.{failed_some}
use Rattle.ct_report.proofs.summaries.push_failed.Goals as goal

pub returns : goal.returns
returns c =
    let old = c.args.lines.now in
    let failed = c.args.failed in
    let heading = codes "The following tests FAILED:\n" in
    let last = codes "Errors while running CTest\n" in
    let all : c.push_under.new.lines ++ last ∷ [] ≡ old ++ failed_lines failed =
    ap (λ (lines : List (List ℕ)). lines ++ last ∷ []) c.in_ok-push_under.ensures
    ∙ append_assoc old (under heading failed) (last ∷ [])
    ∙ ap (λ (rest : List (List ℕ)). old ++ rest) (sym (failed_some failed (sym c.is_empty.ensures ∙ c.if-is_empty.false))) in
    subst (λ (lines : List (List ℕ)). OnOk c.push_line.result (c.push_line.new.lines ≡ lines)) all c.push_line.ensures
