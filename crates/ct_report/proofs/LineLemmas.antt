-- The lines of a history with one more entry. An End or a Settle that makes a test final adds
-- its line, and no other entry does.
use Rattle.std.proofs.Common.{◌≡◌, ◌∙◌, sym, ap, ℕ, ◌+◌, List, [], ◌∷◌, ◌++◌, length, refl, arith, append_assoc, length-append}
use Rattle.std.specs.Prelude.{Option, Some, None, IsSome}
use Rattle.std.proofs.lemmas.List.{append-nil}
use Rattle.ct_alloc.specs.declared.placement.Placement.{Placement}
use Rattle.ct_verdict.specs.declared.attempt.Seen.{Seen}
use Rattle.ct_verdict.specs.declared.verdict.Verdict.{Verdict}
use Rattle.ct_history.specs.declared.plan.PlanTest.{PlanTest}
use Rattle.ct_history.specs.declared.plan.PlanParts.{PlanParts}
use Rattle.ct_history.specs.declared.history.Entry.{Entry}
use Rattle.ct_history.specs.declared.history.Entry.TheVariants.{Start, End}
use Rattle.ct_history.specs.Plan.{test_at}
use Rattle.ct_history.specs.Verdicts.{verdict_at, verdict_in, verdict_of_test}
use Rattle.ct_report.specs.Report.{finished_by, line_with, lines_behind, lines_of_test, lines_with, test_line, test_lines, text_of}

lines_behind-snoc : (plan : PlanParts) (finals : ℕ) (front es : List Entry) (e : Entry) → lines_behind plan finals front (es ++ e ∷ []) ≡ lines_behind plan finals front es ++ lines_of_test plan ((front ++ es) ++ e ∷ []) (finals + length (lines_behind plan finals front es) + 1) (finished_by e)
lines_behind-snoc plan finals front [] e =
    append-nil (lines_of_test plan (front ++ e ∷ []) (finals + 1) (finished_by e))
    ∙ ap (λ (xs : List Entry). lines_of_test plan (xs ++ e ∷ []) (finals + 1) (finished_by e)) (sym (append-nil front))
    ∙ ap (λ (k : ℕ). lines_of_test plan ((front ++ []) ++ e ∷ []) k (finished_by e)) count
  where
    count : finals + 1 ≡ finals + 0 + 1
    count = omega arith
lines_behind-snoc plan finals front (x ∷ xs) e =
    let here = lines_of_test plan (front ++ x ∷ []) (finals + 1) (finished_by x) in
    let rest = lines_behind plan (finals + length here) (front ++ x ∷ []) xs in
    ap (λ (ls : List (List ℕ)). here ++ ls) (lines_behind-snoc plan (finals + length here) (front ++ x ∷ []) xs e)
    ∙ sym (append_assoc here rest (lines_of_test plan (((front ++ x ∷ []) ++ xs) ++ e ∷ []) (finals + length here + length rest + 1) (finished_by e)))
    ∙ ap (λ (es : List Entry). (here ++ rest) ++ lines_of_test plan (es ++ e ∷ []) (finals + length here + length rest + 1) (finished_by e)) (append_assoc front (x ∷ []) xs)
    ∙ ap (λ (k : ℕ). (here ++ rest) ++ lines_of_test plan ((front ++ x ∷ xs) ++ e ∷ []) k (finished_by e)) (count here rest)
  where
    count : (ls ms : List (List ℕ)) → finals + length ls + length ms + 1 ≡ finals + length (ls ++ ms) + 1
    count ls ms = omega (arith, length-append ls ms)

-- the lines of a history with one more entry
pub test_lines-snoc : (plan : PlanParts) (es : List Entry) (e : Entry) → test_lines plan (es ++ e ∷ []) ≡ test_lines plan es ++ lines_of_test plan (es ++ e ∷ []) (length (test_lines plan es) + 1) (finished_by e)
test_lines-snoc plan es e =
    lines_behind-snoc plan 0 [] es e ∙ ap (λ (k : ℕ). test_lines plan es ++ lines_of_test plan (es ++ e ∷ []) k (finished_by e)) count
  where
    count : 0 + length (test_lines plan es) + 1 ≡ length (test_lines plan es) + 1
    count = omega arith

line_by : (plan : PlanParts) (es : List Entry) (place : ℕ) (t : PlanTest) (v : Option Verdict) → IsSome v → lines_with plan es place (Some t) v ≡ line_with plan es place t v ∷ []
line_by plan es place t None some = cc
line_by plan es place t (Some v) some = refl

line_at : (plan : PlanParts) (es : List Entry) (place : ℕ) (o : Option PlanTest) → IsSome (verdict_at plan es o) → lines_with plan es place o (verdict_at plan es o) ≡ test_line plan es place o ∷ []
line_at plan es place None some = cc
line_at plan es place (Some t) some = line_by plan es place t (verdict_in plan.repeat t es) some

-- one more attempt, whose test is then final, adds the line of the test
module _ (plan : PlanParts) (es : List Entry) (t a w : ℕ) (p : Option Placement) (seen : Seen) where
  split : es ++ Start t a w p ∷ End t a w seen ∷ [] ≡ (es ++ Start t a w p ∷ []) ++ End t a w seen ∷ []
  split = sym (append_assoc es (Start t a w p ∷ []) (End t a w seen ∷ []))

  pub lines_of_start : test_lines plan (es ++ Start t a w p ∷ []) ≡ test_lines plan es
  lines_of_start = test_lines-snoc plan es (Start t a w p) ∙ append-nil (test_lines plan es)

  pub lines_of_both : test_lines plan (es ++ Start t a w p ∷ End t a w seen ∷ []) ≡ test_lines plan es ++ lines_of_test plan (es ++ Start t a w p ∷ End t a w seen ∷ []) (length (test_lines plan es) + 1) (Some t)
  lines_of_both =
      ap (λ (xs : List Entry). test_lines plan xs) split
      ∙ test_lines-snoc plan (es ++ Start t a w p ∷ []) (End t a w seen)
      ∙ ap (λ (ls : List (List ℕ)). ls ++ lines_of_test plan ((es ++ Start t a w p ∷ []) ++ End t a w seen ∷ []) (length ls + 1) (Some t)) lines_of_start
      ∙ ap (λ (xs : List Entry). test_lines plan es ++ lines_of_test plan xs (length (test_lines plan es) + 1) (Some t)) (sym split)

  pub line_of_both : IsSome (verdict_of_test plan (es ++ Start t a w p ∷ End t a w seen ∷ []) t) → test_lines plan (es ++ Start t a w p ∷ End t a w seen ∷ []) ≡ test_lines plan es ++ test_line plan (es ++ Start t a w p ∷ End t a w seen ∷ []) (length (test_lines plan es) + 1) (test_at plan.tests t) ∷ []
  line_of_both final =
      lines_of_both ∙ ap (λ (ls : List (List ℕ)). test_lines plan es ++ ls) (line_at plan (es ++ Start t a w p ∷ End t a w seen ∷ []) (length (test_lines plan es) + 1) (test_at plan.tests t) final)

pub text_of-append : (lines more : List (List ℕ)) → text_of (lines ++ more) ≡ text_of lines ++ text_of more
text_of-append [] more = refl
text_of-append (l ∷ ls) more = ap (λ (t : List ℕ). l ++ t) (text_of-append ls more) ∙ sym (append_assoc l (text_of ls) (text_of more))

-- the text of lines with one line more
pub text_of-snoc : (lines : List (List ℕ)) (line : List ℕ) → text_of (lines ++ line ∷ []) ≡ text_of lines ++ line
text_of-snoc lines line = text_of-append lines (line ∷ []) ∙ ap (λ (t : List ℕ). text_of lines ++ t) (append-nil line)
