-- The summary of a run to its end is a function of the plan without its ranks, and of what is seen of each attempt.
use Rattle.std.proofs.Common.{◌≡◌, ◌∙◌, sym, ap, Bool, true, false, ℕ, zero, suc, ◌+◌, List, [], ◌∷◌, ◌++◌, length, map, refl}
use Rattle.std.specs.Prelude.{Option, Some, None, Contains, cond, codes, filter, flat_map, fold, count_by, not, option_map, ◌&&◌, ◌==◌}
use Rattle.std.specs.List.{AllByRecursion}
use Rattle.std.proofs.Math.Path.{fun_ext}
use Rattle.std.proofs.lemmas.List.{length-map}
use Rattle.ct_verdict.specs.declared.attempt.Seen.{Seen}
use Rattle.ct_verdict.specs.declared.repeat.Repeat.{Repeat}
use Rattle.ct_verdict.specs.declared.verdict.Verdict.{Verdict}
use Rattle.ct_alloc.specs.NamesInOrder.{names_in_order}
use Rattle.ct_history.specs.declared.plan.PlanTest.{PlanTest}
use Rattle.ct_history.specs.declared.plan.PlanParts.{PlanParts}
use Rattle.ct_history.specs.declared.history.Entry.{Entry}
use Rattle.ct_history.specs.Legal.{is_legal}
use Rattle.ct_history.specs.Parts.{without_stop}
use Rattle.ct_history.specs.Plan.{enabled, test_at}
use Rattle.ct_history.specs.Verdicts.{are_all_final, is_failing_in, verdict_at, verdict_in}
use Rattle.ct_history.specs.Failed.{failed_tests}
use Rattle.ct_history.proofs.PartListLemmas.{find-map}
use Rattle.ct_history.proofs.PlanLemmas.{contained_at}
use Rattle.ct_report.specs.Report.{counts_line, counts_with, failed_lines, good_count, has_label, is_good_in, is_unrun_in, label_line, label_lines, labelled_count, labelled_good_count, labels_in_order, listed_line, listed_with, summary_lines, under, unrun_tests}
use Rattle.ct_app.specs.Meant.{AreSeen, meant_by_setups, meant_verdict, meant_within}
use Rattle.ct_app.proofs.MeantLemmas.{IsRanked}
use Rattle.ct_app.proofs.AlikeLemmas.{unranked}
use Rattle.ct_app.proofs.MeantRunLemmas.{are_meant}
use Rattle.ct_app.proofs.MeantTextLemmas.{each_member}
use Rattle.ct_trees.specs.TreeReports.{summary_for, tree_summary}

-- a plan with no more than what the meant verdicts depend on
abbrev bare : Repeat → List PlanTest → PlanParts
bare repeat tests = record { dir = []; tests = tests; queue = []; resources = None; level = 0; repeat = repeat; stop_on_failure = false }

by_setups_bare : (repeat : Repeat) (seen : ℕ → ℕ → Seen) (meant : ℕ → Option Verdict) (o : Option PlanTest) → meant_by_setups repeat seen meant (option_map unranked o) ≡ meant_by_setups repeat seen meant o
by_setups_bare repeat seen meant None = refl
by_setups_bare repeat seen meant (Some t) = refl

test_bare : (tests : List PlanTest) (number : ℕ) → test_at (map unranked tests) number ≡ option_map unranked (test_at tests number)
test_bare tests number = find-map unranked (λ (t : PlanTest). t.number == number) (λ (t : PlanTest). t.number == number) (λ t. refl) tests

module _ (plan : PlanParts) (seen : ℕ → ℕ → Seen) where
  within_bare : (steps number : ℕ) → meant_within plan seen steps number ≡ meant_within (bare plan.repeat (map unranked plan.tests)) seen steps number
  within_bare zero number = refl
  within_bare (suc steps) number =
      ap (λ (meant : ℕ → Option Verdict). meant_by_setups plan.repeat seen meant (test_at plan.tests number)) (fun_ext λ n. within_bare steps n)
      ∙ sym (by_setups_bare plan.repeat seen (meant_within (bare plan.repeat (map unranked plan.tests)) seen steps) (test_at plan.tests number))
      ∙ ap (meant_by_setups plan.repeat seen (meant_within (bare plan.repeat (map unranked plan.tests)) seen steps)) (sym (test_bare plan.tests number))

  -- the meant verdict does not depend on the ranks
  meant_bare : (number : ℕ) → meant_verdict plan seen number ≡ meant_verdict (bare plan.repeat (map unranked plan.tests)) seen number
  meant_bare number =
      within_bare (length plan.tests) number
      ∙ ap (λ (steps : ℕ). meant_within (bare plan.repeat (map unranked plan.tests)) seen steps number) (sym (length-map plan.tests unranked))

-- what is kept of the images of a list is what comes of the elements that are kept
module _ {A B : Type 0} (f : A → B) where
  counted : (q : B → Bool) (n : ℕ) (xs : List A) → fold (λ (a : ℕ) y. a + cond (q y) 1 0) n (map f xs) ≡ fold (λ (a : ℕ) x. a + cond (q (f x)) 1 0) n xs
  counted q n [] = refl
  counted q n (x ∷ xs) = counted q (n + cond (q (f x)) 1 0) xs

  kept : {C : Type 0} (q : B → Bool) (h : B → C) (xs : List A) → map h (filter q (map f xs)) ≡ map (λ x. h (f x)) (filter (λ x. q (f x)) xs)
  kept q h [] = refl
  kept q h (x ∷ xs) = by_test (q (f x)) (kept q h xs)
    where
      by_test : (b : Bool) → map h (filter q (map f xs)) ≡ map (λ y. h (f y)) (filter (λ y. q (f y)) xs) → map h (cond b (f x ∷ filter q (map f xs)) (filter q (map f xs))) ≡ map (λ y. h (f y)) (cond b (x ∷ filter (λ y. q (f y)) xs) (filter (λ y. q (f y)) xs))
      by_test true rest = ap (λ ys. h (f x) ∷ ys) rest
      by_test false rest = rest

  kept_length : (q : B → Bool) (xs : List A) → length (filter q (map f xs)) ≡ length (filter (λ x. q (f x)) xs)
  kept_length q xs =
      sym (length-map (filter q (map f xs)) (λ y. y)) ∙ ap (λ (ys : List B). length ys) (kept q (λ y. y) xs) ∙ length-map (filter (λ x. q (f x)) xs) f

  kept_flat : {C : Type 0} (q : B → Bool) (h : B → List C) (xs : List A) → flat_map h (filter q (map f xs)) ≡ flat_map (λ x. h (f x)) (filter (λ x. q (f x)) xs)
  kept_flat q h [] = refl
  kept_flat q h (x ∷ xs) = by_test (q (f x)) (kept_flat q h xs)
    where
      by_test : (b : Bool) → flat_map h (filter q (map f xs)) ≡ flat_map (λ y. h (f y)) (filter (λ y. q (f y)) xs) → flat_map h (cond b (f x ∷ filter q (map f xs)) (filter q (map f xs))) ≡ flat_map (λ y. h (f y)) (cond b (x ∷ filter (λ y. q (f y)) xs) (filter (λ y. q (f y)) xs))
      by_test true rest = ap (λ ys. h (f x) ++ ys) rest
      by_test false rest = rest

  mapped_twice : {C : Type 0} (h : B → C) (xs : List A) → map h (map f xs) ≡ map (λ x. h (f x)) xs
  mapped_twice h [] = refl
  mapped_twice h (x ∷ xs) = ap (λ ys. h (f x) ∷ ys) (mapped_twice h xs)

map_same : {A B : Type 0} (f g : A → B) (xs : List A) → AllByRecursion (λ x. f x ≡ g x) xs → map f xs ≡ map g xs
map_same f g [] same = refl
map_same f g (x ∷ xs) same = ap (λ y. y ∷ map f xs) same.0 ∙ ap (λ ys. g x ∷ ys) (map_same f g xs same.1)

-- a test without its rank, and its verdict, if it has one
record Judged : Type 0 where
  test : PlanTest
  verdict : Option Verdict

abbrev judged_as : PlanTest → Option Verdict → Judged
judged_as t verdict = record { test = t; verdict = verdict }

abbrev judged : Repeat → List Entry → PlanTest → Judged
judged repeat es t = judged_as (unranked t) (verdict_in repeat t es)

abbrev judged_by : (ℕ → Option Verdict) → PlanTest → Judged
judged_by verdicts t = judged_as t (verdicts t.number)

-- the summary of tests with these verdicts
abbrev summary_of : List Judged → List (List ℕ)
summary_of js =
    codes "\n"
    ∷ counts_with (count_by (λ (j : Judged). is_good_in j.verdict) js) (length (filter (λ (j : Judged). is_failing_in j.verdict) js)) (length (filter (λ (j : Judged). not j.test.disabled) js))
    ∷ under (codes "Label Summary:\n")
    (map (λ label. label_line label (count_by (λ (j : Judged). is_good_in j.verdict && has_label label j.test) js) (count_by (λ (j : Judged). not j.test.disabled && has_label label j.test) js))
    (names_in_order (flat_map (λ (j : Judged). j.test.labels) (filter (λ (j : Judged). not j.test.disabled) js))))
    ++ under (codes "The following tests did not run:\n") (map (λ (j : Judged). listed_with j.test j.verdict) (filter (λ (j : Judged). is_unrun_in j.verdict) js))
    ++ failed_lines (map (λ (j : Judged). listed_with j.test j.verdict) (filter (λ (j : Judged). is_failing_in j.verdict) js))

abbrev lines_of : List Judged → List (List ℕ)
lines_of [] = codes "No tests were found!!!\n" ∷ []
lines_of (j ∷ js) = summary_of (j ∷ js)

module _ (plan : PlanParts) (es : List Entry) where
  abbrev all_judged : List Judged
  all_judged = map (judged plan.repeat es) plan.tests

  counts_judged : counts_line plan es ≡ counts_with (count_by (λ (j : Judged). is_good_in j.verdict) all_judged) (length (filter (λ (j : Judged). is_failing_in j.verdict) all_judged)) (length (filter (λ (j : Judged). not j.test.disabled) all_judged))
  counts_judged =
      let good : good_count plan es ≡ count_by (λ (j : Judged). is_good_in j.verdict) all_judged = sym (counted (judged plan.repeat es) (λ (j : Judged). is_good_in j.verdict) 0 plan.tests) in
      let failing : length (failed_tests plan es) ≡ length (filter (λ (j : Judged). is_failing_in j.verdict) all_judged) = sym (kept_length (judged plan.repeat es) (λ (j : Judged). is_failing_in j.verdict) plan.tests) in
      let counting : length (enabled plan.tests) ≡ length (filter (λ (j : Judged). not j.test.disabled) all_judged) = sym (kept_length (judged plan.repeat es) (λ (j : Judged). not j.test.disabled) plan.tests) in
      λ i. counts_with (good i) (failing i) (counting i)

  labels_judged : label_lines plan es ≡ map (λ label. label_line label (count_by (λ (j : Judged). is_good_in j.verdict && has_label label j.test) all_judged) (count_by (λ (j : Judged). not j.test.disabled && has_label label j.test) all_judged)) (names_in_order (flat_map (λ (j : Judged). j.test.labels) (filter (λ (j : Judged). not j.test.disabled) all_judged)))
  labels_judged =
      let good : (label : List ℕ) → labelled_good_count plan es label ≡ count_by (λ (j : Judged). is_good_in j.verdict && has_label label j.test) all_judged =
      λ label. sym (counted (judged plan.repeat es) (λ (j : Judged). is_good_in j.verdict && has_label label j.test) 0 plan.tests) in
      let counting : (label : List ℕ) → labelled_count plan label ≡ count_by (λ (j : Judged). not j.test.disabled && has_label label j.test) all_judged =
      λ label. sym (counted (judged plan.repeat es) (λ (j : Judged). not j.test.disabled && has_label label j.test) 0 plan.tests) in
      let labels : labels_in_order plan.tests ≡ names_in_order (flat_map (λ (j : Judged). j.test.labels) (filter (λ (j : Judged). not j.test.disabled) all_judged)) =
      ap names_in_order (sym (kept_flat (judged plan.repeat es) (λ (j : Judged). not j.test.disabled) (λ (j : Judged). j.test.labels) plan.tests)) in
      λ i. map (λ label. label_line label (good label i) (counting label i)) (labels i)

  unrun_judged : map (listed_line plan es) (unrun_tests plan es) ≡ map (λ (j : Judged). listed_with j.test j.verdict) (filter (λ (j : Judged). is_unrun_in j.verdict) all_judged)
  unrun_judged = sym (kept (judged plan.repeat es) (λ (j : Judged). is_unrun_in j.verdict) (λ (j : Judged). listed_with j.test j.verdict) plan.tests)

  failing_judged : map (listed_line plan es) (failed_tests plan es) ≡ map (λ (j : Judged). listed_with j.test j.verdict) (filter (λ (j : Judged). is_failing_in j.verdict) all_judged)
  failing_judged = sym (kept (judged plan.repeat es) (λ (j : Judged). is_failing_in j.verdict) (λ (j : Judged). listed_with j.test j.verdict) plan.tests)

  lines_judged : summary_lines plan es ≡ summary_of all_judged
  lines_judged =
      λ i. codes "\n" ∷ counts_judged i ∷ under (codes "Label Summary:\n") (labels_judged i) ++ under (codes "The following tests did not run:\n") (unrun_judged i) ++ failed_lines (failing_judged i)

-- the summary of a tree is a function of its tests without their ranks, with their verdicts
summary_judged : (plan : PlanParts) (es : List Entry) → tree_summary plan es ≡ lines_of (map (judged plan.repeat es) plan.tests)
summary_judged plan es = by_tests plan.tests refl
  where
    by_tests : (ts : List PlanTest) → plan.tests ≡ ts → summary_for ts (without_stop plan) es ≡ lines_of (map (judged plan.repeat es) ts)
    by_tests [] is = refl
    by_tests (t ∷ ts) is = lines_judged (without_stop plan) es ∙ ap (λ (us : List PlanTest). summary_of (map (judged plan.repeat es) us)) is

-- in a run to its end each test has the verdict that is meant for it
module _ (plan : PlanParts) (ranked : IsRanked plan) (seen : ℕ → ℕ → Seen) (off : plan.stop_on_failure ≡ false) (es : List Entry) (legal : is_legal plan es ≡ true) (final : are_all_final plan es ≡ true) (are : AreSeen seen es) where
  verdict_meant : (t : PlanTest) → Contains plan.tests t → verdict_in plan.repeat t es ≡ meant_verdict plan seen t.number
  verdict_meant t within =
      let own : test_at plan.tests t.number ≡ Some t = contained_at 1 plan.tests t ranked.numbers within in
      sym (ap (λ (o : Option PlanTest). verdict_at plan es o) own) ∙ (are_meant plan ranked seen es legal final are).unstopped off t.number

  judged_meant : map (judged plan.repeat es) plan.tests ≡ map (judged_by (meant_verdict plan seen)) (map unranked plan.tests)
  judged_meant =
      map_same (judged plan.repeat es) (λ t. judged_by (meant_verdict plan seen) (unranked t)) plan.tests
      (each_member (λ (t : PlanTest). judged plan.repeat es t ≡ judged_by (meant_verdict plan seen) (unranked t)) plan.tests
      (λ t within. ap (judged_as (unranked t)) (verdict_meant t within)))
      ∙ sym (mapped_twice unranked (judged_by (meant_verdict plan seen)) plan.tests)

-- two plans whose tests differ in their ranks alone
module _ (one other : PlanParts) (tests : map unranked one.tests ≡ map unranked other.tests) (repeat : one.repeat ≡ other.repeat) where
  bare_same : bare one.repeat (map unranked one.tests) ≡ bare other.repeat (map unranked other.tests)
  bare_same = ap (λ (r : Repeat). bare r (map unranked one.tests)) repeat ∙ ap (bare other.repeat) tests

  meant_same : (seen : ℕ → ℕ → Seen) → meant_verdict one seen ≡ meant_verdict other seen
  meant_same seen = fun_ext λ number. meant_bare one seen number ∙ ap (λ (p : PlanParts). meant_verdict p seen number) bare_same ∙ sym (meant_bare other seen number)

  -- runs to their ends in which the same is seen have the same summary
  pub summaries_same : (seen : ℕ → ℕ → Seen) → IsRanked one → IsRanked other → one.stop_on_failure ≡ false → other.stop_on_failure ≡ false → (es fs : List Entry) → is_legal one es ≡ true → are_all_final one es ≡ true → AreSeen seen es → is_legal other fs ≡ true → are_all_final other fs ≡ true → AreSeen seen fs → tree_summary one es ≡ tree_summary other fs
  summaries_same seen ranked re_ranked off no_stop es fs legal final are legal_too final_too are_too =
      let verdicts : map (judged_by (meant_verdict one seen)) (map unranked one.tests) ≡ map (judged_by (meant_verdict other seen)) (map unranked other.tests) =
      ap (λ (v : ℕ → Option Verdict). map (judged_by v) (map unranked one.tests)) (meant_same seen) ∙ ap (map (judged_by (meant_verdict other seen))) tests in
      summary_judged one es
      ∙ ap lines_of (judged_meant one ranked seen off es legal final are ∙ verdicts ∙ sym (judged_meant other re_ranked seen no_stop fs legal_too final_too are_too))
      ∙ sym (summary_judged other fs)
