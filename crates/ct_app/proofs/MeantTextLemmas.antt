-- Two complete legal histories of a plan with the same seen attempts have the same summary,
-- cost data and log.
use Rattle.std.proofs.Common.{◌≡◌, ◌∙◌, sym, ap, Bool, true, false, ℕ, zero, suc, ◌+◌, List, [], ◌∷◌, ◌++◌, length, refl, arith}
use Rattle.std.specs.Prelude.{Option, Some, Contains, cond, codes, filter, flat_map, fold, map, option_map, ◌&&◌}
use Rattle.std.specs.List.{AllByRecursion}
use Rattle.ct_base.specs.Names.{each_once}
use Rattle.ct_verdict.specs.declared.attempt.Seen.{Seen}
use Rattle.ct_verdict.specs.declared.verdict.Verdict.{Verdict}
use Rattle.ct_history.specs.declared.plan.PlanTest.{PlanTest}
use Rattle.ct_history.specs.declared.plan.PlanParts.{PlanParts}
use Rattle.ct_history.specs.declared.history.Entry.{Entry}
use Rattle.ct_history.specs.Plan.{enabled, test_at}
use Rattle.ct_history.specs.Legal.{is_legal}
use Rattle.ct_history.specs.Verdicts.{are_all_final, is_failing_in, is_passed_verdict, verdict_at, verdict_in}
use Rattle.ct_history.specs.Failed.{failed_tests}
use Rattle.ct_history.proofs.PlanLemmas.{contained_at}
use Rattle.ct_cost.specs.declared.cost_data.CostData.{CostData}
use Rattle.ct_cost.specs.After.{after_test, counted_micros, logged, passed_tests}
use Rattle.ct_history.specs.Endings.{last_seen}
use Rattle.ct_cost.specs.CostLine.{CostLine, after_run}
use Rattle.ct_cost.specs.Costs.{costs_after}
use Rattle.ct_report.specs.Report.{counts_line, counts_with, failed_lines, good_count, has_label, is_good_in, is_unrun_in, label_line, label_lines, labelled_count, labelled_good_count, labels_in_order, listed_line, listed_with, summary_lines, under, unrun_tests}
use Rattle.ct_app.specs.Meant.{AreSeen, last_attempt, meant_verdict}
use Rattle.ct_app.specs.MeantTexts.{HasMeantTexts, HaveSameTexts}
use Rattle.ct_app.proofs.MeantLemmas.{IsRanked}
use Rattle.ct_app.proofs.MeantRunLemmas.{are_meant, passed_last}

-- what holds of each member holds along the list
pub each_member : {A : Type 0} (P : A → Type 0) (xs : List A) → ((x : A) → Contains xs x → P x) → AllByRecursion P xs
each_member P [] each = tt
each_member P (x ∷ xs) each = (each x (zero, omega arith, refl), each_member P xs (λ y within. each y (suc within.0, omega (arith, within.1), within.2)))

module _ {A S : Type 0} (p : A → Bool) (one other : S → A → S) where
  folds_with : (s : S) (x : A) (xs : List A) → (p x ≡ true → (s : S) → one s x ≡ other s x) → ((s : S) → fold one s (filter p xs) ≡ fold other s (filter p xs)) → (b : Bool) → p x ≡ b → fold one s (cond b (x ∷ filter p xs) (filter p xs)) ≡ fold other s (cond b (x ∷ filter p xs) (filter p xs))
  folds_with s x xs here rest true is = ap (λ (t : S). fold one t (filter p xs)) (here is s) ∙ rest (other s x)
  folds_with s x xs here rest false is = rest s

  -- two folds over the kept elements are equal, where their steps are equal on each kept element
  folds_same : (s : S) (xs : List A) → AllByRecursion (λ x. p x ≡ true → (s : S) → one s x ≡ other s x) xs → fold one s (filter p xs) ≡ fold other s (filter p xs)
  folds_same s [] same = refl
  folds_same s (x ∷ xs) same = folds_with s x xs same.0 (λ t. folds_same t xs same.1) (p x) refl

-- two functions that agree on each element of a list
module _ {A B : Type 0} (f g : A → B) where
  -- functions that agree on each element keep the same elements
  kept_same : (p : B → Bool) (xs : List A) → AllByRecursion (λ x. f x ≡ g x) xs → filter (λ x. p (f x)) xs ≡ filter (λ x. p (g x)) xs
  kept_same p [] same = refl
  kept_same p (x ∷ xs) same = λ i. cond (p (same.0 i)) (x ∷ kept_same p xs same.1 i) (kept_same p xs same.1 i)

  mapped_with : {C : Type 0} (h : A → B → C) (x : A) (xs ys : List A) → f x ≡ g x → map (λ z. h z (f z)) xs ≡ map (λ z. h z (g z)) ys → (b : Bool) → map (λ z. h z (f z)) (cond b (x ∷ xs) xs) ≡ map (λ z. h z (g z)) (cond b (x ∷ ys) ys)
  mapped_with h x xs ys here rest true = λ i. h x (here i) ∷ rest i
  mapped_with h x xs ys here rest false = rest

  -- functions that agree on each element map the kept elements to the same list
  mapped_same : {C : Type 0} (h : A → B → C) (p : B → Bool) (xs : List A) → AllByRecursion (λ x. f x ≡ g x) xs → map (λ x. h x (f x)) (filter (λ x. p (f x)) xs) ≡ map (λ x. h x (g x)) (filter (λ x. p (g x)) xs)
  mapped_same h p [] same = refl
  mapped_same h p (x ∷ xs) same =
      ap (λ (y : B). map (λ z. h z (f z)) (cond (p y) (x ∷ filter (λ z. p (f z)) xs) (filter (λ z. p (f z)) xs))) same.0
      ∙ mapped_with h x (filter (λ z. p (f z)) xs) (filter (λ z. p (g z)) xs) same.0 (mapped_same h p xs same.1) (p (g x))

  -- functions that agree on each element count the same
  counted_same : (p : A → B → Bool) (n : ℕ) (xs : List A) → AllByRecursion (λ x. f x ≡ g x) xs → fold (λ (a : ℕ) x. a + cond (p x (f x)) 1 0) n xs ≡ fold (λ (a : ℕ) x. a + cond (p x (g x)) 1 0) n xs
  counted_same p n [] same = refl
  counted_same p n (x ∷ xs) same =
      ap (λ (y : B). fold (λ (a : ℕ) z. a + cond (p z (f z)) 1 0) (n + cond (p x y) 1 0) xs) same.0 ∙ counted_same p (n + cond (p x (g x)) 1 0) xs same.1

-- two histories with the same verdict for each test of a plan,
-- and the same last attempt of each test that passed
module _ (plan : PlanParts) (one other : List Entry) (same : AllByRecursion (λ (t : PlanTest). verdict_in plan.repeat t one ≡ verdict_in plan.repeat t other) plan.tests) where
  abbrev by_one : PlanTest → Option Verdict
  by_one t = verdict_in plan.repeat t one

  abbrev by_other : PlanTest → Option Verdict
  by_other t = verdict_in plan.repeat t other

  counts_same : counts_line plan one ≡ counts_line plan other
  counts_same =
      let good : good_count plan one ≡ good_count plan other = counted_same by_one by_other (λ t v. is_good_in v) 0 plan.tests same in
      let failing : failed_tests plan one ≡ failed_tests plan other = kept_same by_one by_other is_failing_in plan.tests same in
      λ i. counts_with (good i) (length (failing i)) (length (enabled plan.tests))

  labelled_same : (label : List ℕ) → labelled_good_count plan one label ≡ labelled_good_count plan other label
  labelled_same label = counted_same by_one by_other (λ t v. is_good_in v && has_label label t) 0 plan.tests same

  labels_same : label_lines plan one ≡ label_lines plan other
  labels_same = λ i. map (λ label. label_line label (labelled_same label i) (labelled_count plan label)) (labels_in_order plan.tests)

  unrun_same : map (listed_line plan one) (unrun_tests plan one) ≡ map (listed_line plan other) (unrun_tests plan other)
  unrun_same = mapped_same by_one by_other listed_with is_unrun_in plan.tests same

  failing_same : map (listed_line plan one) (failed_tests plan one) ≡ map (listed_line plan other) (failed_tests plan other)
  failing_same = mapped_same by_one by_other listed_with is_failing_in plan.tests same

  summary_same : summary_lines plan one ≡ summary_lines plan other
  summary_same =
      λ i. codes "\n" ∷ counts_same i ∷ under (codes "Label Summary:\n") (labels_same i) ++ under (codes "The following tests did not run:\n") (unrun_same i) ++ failed_lines (failing_same i)

  failed_same : failed_tests plan one ≡ failed_tests plan other
  failed_same = kept_same by_one by_other is_failing_in plan.tests same

  module _ (last : AllByRecursion (λ (t : PlanTest). is_passed_verdict (verdict_in plan.repeat t other) ≡ true → last_seen t.number one ≡ last_seen t.number other) plan.tests) where
    steps_same : (ts : List PlanTest) → AllByRecursion (λ (t : PlanTest). is_passed_verdict (verdict_in plan.repeat t other) ≡ true → last_seen t.number one ≡ last_seen t.number other) ts
        → AllByRecursion (λ (t : PlanTest). is_passed_verdict (verdict_in plan.repeat t other) ≡ true → (lines : List CostLine) → after_test one lines t ≡ after_test other lines t) ts
    steps_same [] each = tt
    steps_same (t ∷ ts) each = (λ passed lines. ap (λ (o : Option Seen). after_run lines t.name (counted_micros o)) (each.0 passed), steps_same ts each.1)

    lines_same : (lines : List CostLine) → fold (after_test one) lines (passed_tests plan one) ≡ fold (after_test other) lines (passed_tests plan other)
    lines_same lines =
        ap (λ (ts : List PlanTest). fold (after_test one) lines ts) (kept_same by_one by_other is_passed_verdict plan.tests same)
        ∙ folds_same (λ (t : PlanTest). is_passed_verdict (by_other t)) (after_test one) (after_test other) lines plan.tests (steps_same plan.tests last)

    costs_same : (before : CostData) → costs_after plan one before ≡ costs_after plan other before
    costs_same before = λ i. record { lines = lines_same before.lines i; failed = each_once (map (λ (t : PlanTest). t.name) (failed_same i)) }

    texts_same : HaveSameTexts plan one other
    texts_same = record {
      summary = summary_same;
      costs = costs_same;
      log = ap (λ (ts : List PlanTest). flat_map logged ts) failed_same;
    }

module _ (plan : PlanParts) (ranked : IsRanked plan) (seen : ℕ → ℕ → Seen) (off : plan.stop_on_failure ≡ false) where
  module _ (es : List Entry) (legal : is_legal plan es ≡ true) (final : are_all_final plan es ≡ true) (are : AreSeen seen es) where
    verdict_meant : (t : PlanTest) → test_at plan.tests t.number ≡ Some t → verdict_in plan.repeat t es ≡ meant_verdict plan seen t.number
    verdict_meant t own = sym (ap (λ (o : Option PlanTest). verdict_at plan es o) own) ∙ (are_meant plan ranked seen es legal final are).unstopped off t.number

    last_meant : (t : PlanTest) → test_at plan.tests t.number ≡ Some t → is_passed_verdict (meant_verdict plan seen t.number) ≡ true → last_seen t.number es ≡ option_map (seen t.number) (last_attempt plan.repeat t.rules (seen t.number))
    last_meant t own passed = passed_last plan ranked seen es legal final are t own (ap is_passed_verdict (verdict_meant t own) ∙ passed)

  -- without --stop-on-failure a complete legal history has the same texts as each other one with the
  -- same seen attempts
  pub has_meant_texts : (es : List Entry) → is_legal plan es ≡ true → are_all_final plan es ≡ true → AreSeen seen es → HasMeantTexts plan seen es
  has_meant_texts es legal final are other legal_other final_other are_other = texts_same plan es other verdicts lasts
    where
      own : (t : PlanTest) → Contains plan.tests t → test_at plan.tests t.number ≡ Some t
      own t within = contained_at 1 plan.tests t ranked.numbers within

      verdicts : AllByRecursion (λ (t : PlanTest). verdict_in plan.repeat t es ≡ verdict_in plan.repeat t other) plan.tests
      verdicts =
          each_member (λ (t : PlanTest). verdict_in plan.repeat t es ≡ verdict_in plan.repeat t other) plan.tests
          (λ t within. verdict_meant es legal final are t (own t within) ∙ sym (verdict_meant other legal_other final_other are_other t (own t within)))

      lasts : AllByRecursion (λ (t : PlanTest). is_passed_verdict (verdict_in plan.repeat t other) ≡ true → last_seen t.number es ≡ last_seen t.number other) plan.tests
      lasts =
          each_member (λ (t : PlanTest). is_passed_verdict (verdict_in plan.repeat t other) ≡ true → last_seen t.number es ≡ last_seen t.number other) plan.tests
          (λ t within passed.
          let meant = sym (ap is_passed_verdict (verdict_meant other legal_other final_other are_other t (own t within))) ∙ passed in
          last_meant es legal final are t (own t within) meant ∙ sym (last_meant other legal_other final_other are_other t (own t within) meant))
