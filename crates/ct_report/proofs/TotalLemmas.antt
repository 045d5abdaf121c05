-- The totals with one test more, and what is put under a heading.
use Rattle.std.proofs.Common.{◌≡◌, ◌∙◌, sym, ap, ℕ, ◌+◌, ◌-◌, ◌^◌, ◌<◌, ◌≤◌, Bool, true, false, not, ◌&&◌, cond, List, [], ◌∷◌, ◌++◌, length, get_or, take, map, filter, count_by, codes, refl, append_assoc, arith, eqb-true, ◌==◌}
use Rattle.std.proofs.lemmas.List.{length-take-le, map-append}
use Rattle.std.proofs.lemmas.List.Elements.{filter_more}
use Rattle.std.proofs.lemmas.List.Sums.{count_by-le-length, sum_by_more}
use Rattle.std.specs.Prelude.{Vec}
use Rattle.std.specs.BTreeMap.{BTreeMap}
use Rattle.ct_history.specs.declared.plan.PlanTest.{PlanTest}
use Rattle.ct_history.specs.declared.plan.PlanParts.{PlanParts}
use Rattle.ct_history.specs.declared.history.Entry.{Entry}
use Rattle.ct_history.specs.Verdicts.{are_all_final, verdict_in, is_failing_in, is_final_in}
use Rattle.ct_history.proofs.BoolLemmas.{all_at}
use Rattle.ct_report.specs.declared.totals.Totals.{Totals}
use Rattle.ct_report.specs.Labels.{label_count, CanCountMore}
use Rattle.ct_report.specs.Report.{failed_lines, has_label, is_good_in, is_unrun_in, label_line, label_lines, labelled_count, labelled_good_count, labels_in_order, listed_line, under}
use Rattle.ct_report.specs.Totals.{AddsToTotals, AreTotals}

listed_by : {A B : Type 0} (f : A → B) (x : A) (wanted : Bool) → map f (cond wanted (x ∷ []) []) ≡ cond wanted (f x ∷ []) []
listed_by f x true = refl
listed_by f x false = refl

-- the elements that pass a test, with one more element
more_listed : {A B : Type 0} (f : A → B) (p : A → Bool) (xs : List A) (at : ℕ) (x : A) → at < length xs → x ≡ get_or xs at x → map f (filter p (take (at + 1) xs)) ≡ map f (filter p (take at xs)) ++ cond (p x) (f x ∷ []) []
more_listed {A = A} {B = B} f p xs at x within is =
    ap (λ (ys : List A). map f ys) (filter_more p xs at x within)
    ∙ map-append f (filter p (take at xs)) (cond (p (get_or xs at x)) (get_or xs at x ∷ []) [])
    ∙ ap (λ (ys : List B). map f (filter p (take at xs)) ++ ys) (listed_by f (get_or xs at x) (p (get_or xs at x)))
    ∙ ap (λ (y : A). map f (filter p (take at xs)) ++ cond (p y) (f y ∷ []) []) (sym is)

-- how many elements pass a test, with one more element
more_counted : {A : Type 0} (p : A → Bool) (xs : List A) (at : ℕ) (x : A) → at < length xs → x ≡ get_or xs at x → count_by p (take (at + 1) xs) ≡ count_by p (take at xs) + cond (p x) 1 0
more_counted {A = A} p xs at x within is =
    sum_by_more (λ y. cond (p y) 1 0) xs at x within ∙ ap (λ (y : A). count_by p (take at xs) + cond (p y) 1 0) (sym is)

-- where all tests of a plan are final, the one at a place is
pub final_there : (plan : PlanParts) (entries : List Entry) (at : ℕ) (t : PlanTest) → are_all_final plan entries ≡ true → at < length plan.tests → t ≡ get_or plan.tests at t → is_final_in plan.repeat t entries ≡ true
final_there plan entries at t all within is = ap (λ (u : PlanTest). is_final_in plan.repeat u entries) is ∙ all_at (λ u. is_final_in plan.repeat u entries) plan.tests at t all within

fewer : (bound place count sum len : ℕ) → place < bound → count ≡ sum → sum ≤ len → len ≡ place → count < bound
fewer bound place count sum len below is most long = omega (arith, below, is, most, long)

-- how many of the tests in front of a place are counted is below a bound that the place is below
pub counted_below : (count bound : ℕ) (counted : PlanTest → Bool) (tests : List PlanTest) (at : ℕ) → at < length tests → at < bound → count ≡ count_by counted (take at tests) → count < bound
counted_below count bound counted tests at within below is = fewer bound at count (count_by counted (take at tests)) (length (take at tests)) below is (count_by-le-length counted (take at tests)) (length-take-le at tests (omega (arith, within)))

-- what is counted in front of a place leaves room for one test more
pub has_room : {Y : Type 0} (counts : BTreeMap (Vec ℕ Y) ℕ) (counted : List ℕ → PlanTest → Bool) (tests : List PlanTest) (at : ℕ) → at < length tests → at < 2 ^ 64 - 1 → ((label : List ℕ) → label_count counts label ≡ count_by (counted label) (take at tests)) → CanCountMore counts
has_room counts counted tests at within below are = λ label. counted_below (label_count counts label) (2 ^ 64 - 1) (counted label) tests at within below (are label)

-- the totals of the tests in front of one, and of that one too
module _ (plan : PlanParts) (entries : List Entry) (tests : List PlanTest) (at : ℕ) (t : PlanTest) (within : at < length tests) (is : t ≡ get_or tests at t) (before after : Totals) (were : AreTotals plan entries (take at tests) before) where
  abbrev good : PlanTest → Bool
  good u = is_good_in (verdict_in plan.repeat u entries)

  pub one_test_more : AddsToTotals t (verdict_in plan.repeat t entries) before after → AreTotals plan entries (take (at + 1) tests) after
  one_test_more adds = record {
    good = adds.good ∙ ap (λ n. n + cond (good t) 1 0) were.good ∙ sym (more_counted good tests at t within is);
    unrun = adds.unrun ∙ ap (λ ls. ls ++ cond (is_unrun_in (verdict_in plan.repeat t entries)) (listed_line plan entries t ∷ []) []) were.unrun ∙ sym (more_listed (listed_line plan entries) (λ u. is_unrun_in (verdict_in plan.repeat u entries)) tests at t within is);
    failed = adds.failed ∙ ap (λ ls. ls ++ cond (is_failing_in (verdict_in plan.repeat t entries)) (listed_line plan entries t ∷ []) []) were.failed ∙ sym (more_listed (listed_line plan entries) (λ u. is_failing_in (verdict_in plan.repeat u entries)) tests at t within is);
    labelled = λ label. adds.labelled label ∙ ap (λ n. n + cond (not t.disabled && has_label label t) 1 0) (were.labelled label) ∙ sym (more_counted (λ (u : PlanTest). not u.disabled && has_label label u) tests at t within is);
    labelled_good = λ label. adds.labelled_good label ∙ ap (λ n. n + cond (good t && has_label label t) 1 0) (were.labelled_good label) ∙ sym (more_counted (λ u. good u && has_label label u) tests at t within is);
  }

full : (length {A = List ℕ} [] == 0) ≡ false → ⊥
full is = cc

-- lines that are not empty stand under a blank line and their heading
pub under_some : (heading : List ℕ) (lines : List (List ℕ)) → (length lines == 0) ≡ false → under heading lines ≡ codes "\n" ∷ heading ∷ lines
under_some heading [] some = absurd (full some)
under_some heading (line ∷ lines) some = refl

pub under_none : (heading : List ℕ) (lines : List (List ℕ)) → (length lines == 0) ≡ true → under heading lines ≡ []
under_none heading [] none = refl
under_none heading (line ∷ lines) none = absurd (omega (arith, eqb-true (length (line ∷ lines)) 0 none))

pub failed_some : (lines : List (List ℕ)) → (length lines == 0) ≡ false → failed_lines lines ≡ under (codes "The following tests FAILED:\n") lines ++ codes "Errors while running CTest\n" ∷ []
failed_some [] some = absurd (full some)
failed_some (line ∷ lines) some = refl

pub failed_none : (lines : List (List ℕ)) → (length lines == 0) ≡ true → failed_lines lines ≡ []
failed_none [] none = refl
failed_none (line ∷ lines) none = absurd (omega (arith, eqb-true (length (line ∷ lines)) 0 none))

-- two elements and a list, each put behind what was there
pub two_behind : {A : Type 0} (front : List A) (one two : A) (rest : List A) → ((front ++ one ∷ []) ++ two ∷ []) ++ rest ≡ front ++ (one ∷ two ∷ rest)
two_behind front one two rest = simp append_assoc

-- the lines of the labels, by the counts of the totals
pub lines_are : (plan : PlanParts) (entries : List Entry) (totals : Totals) (labels : List (List ℕ)) → AreTotals plan entries plan.tests totals → labels ≡ labels_in_order plan.tests → map (λ label. label_line label (label_count totals.labelled_good label) (label_count totals.labelled label)) labels ≡ label_lines plan entries
lines_are plan entries totals labels are names =
    (λ i. map (λ label. label_line label (are.labelled_good label i) (are.labelled label i)) labels)
    ∙ ap (λ ls. map (λ label. label_line label (labelled_good_count plan entries label) (labelled_count plan label)) ls) names
