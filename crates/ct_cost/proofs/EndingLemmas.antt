-- The lines, the failed names and the log of a run, by how its tests ended.
use Rattle.std.proofs.Common.{◌≡◌, ℕ, Bool, true, false, cond, List, [], ◌∷◌, ◌++◌, map, filter, flat_map, fold, Some, None, refl, ap, subst, ◌∙◌}
use Rattle.std.specs.List.{list_all}
use Rattle.std.proofs.lemmas.Bool.{and_parts}
use Rattle.indexmap.specs.IndexMap.{IndexMap}
use Rattle.ct_verdict.specs.declared.repeat.Repeat.{Repeat}
use Rattle.ct_history.specs.declared.course.Course.{Course}
use Rattle.ct_history.specs.declared.plan.PlanTest.{PlanTest}
use Rattle.ct_history.specs.declared.history.Entry.{Entry}
use Rattle.ct_history.specs.Course.{AreCourses, course_at}
use Rattle.ct_history.specs.Endings.{last_seen}
use Rattle.ct_history.specs.declared.plan.PlanParts.{PlanParts}
use Rattle.ct_history.specs.Failed.{failed_tests}
use Rattle.ct_history.specs.Verdicts.{verdict_in, are_all_final, is_final_in, is_passed_verdict, is_failing_in}
use Rattle.ct_history.proofs.CourseLemmas.{final_verdict, last_is}
use Rattle.ct_base.specs.Names.{each_once, with_new_name}
use Rattle.ct_cost.specs.CostLine.{CostLine, Costs}
use Rattle.ct_cost.specs.After.{counted_micros, after_test, logged, passed_tests}
use Rattle.ct_cost.specs.Costs.{costs_after}
use Rattle.ct_cost.specs.Endings.{passed_micros, fails_by, after_passed, after_ending, with_failed, log_by}

-- cost data with these lines and these failed names
abbrev costs_of : List CostLine → List (List ℕ) → Costs
costs_of lines failed = record { lines = lines; failed = failed }

module _ {S : Type 0} (courses : IndexMap ℕ Course S) (repeat : Repeat) (es : List Entry) (are : AreCourses courses es) where
  passed_by : (t : PlanTest) → is_final_in repeat t es ≡ true → passed_micros t (course_at courses t.number) ≡ cond (is_passed_verdict (verdict_in repeat t es)) (Some (counted_micros (last_seen t.number es))) None
  passed_by t ended =
      ap (passed_micros t) (are t.number)
      ∙ (λ i. cond (is_passed_verdict (final_verdict repeat t es ended i)) (Some (counted_micros (last_is es t.number i))) None)

  failing_by : (t : PlanTest) → is_final_in repeat t es ≡ true → fails_by t (course_at courses t.number) ≡ is_failing_in (verdict_in repeat t es)
  failing_by t ended = ap (fails_by t) (are t.number) ∙ ap is_failing_in (final_verdict repeat t es ended)

  lines_by : (lines : List CostLine) (t : PlanTest) (ts more : List PlanTest) → ((ls : List CostLine) → fold (after_ending courses) ls ts ≡ fold (after_test es) ls more) → (b : Bool)
      → fold (after_ending courses) (after_passed lines t.name (cond b (Some (counted_micros (last_seen t.number es))) None)) ts ≡ fold (after_test es) lines (cond b (t ∷ more) more)
  lines_by lines t ts more rest true = rest (after_test es lines t)
  lines_by lines t ts more rest false = rest lines

  -- the lines after all tests
  pub lines_after : (lines : List CostLine) (tests : List PlanTest) → list_all (λ t. is_final_in repeat t es) tests ≡ true
      → fold (after_ending courses) lines tests ≡ fold (after_test es) lines (filter (λ (t : PlanTest). is_passed_verdict (verdict_in repeat t es)) tests)
  lines_after lines [] ended = refl
  lines_after lines (t ∷ ts) ended =
      let parts = and_parts _ _ ended in
      ap (λ passed. fold (after_ending courses) (after_passed lines t.name passed) ts) (passed_by t parts.0)
      ∙ lines_by lines t ts (filter (λ (u : PlanTest). is_passed_verdict (verdict_in repeat u es)) ts) (λ ls. lines_after ls ts parts.1) (is_passed_verdict (verdict_in repeat t es))

  names_by : (names : List (List ℕ)) (t : PlanTest) (ts more : List PlanTest) → ((ns : List (List ℕ)) → fold (with_failed courses) ns ts ≡ fold with_new_name ns (map (λ (u : PlanTest). u.name) more)) → (b : Bool)
      → fold (with_failed courses) (cond b (with_new_name names t.name) names) ts ≡ fold with_new_name names (map (λ (u : PlanTest). u.name) (cond b (t ∷ more) more))
  names_by names t ts more rest true = rest (with_new_name names t.name)
  names_by names t ts more rest false = rest names

  -- the failed names of all tests
  pub names_after : (names : List (List ℕ)) (tests : List PlanTest) → list_all (λ t. is_final_in repeat t es) tests ≡ true
      → fold (with_failed courses) names tests ≡ fold with_new_name names (map (λ (t : PlanTest). t.name) (filter (λ (t : PlanTest). is_failing_in (verdict_in repeat t es)) tests))
  names_after names [] ended = refl
  names_after names (t ∷ ts) ended =
      let parts = and_parts _ _ ended in
      ap (λ b. fold (with_failed courses) (cond b (with_new_name names t.name) names) ts) (failing_by t parts.0)
      ∙ names_by names t ts (filter (λ (u : PlanTest). is_failing_in (verdict_in repeat u es)) ts) (λ ns. names_after ns ts parts.1) (is_failing_in (verdict_in repeat t es))

  log_one : (t : PlanTest) (more : List PlanTest) (b : Bool) → cond b (logged t) [] ++ flat_map logged more ≡ flat_map logged (cond b (t ∷ more) more)
  log_one t more true = refl
  log_one t more false = refl

  -- the log of all tests
  pub log_after : (tests : List PlanTest) → list_all (λ t. is_final_in repeat t es) tests ≡ true
      → flat_map (log_by courses) tests ≡ flat_map logged (filter (λ (t : PlanTest). is_failing_in (verdict_in repeat t es)) tests)
  log_after [] ended = refl
  log_after (t ∷ ts) ended =
      let parts = and_parts _ _ ended in
      (λ i. cond (failing_by t parts.0 i) (logged t) [] ++ log_after ts parts.1 i)
      ∙ log_one t (filter (λ (u : PlanTest). is_failing_in (verdict_in repeat u es)) ts) (is_failing_in (verdict_in repeat t es))

-- the lines and the failed names that the tests leave one by one are the cost data after the run
pub costs_made : {S : Type 0} (courses : IndexMap ℕ Course S) (plan : PlanParts) (es items : List Entry) → items ≡ es → AreCourses courses items → are_all_final plan es ≡ true → (costs before : Costs) (copied lines : List CostLine) (empty failed : List (List ℕ)) (tests : List PlanTest) → tests ≡ plan.tests → before ≡ costs → copied ≡ before.lines → empty ≡ []
    → lines ≡ fold (after_ending courses) copied tests → failed ≡ fold (with_failed courses) empty tests → costs_of lines failed ≡ costs_after plan es costs
costs_made courses plan es items held known ended costs before copied lines empty failed tests all is copy none counted named =
    let are = subst (AreCourses courses) held known in
    let started : copied ≡ costs.lines = copy ∙ ap (λ (c : Costs). c.lines) is in
    let made : lines ≡ fold (after_test es) costs.lines (passed_tests plan es) =
    counted ∙ (λ i. fold (after_ending courses) (started i) (all i)) ∙ lines_after courses plan.repeat es are costs.lines plan.tests ended in
    let told : failed ≡ each_once (map (λ (t : PlanTest). t.name) (failed_tests plan es)) =
    named ∙ (λ i. fold (with_failed courses) (none i) (all i)) ∙ names_after courses plan.repeat es are [] plan.tests ended in
    λ i. costs_of (made i) (told i)
