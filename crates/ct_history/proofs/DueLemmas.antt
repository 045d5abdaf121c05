-- Whether some test has a failing verdict behind an allowed entry, and whether a Stop is due there.
use Rattle.std.proofs.Common.{◌≡◌, ◌∙◌, sym, ap, ℕ, ◌+◌, ◌<◌, Bool, true, false, not, ◌&&◌, List, [], ◌∷◌, ◌++◌, map, refl, arith, cond, inl, inr, Option, Some, None}
use Rattle.std.specs.Prelude.{◌==◌, ◌||◌}
use Rattle.std.specs.List.{list_any}
use Rattle.std.proofs.lemmas.Bool.{cases_Bool, or_from, or_parts}
use Rattle.std.proofs.lemmas.Bool.Decides.{nat_tests}
use Rattle.std.proofs.Math.Bool.{or-false}
use Rattle.ct_history.specs.declared.plan.PlanTest.{PlanTest}
use Rattle.ct_history.specs.declared.plan.PlanParts.{PlanParts}
use Rattle.ct_history.specs.declared.history.Entry.{Entry}
use Rattle.ct_history.specs.declared.history.Entry.TheVariants.{Start, End, Settle, Stop}
use Rattle.ct_history.specs.Plan.{IsAscendingFrom, IsSound, test_at}
use Rattle.ct_history.specs.Verdicts.{is_failing_in, verdict_at, verdict_in, verdict_of_test}
use Rattle.ct_history.specs.Legal.{has_failing, is_allowed, is_stop_due}
use Rattle.ct_history.proofs.BoolLemmas.{flipped}
use Rattle.ct_history.proofs.FailingLemmas.{any_one, holds_at}
use Rattle.ct_history.proofs.LegalLemmas.{due-snoc, failing_stays}
use Rattle.ct_history.proofs.OtherLemmas.{is_about, verdict_in_other}
use Rattle.ct_history.specs.Seen.{test_of_entry}

-- the test that an entry is about has a failing verdict
abbrev pub has_failed_in : PlanParts → List Entry → Option ℕ → Bool
has_failed_in plan entries None = false
has_failed_in plan entries (Some number) = is_failing_in (verdict_of_test plan entries number)

module _ (plan : PlanParts) (sound : IsSound plan) (es : List Entry) where
  at_found : (now : List Entry) (o : Option PlanTest) → holds_at (λ u. is_failing_in (verdict_in plan.repeat u now)) o ≡ is_failing_in (verdict_at plan now o)
  at_found now None = refl
  at_found now (Some t) = refl

  failing_one : (e : Entry) (n : ℕ) → ((u : ℕ) → (u == n) ≡ false → is_about u e ≡ false) → has_failing plan es ≡ false → has_failing plan (es ++ e ∷ []) ≡ is_failing_in (verdict_of_test plan (es ++ e ∷ []) n)
  failing_one e n only none =
      any_one (λ u. is_failing_in (verdict_in plan.repeat u es)) (λ u. is_failing_in (verdict_in plan.repeat u (es ++ e ∷ []))) n
      (λ u other. ap is_failing_in (verdict_in_other plan.repeat u es e (only u.number other))) 1 plan.tests sound.numbers none
      ∙ at_found (es ++ e ∷ []) (test_at plan.tests n)

  by_before : (e : Entry) (now : Bool) → is_allowed plan es e ≡ true → (has_failing plan es ≡ false → has_failing plan (es ++ e ∷ []) ≡ now) → has_failing plan (es ++ e ∷ []) ≡ (has_failing plan es || now)
  by_before e now allowed fresh = elim (cases_Bool (has_failing plan es)) [
    | inl failing ↦ failing_stays plan sound.numbers es e allowed failing ∙ sym (ap (λ (b : Bool). b || now) failing)
    | inr none ↦ fresh none ∙ sym (ap (λ (b : Bool). b || now) none)
  ]

  -- some test has a failing verdict behind an allowed entry exactly where one had, or the entry's test has one
  pub failing_more : (e : Entry) → is_allowed plan es e ≡ true → has_failing plan (es ++ e ∷ []) ≡ (has_failing plan es || has_failed_in plan (es ++ e ∷ []) (test_of_entry e))
  failing_more (Start n a w p) allowed = by_before (Start n a w p) _ allowed (λ none. failing_one (Start n a w p) n (λ u other. flipped u n other) none)
  failing_more (End n a w s) allowed = by_before (End n a w s) _ allowed (λ none. failing_one (End n a w s) n (λ u other. flipped u n other) none)
  failing_more (Settle n c) allowed = by_before (Settle n c) _ allowed (λ none. failing_one (Settle n c) n (λ u other. flipped u n other) none)
  failing_more Stop allowed =
      by_before Stop false allowed (λ none. (λ i. list_any (λ (u : PlanTest). is_failing_in (verdict_in_other plan.repeat u es Stop refl i)) plan.tests) ∙ none)

  -- a Stop is due behind an allowed entry exactly where the entry's test is the first with a failing verdict
  pub due_more : (e : Entry) → is_allowed plan es e ≡ true → is_stop_due plan (es ++ e ∷ []) ≡ (plan.stop_on_failure && has_failed_in plan (es ++ e ∷ []) (test_of_entry e) && not (has_failing plan es))
  due_more e allowed =
      due-snoc plan es e
      ∙ ap (λ (b : Bool). plan.stop_on_failure && (b && not (has_failing plan es))) (failing_more e allowed)
      ∙ by_tests plan.stop_on_failure (has_failing plan es) (has_failed_in plan (es ++ e ∷ []) (test_of_entry e))
    where
      by_tests : (on was now : Bool) → (on && ((was || now) && not was)) ≡ (on && now && not was)
      by_tests false was now = refl
      by_tests true true true = refl
      by_tests true true false = refl
      by_tests true false true = refl
      by_tests true false false = refl
