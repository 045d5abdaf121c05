-- Whether some test passes, once the test with one number alone has changed.
use Rattle.std.proofs.Common.{◌≡◌, ◌∙◌, sym, ap, ℕ, ◌+◌, ◌<◌, Bool, false, List, [], ◌∷◌, map, refl, arith, cond, inl, inr, Option, Some, None}
use Rattle.std.specs.Prelude.{◌==◌, ◌||◌}
use Rattle.std.specs.List.{list_any}
use Rattle.std.proofs.lemmas.Bool.{cases_Bool, or_from, or_parts}
use Rattle.std.proofs.lemmas.Bool.Decides.{nat_tests}
use Rattle.std.proofs.Math.Bool.{or-false}
use Rattle.ct_history.specs.declared.plan.PlanTest.{PlanTest}
use Rattle.ct_history.specs.Plan.{IsAscendingFrom, test_at}

-- the test that was looked up is there and passes
abbrev pub holds_at : (PlanTest → Bool) → Option PlanTest → Bool
holds_at q None = false
holds_at q (Some t) = q t

-- two predicates on tests that agree on each test but the one with this number
module _ (p q : PlanTest → Bool) (n : ℕ) (same : (u : PlanTest) → (u.number == n) ≡ false → q u ≡ p u) where
  none_above : (least : ℕ) (ts : List PlanTest) → IsAscendingFrom least (map (λ (x : PlanTest). x.number) ts) → n < least → list_any p ts ≡ false → list_any q ts ≡ false
  none_above least [] ascends lt none = refl
  none_above least (x ∷ xs) ascends lt none =
      let le = ascends.0 in
      let other : (x.number == n) ≡ false = grind (arith, nat_tests) in
      let both = or_parts (p x) (list_any p xs) none in
      or_from (q x) (list_any q xs) (same x other ∙ both.0) (none_above (x.number + 1) xs ascends.1 (omega (arith, lt, le)) both.1)

  -- if no test passed the first one, some test passes the second exactly if the test with this number does
  pub any_one : (least : ℕ) (ts : List PlanTest) → IsAscendingFrom least (map (λ (x : PlanTest). x.number) ts) → list_any p ts ≡ false → list_any q ts ≡ holds_at q (test_at ts n)
  any_one least [] ascends none = refl
  any_one least (x ∷ xs) ascends none =
      let both = or_parts (p x) (list_any p xs) none in
      elim (cases_Bool (x.number == n)) [
        | inl here ↦
            let above : n < x.number + 1 = grind (arith, nat_tests) in
            ap (λ (b : Bool). q x || b) (none_above (x.number + 1) xs ascends.1 above both.1)
            ∙ or-false (q x)
            ∙ sym (ap (λ (b : Bool). holds_at q (cond b (Some x) (test_at xs n))) here)
        | inr other ↦
            ap (λ (b : Bool). b || list_any q xs) (same x other ∙ both.0)
            ∙ any_one (x.number + 1) xs ascends.1 both.1
            ∙ sym (ap (λ (b : Bool). holds_at q (cond b (Some x) (test_at xs n))) other)
      ]
