-- Lists that are sorted and rid of repeats.
use Rattle.std.proofs.Common.{◌≡◌, ◌∙◌, sym, ap, subst, Bool, true, false, cond, List, [], ◌∷◌, map, refl}
use Rattle.std.specs.Prelude.{IsPermutation, ◌||◌, ◌&&◌}
use Rattle.std.specs.declared.cmp.Ordering.{Ordering}
use Rattle.std.specs.declared.cmp.Ordering.TheVariants.{Less, Equal, Greater}
use Rattle.std.specs.Ordering.{eq_by_cmp, is_eq, on, ordering_then}
use Rattle.std.specs.Cmp.{IsTotalOrder}
use Rattle.std.specs.List.{AllByRecursion, dedup, dedup_from, list_any}
use Rattle.std.specs.List.Sorted.{IsSorted, IsStrictlySortedBy}
use Rattle.std.proofs.lemmas.Cmp.{on_total}
use Rattle.std.proofs.lemmas.List.Kept.{IsStrictlySortedBy-dedup}
use Rattle.std.proofs.lemmas.List.Sorted.{list_any-IsPermutation}
use Rattle.ct_times.specs.First.{AreSortedOnce}

-- an order that two orders make: where neither decides, both are equal
pub then_tied : (one other : Ordering) → is_eq (ordering_then one other) ≡ (is_eq one && is_eq other)
then_tied Less other = refl
then_tied Equal other = refl
then_tied Greater other = refl

any_mapped : {X A : Type 0} (f : X → A) (p : A → Bool) (xs : List X) → list_any p (map f xs) ≡ list_any (λ (x : X). p (f x)) xs
any_mapped f p [] = refl
any_mapped f p (x ∷ xs) = ap (λ (b : Bool). p (f x) || b) (any_mapped f p xs)

module _ {X : Type 0} (same : X → X → Bool) (p : X → Bool) (alike : (x y : X) → same x y ≡ true → p x ≡ p y) where
  twice : (b c : Bool) → (b || (b || c)) ≡ (b || c)
  twice true c = refl
  twice false c = refl

  any_once_from : (k : X) (xs : List X) → list_any p (dedup_from same k xs) ≡ (p k || list_any p xs)
  any_once_from k [] = refl
  any_once_from k (x ∷ xs) = by (same x k) refl (any_once_from k xs) (any_once_from x xs)
    where
      by : (b : Bool) → same x k ≡ b → list_any p (dedup_from same k xs) ≡ (p k || list_any p xs) → list_any p (dedup_from same x xs) ≡ (p x || list_any p xs)
          → list_any p (cond b (dedup_from same k xs) (k ∷ dedup_from same x xs)) ≡ (p k || (p x || list_any p xs))
      by true is first second = first ∙ sym (ap (λ (b : Bool). p k || (b || list_any p xs)) (alike x k is) ∙ twice (p k) (list_any p xs))
      by false is first second = ap (λ (b : Bool). p k || b) second

  -- without repeats, some item passes a test exactly where one did
  any_once : (xs : List X) → list_any p (dedup same xs) ≡ list_any p xs
  any_once [] = refl
  any_once (x ∷ xs) = any_once_from x xs

module _ {X A : Type 0} (f : X → A) {R : A → A → Ordering} (o : IsTotalOrder R) (same : X → X → Bool) (ties : (x y : X) → same x y ≡ eq_by_cmp R (f x) (f y)) (alike : (x y : X) → same x y ≡ true → f x ≡ f y) where
  all_mapped : (P : A → Type 0) (xs : List X) → AllByRecursion (λ (x : X). P (f x)) xs → AllByRecursion P (map f xs)
  all_mapped P [] all = tt
  all_mapped P (x ∷ xs) all = (all.0, all_mapped P xs all.1)

  sorted_mapped : (xs : List X) → IsStrictlySortedBy (on f R) xs → IsStrictlySortedBy R (map f xs)
  unfolding IsStrictlySortedBy
  sorted_mapped [] s = tt
  sorted_mapped (x ∷ xs) s = (all_mapped (λ (y : A). R (f x) y ≡ Less) xs s.0, sorted_mapped xs s.1)

  -- what is sorted and then rid of repeats is in order
  pub in_order : (items sorted once : List X) → IsPermutation items sorted → IsSorted (on f R) sorted → once ≡ dedup same sorted → AreSortedOnce R (map f items) (map f once)
  in_order items sorted once shuffled up is = record {
    ascend = sorted_mapped once (subst (λ (xs : List X). IsStrictlySortedBy (on f R) xs) (sym is) (IsStrictlySortedBy-dedup (on_total f o) ties sorted up));
    same = λ p.
        any_mapped f p once
        ∙ ap (list_any (λ (x : X). p (f x))) is
        ∙ any_once same (λ (x : X). p (f x)) (λ x y e. ap p (alike x y e)) sorted
        ∙ sym (list_any-IsPermutation (λ (x : X). p (f x)) items sorted shuffled)
        ∙ sym (any_mapped f p items);
  }
