-- A history that follows the queue, with one more entry.
use Rattle.std.proofs.Common.{◌≡◌, sym, ap, subst, Bool, true, false, List, [], ◌∷◌, ◌++◌, refl, inl, inr}
use Rattle.std.specs.Prelude.{◌⊎◌, if◌then◌else◌}
use Rattle.ct_history.specs.declared.plan.PlanParts.{PlanParts}
use Rattle.ct_history.specs.declared.history.Entry.{Entry}
use Rattle.ct_history.specs.declared.history.Entry.TheVariants.{Stop}
use Rattle.ct_history.specs.Legal.{is_stop_due}
use Rattle.ct_core.specs.declared.run.Run.{Run}
use Rattle.ct_core.specs.Core.{with_due_stop}
use Rattle.ct_core.specs.Order.{FollowsQueue, IsNextInOrder}
use Rattle.ct_core.specs.Run.{IsKeptRun, IsOrderlyRun, history_of_run}

-- the empty list has no element
nil_splits : {A : Type 0} (front back : List A) (x : A) → [] ≡ front ++ x ∷ back → ⊥
nil_splits [] back x is = cc
nil_splits (y ∷ ys) back x is = cc

-- an element of a list with one more element is the new one, or an element of the old list
snoc_splits : {A : Type 0} (xs front back : List A) (e x : A) → xs ++ e ∷ [] ≡ front ++ x ∷ back → ((xs ≡ front) × (e ≡ x)) ⊎ ((rest : List A) × (xs ≡ front ++ x ∷ rest))
snoc_splits [] [] back e x is = let same : e ≡ x = cc in inl (refl, same)
snoc_splits [] (y ∷ ys) back e x is = let none : [] ≡ ys ++ x ∷ back = cc in absurd (nil_splits ys back x none)
snoc_splits (z ∷ zs) [] back e x is = let same : z ≡ x = cc in inr (zs, ap (λ y. y ∷ zs) same)
snoc_splits (z ∷ zs) (y ∷ ys) back e x is =
    let same : z ≡ y = cc in
    let rest : zs ++ e ∷ [] ≡ ys ++ x ∷ back = cc in
    elim (snoc_splits zs ys back e x rest) [
      | inl last ↦ let whole : (z ∷ zs) ≡ (y ∷ ys) = cc in inl (whole, last.1)
      | inr before ↦ let whole : (z ∷ zs) ≡ y ∷ (ys ++ x ∷ before.0) = cc in inr (before.0, whole)
    ]

-- the empty history follows the queue
pub follows-nil : (plan : PlanParts) → FollowsQueue plan []
follows-nil plan = λ front x back is. absurd (nil_splits front back x is)

-- a history that follows the queue still does with the next entry behind it
pub follows-snoc : (plan : PlanParts) (es : List Entry) (e : Entry) → FollowsQueue plan es → IsNextInOrder plan es e → FollowsQueue plan (es ++ e ∷ [])
follows-snoc plan es e follows next = λ front x back is. elim (snoc_splits es front back e x is) [
  | inl last ↦ subst (λ (xs : List Entry). IsNextInOrder plan xs x) last.0 (subst (λ (y : Entry). IsNextInOrder plan es y) last.1 next)
  | inr before ↦ follows front x before.0 before.1
]

-- a history that follows the queue still does with the next entry and the Stop that it makes due
pub follows_due : (plan : PlanParts) (es : List Entry) (e : Entry) → FollowsQueue plan es → IsNextInOrder plan es e → FollowsQueue plan (with_due_stop plan (es ++ e ∷ []))
follows_due plan es e follows next = by (is_stop_due plan (es ++ e ∷ []))
  where
    one : FollowsQueue plan (es ++ e ∷ [])
    one = follows-snoc plan es e follows next

    by : (due : Bool) → FollowsQueue plan (if due then (es ++ e ∷ []) ++ Stop ∷ [] else es ++ e ∷ [])
    by true = follows-snoc plan (es ++ e ∷ []) Stop one tt
    by false = one

-- a run stays orderly with the next entry, and with a Stop if that entry makes one due
module _ (old new : Run) (kept : IsKeptRun new) (plan : new.plan ≡ old.plan) where
  pub orderly : (es : List Entry) → history_of_run new ≡ es → FollowsQueue old.plan es → IsOrderlyRun new
  orderly es is follows = record {
    kept = kept;
    order = subst (λ (p : PlanParts). FollowsQueue p (history_of_run new)) (sym plan) (subst (λ (xs : List Entry). FollowsQueue old.plan xs) (sym is) follows);
  }

  pub orderly_with : (e : Entry) → IsOrderlyRun old → IsNextInOrder old.plan (history_of_run old) e → history_of_run new ≡ history_of_run old ++ e ∷ [] → IsOrderlyRun new
  orderly_with e before next is = orderly (history_of_run old ++ e ∷ []) is (follows-snoc old.plan (history_of_run old) e before.order next)

  pub orderly_due : (e : Entry) → IsOrderlyRun old → IsNextInOrder old.plan (history_of_run old) e → history_of_run new ≡ with_due_stop old.plan (history_of_run old ++ e ∷ []) → IsOrderlyRun new
  orderly_due e before next is = orderly (with_due_stop old.plan (history_of_run old ++ e ∷ [])) is (follows_due old.plan (history_of_run old) e before.order next)
