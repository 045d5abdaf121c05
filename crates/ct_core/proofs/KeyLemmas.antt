-- The bunches of a run stay right: no step changes a key, or the bunch of a place. Behind
-- a Stop the ready set stays right: no entry changes what stands in front of the Stop.
use Rattle.std.proofs.Common.{◌≡◌, ◌∷◌, ◌++◌, [], sym, subst, refl, ap, ℕ, true, false, List}
use Rattle.std.specs.Prelude.{Option}
use Rattle.ct_history.specs.declared.history.Entry.{Entry}
use Rattle.ct_history.specs.declared.history.Entry.TheVariants.{Start, End, Settle, Stop}
use Rattle.ct_history.specs.History.{has_stop}
use Rattle.ct_history.specs.declared.plan.PlanParts.{PlanParts}
use Rattle.ct_core.specs.declared.parts.Parts.{Parts}
use Rattle.ct_core.specs.declared.bunches.KeyPlace.{KeyPlace}
use Rattle.ct_core.specs.Bunches.{AreBunchesOf}
use Rattle.ct_core.specs.Parts.{before_stop}
use Rattle.ct_core.specs.Waiting.{IsQueued}
use Rattle.ct_queue.specs.Ready.{ReadyValue}

pub bunches_stay : (plan : PlanParts) (old new : Parts) → new.keys.items ≡ old.keys.items → new.ready.bunches ≡ old.ready.bunches → AreBunchesOf plan old.keys.items old.ready.bunches → AreBunchesOf plan new.keys.items new.ready.bunches
bunches_stay plan old new keys bunches are =
    subst (λ (ks : List (Option KeyPlace)). AreBunchesOf plan ks new.ready.bunches) (sym keys)
    (subst (λ (bs : List ℕ). AreBunchesOf plan old.keys.items bs) (sym bunches) are)

-- while there is no Stop, all entries are in front of one that is appended
pub before_first : (es : List Entry) → has_stop es ≡ false → before_stop (es ++ Stop ∷ []) ≡ es
before_first [] none = refl
before_first (Start t a w p ∷ es) none = ap (λ (xs : List Entry). Start t a w p ∷ xs) (before_first es none)
before_first (End t a w s ∷ es) none = ap (λ (xs : List Entry). End t a w s ∷ xs) (before_first es none)
before_first (Settle t c ∷ es) none = ap (λ (xs : List Entry). Settle t c ∷ xs) (before_first es none)
before_first (Stop ∷ es) none = cc

-- behind a Stop, no further entry is in front of it
pub before_stays : (es : List Entry) (e : Entry) → has_stop es ≡ true → before_stop (es ++ e ∷ []) ≡ before_stop es
before_stays [] e stop = cc
before_stays (Start t a w p ∷ es) e stop = ap (λ (xs : List Entry). Start t a w p ∷ xs) (before_stays es e stop)
before_stays (End t a w s ∷ es) e stop = ap (λ (xs : List Entry). End t a w s ∷ xs) (before_stays es e stop)
before_stays (Settle t c ∷ es) e stop = ap (λ (xs : List Entry). Settle t c ∷ xs) (before_stays es e stop)
before_stays (Stop ∷ es) e stop = refl

-- behind a Stop, a ready set that does not change stays right with each entry
pub halted_stays : (plan : PlanParts) (es : List Entry) (e : Entry) (old new : ReadyValue) → has_stop es ≡ true → new ≡ old → IsQueued plan (before_stop es) [] old → IsQueued plan (before_stop (es ++ e ∷ [])) [] new
halted_stays plan es e old new stop same queued =
    subst (λ (xs : List Entry). IsQueued plan xs [] new) (sym (before_stays es e stop))
    (subst (λ (r : ReadyValue). IsQueued plan (before_stop es) [] r) (sym same) queued)
