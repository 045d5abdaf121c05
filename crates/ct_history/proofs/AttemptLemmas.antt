-- A list of attempts has a last one exactly where it is not empty.
use Rattle.std.proofs.Common.{◌≡◌, ℕ, ◌-◌, ◌^◌, ◌<◌, min, List, [], ◌∷◌, length, refl, ap, None, Some, is_none, arith, ◌++◌}
use Rattle.std.specs.Prelude.{IsNone, Option, Bool, true, false, ◌&&◌, ◌⊎◌, not, is_some, nat_lt, if◌then◌else◌}
use Rattle.std.proofs.Common.{◌∙◌, sym, subst, inl, inr}
use Rattle.std.specs.List.{last_or}
use Rattle.std.proofs.lemmas.Bool.{and_parts, ltb-true}
use Rattle.std.proofs.lemmas.Bool.Decides.{nat_tests}
use Rattle.ct_verdict.specs.declared.repeat.Repeat.{Repeat}
use Rattle.ct_verdict.specs.declared.verdict.Verdict.{Verdict}
use Rattle.ct_verdict.specs.Verdict.{is_repeated, asks_again}
use Rattle.ct_verdict.specs.declared.verdict.Cause.{Cause}
use Rattle.ct_verdict.specs.declared.verdict.Verdict.TheVariants.{Disabled}
use Rattle.ct_history.specs.declared.plan.PlanTest.{PlanTest}
use Rattle.ct_history.specs.declared.plan.PlanParts.{PlanParts}
use Rattle.ct_history.specs.declared.history.Entry.{Entry}
use Rattle.ct_history.specs.History.{attempts_of, is_open_in}
use Rattle.ct_history.specs.Verdicts.{last_of_list, settled_cause, settled_or}
use Rattle.ct_history.specs.Rules.{is_pending}
use Rattle.ct_history.proofs.MayLemmas.{pending-parts}

pub has_last : {A : Type 0} (x : A) (xs : List A) → is_none (last_or (Some x) xs) ≡ false
has_last x [] = refl
has_last x (y ∷ ys) = has_last y ys

pub empty_of_no_last : {A : Type 0} (xs : List A) → IsNone (last_of_list xs) → length xs ≡ 0
empty_of_no_last [] none = refl
empty_of_no_last (x ∷ xs) none = let some = has_last x xs in (cc)

pub no_last_of_empty : {A : Type 0} (xs : List A) → length xs ≡ 0 → IsNone (last_of_list xs)
no_last_of_empty [] empty = refl
no_last_of_empty (x ∷ xs) empty = absurd (omega arith)

-- where a count that stops at 2^32 - 1 is zero, the list is empty
pub zero_of_few : {A : Type 0} (xs : List A) → min (length xs) (2 ^ 32 - 1) ≡ 0 → length xs ≡ 0
zero_of_few xs is = omega arith

pub few_of_zero : {A : Type 0} (xs : List A) {n : ℕ} → length xs ≡ 0 → n ≡ min (length xs) (2 ^ 32 - 1) → n ≡ 0
few_of_zero xs empty is = omega arith

lt_few : (n times : ℕ) → times < 2 ^ 32 → nat_lt (min n (2 ^ 32 - 1)) times ≡ nat_lt n times
lt_few n times small = grind (arith, nat_tests)

-- a count that stops at 2^32 - 1 tells as well as the full one whether one more attempt follows
pub repeated_few : (repeat : Repeat) (n : ℕ) (last : Option Verdict) → repeat.times < 2 ^ 32 → is_repeated repeat (min n (2 ^ 32 - 1)) last ≡ is_repeated repeat n last
repeated_few repeat n None small = refl
repeated_few repeat n (Some last) small = ap (λ b. b && asks_again repeat.mode last) (lt_few n repeat.times small)

-- a test that is neither final nor open has had no attempt, or fewer than it may have
pub attempts_left : (plan : PlanParts) (t : PlanTest) (es : List Entry) → is_pending plan t es ≡ true → (length (attempts_of t.number t.rules es) ≡ 0) ⊎ (length (attempts_of t.number t.rules es) < plan.repeat.times)
attempts_left plan t es pending =
    let parts = pending-parts plan t es pending in
    let attempts = attempts_of t.number t.rules es in
    by_last attempts (last_of_list attempts) refl (by_disabled t.disabled (settled_cause t.number es) (is_open_in t.number es) parts.closed (is_repeated plan.repeat (length attempts) (last_of_list attempts)) (last_of_list attempts) refl parts.unfinished)
  where
    by_disabled : (d : Bool) (settled : Option Cause) (opens : Bool) → opens ≡ false → (again : Bool) (last : Option Verdict) → again ≡ is_repeated plan.repeat (length (attempts_of t.number t.rules es)) last → is_some (if d then Some Disabled else settled_or settled (if not opens && not again then last else None)) ≡ false → again ≡ true
    by_disabled true settled opens closed again last repeated unfinished = cc
    by_disabled false (Some c) opens closed again last repeated unfinished = cc
    by_disabled false None true closed again last repeated unfinished = cc
    by_disabled false None false closed true last repeated unfinished = refl
    by_disabled false None false closed false None repeated unfinished = repeated
    by_disabled false None false closed false (Some v) repeated unfinished = cc

    by_last : (vs : List Verdict) (last : Option Verdict) → last_of_list vs ≡ last → is_repeated plan.repeat (length vs) (last_of_list vs) ≡ true → (length vs ≡ 0) ⊎ (length vs < plan.repeat.times)
    by_last vs None is again = inl (empty_of_no_last vs (subst (λ (o : Option Verdict). IsNone o) (sym is) refl))
    by_last vs (Some v) is again =
        let here : (nat_lt (length vs) plan.repeat.times && asks_again plan.repeat.mode v) ≡ true = sym (ap (λ (o : Option Verdict). is_repeated plan.repeat (length vs) o) is) ∙ again in
        inr (ltb-true (length vs) plan.repeat.times (and_parts (nat_lt (length vs) plan.repeat.times) (asks_again plan.repeat.mode v) here).0)

pub last_or-snoc : {A : Type 0} (found : Option A) (xs : List A) (x : A) → last_or found (xs ++ x ∷ []) ≡ Some x
last_or-snoc found [] x = refl
last_or-snoc found (y ∷ ys) x = last_or-snoc (Some y) ys x
