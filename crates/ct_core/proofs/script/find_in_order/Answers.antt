use Rattle.std.proofs.Common.{arith, ◌≡◌, ◌∙◌, sym, ap, subst, refl, inl, inr, ℕ, suc, zero, ◌≤◌, ◌<◌, Bool, true, false, cond, List, [], ◌∷◌, length, get_or, Some, None}
use Rattle.std.specs.Prelude.{find, ◌==◌, ◌&&◌}
use Rattle.std.specs.List.{AllWithin}
use Rattle.std.proofs.lemmas.Bool.{cases_lt, ltb-false, ltb-true}
use Rattle.std.proofs.lemmas.List.{get_or_read}
use Rattle.ct_core.specs.declared.gate.Told.{Told}
use Rattle.ct_core.specs.ScriptValue.{AreInOrder, IsPlaceInScript}
use Rattle.ct_core.proofs.ScriptLemmas.{before_other, behind_other, rises_far}
use Rattle.ct_core.proofs.script.find_in_order.Goals as goal

-- if an element passes and none in front of it does, the search finds it
found_at : (p : Told → Bool) (xs : List Told) (place : ℕ) (x : Told) →
    AllWithin (λ y. p y ≡ false) xs 0 place → place < length xs → x ≡ get_or xs place x → p x ≡ true →
    find p xs ≡ Some x
found_at p [] place x before within is passes = absurd (omega (arith, within))
found_at p (y ∷ ys) zero x before within is passes = ap (λ (t : Told). cond (p t) (Some t) (find p ys)) (sym is) ∙ ap (λ (b : Bool). cond b (Some x) (find p ys)) passes
found_at p (y ∷ ys) (suc place) x before within is passes =
    ap (λ (b : Bool). cond b (Some y) (find p ys)) (before 0 y (omega arith) (omega arith))
    ∙ found_at p ys place x (λ k d low high. before (suc k) d (omega arith) (omega (arith, high))) (omega (arith, within)) is passes

-- if no element passes, the search finds none
none_found : (p : Told → Bool) (xs : List Told) → AllWithin (λ y. p y ≡ false) xs 0 (length xs) →
    find p xs ≡ None
none_found p [] none = refl
none_found p (y ∷ ys) none =
    ap (λ (b : Bool). cond b (Some y) (find p ys)) (none 0 y (omega arith) (omega arith)) ∙ none_found p ys (λ k d low high. none (suc k) d (omega arith) (omega (arith, high)))

module _ (test attempt : ℕ) (told : List Told) (place : ℕ) (ordered : AreInOrder told) (point : IsPlaceInScript test attempt told place) where
  none_before : AllWithin (λ (t : Told). (t.test == test && t.attempt == attempt) ≡ false) told 0 place
  none_before k d low high = before_other (get_or told k d) test attempt (point.0 k d low high)

  past : length told ≤ place → find (λ (t : Told). t.test == test && t.attempt == attempt) told ≡ None
  past end = none_found (λ (t : Told). t.test == test && t.attempt == attempt) told (λ k d low high. none_before k d low (omega (arith, high, end)))

  here : (found : Told) → place < length told → found ≡ get_or told place found →
      (found.test == test && found.attempt == attempt) ≡ true →
      Some found ≡ find (λ (t : Told). t.test == test && t.attempt == attempt) told
  here found within is of = sym (found_at (λ (t : Told). t.test == test && t.attempt == attempt) told place found none_before within is of)

  nowhere : (found : Told) → place < length told → found ≡ get_or told place found →
      (found.test == test && found.attempt == attempt) ≡ false →
      None ≡ find (λ (t : Told). t.test == test && t.attempt == attempt) told
  nowhere found within is other = sym (none_found (λ (t : Told). t.test == test && t.attempt == attempt) told none)
    where
      none : AllWithin (λ (t : Told). (t.test == test && t.attempt == attempt) ≡ false) told 0 (length told)
      none k d low high = elim (cases_lt k place) [
        | inl less ↦ none_before k d low less
        | inr more ↦
            let reads : found ≡ get_or told place d = get_or_read told place found within is d in
            let first : ((get_or told place d).test == test && (get_or told place d).attempt == attempt) ≡ false = subst (λ (t : Told). (t.test == test && t.attempt == attempt) ≡ false) reads other in
            behind_other (get_or told place d) (get_or told k d) test attempt (rises_far told ordered place k d more high) (point.1 place d (omega arith) within) first
      ]

pub returns-in_err-found : goal.returns-in_err-found
returns-in_err-found c =
    let told = c.args.told.now in
    let place = c.place_near-place.result in
    rw c.from_residual.ensures (sym (past c.args.test c.args.attempt told place c.requires c.place_near-place.ensures (ltb-false place (length told) (sym c.in_err-found.ensures.lookup.0))))

pub returns-then-is_of : goal.returns-then-is_of
returns-then-is_of c =
    let told = c.args.told.now in
    let place = c.place_near-place.result in
    here c.args.test c.args.attempt told place c.requires c.place_near-place.ensures c.in_ok-found.found.now (ltb-true place (length told) (sym c.in_ok-found.ensures.lookup.0)) c.in_ok-found.ensures.lookup.1 (sym c.is_of.ensures ∙ c.if-is_of.true)

pub returns-else-is_of : goal.returns-else-is_of
returns-else-is_of c =
    let told = c.args.told.now in
    let place = c.place_near-place.result in
    nowhere c.args.test c.args.attempt told place c.requires c.place_near-place.ensures c.in_ok-found.found.now (ltb-true place (length told) (sym c.in_ok-found.ensures.lookup.0)) c.in_ok-found.ensures.lookup.1 (sym c.is_of.ensures ∙ c.if-is_of.false)
