-- What a caller may conclude from the start that a pass holds, and what it may add to a history.
use Rattle.std.proofs.Common.{◌≡◌, ◌∙◌, sym, ap, subst, refl, Bool, true, false, ℕ, List, [], ◌∷◌, ◌++◌, inl, inr, arith, append_assoc}
use Rattle.std.specs.Prelude.{Some, None, find, filter, not, ◌==◌, ◌&&◌, ◌||◌, cond, if◌then◌else◌}
use Rattle.std.specs.List.{list_any}
use Rattle.std.proofs.lemmas.Bool.{cases_Bool, true≢false, or_right}
use Rattle.std.proofs.lemmas.Bool.Decides.{nat_tests}
use Rattle.std.proofs.lemmas.List.{append-nil}
use Rattle.ct_history.specs.declared.plan.PlanParts.{PlanParts}
use Rattle.ct_history.specs.declared.history.Entry.{Entry}
use Rattle.ct_history.specs.declared.history.Entry.TheVariants.{Start, Stop}
use Rattle.ct_history.specs.History.{Running, holds_start, is_busy_in, open_starts, open_start_of_worker}
use Rattle.ct_history.specs.Legal.{is_legal, is_stop_due}
use Rattle.ct_history.proofs.ApartLemmas.{Differ, differ-head, differ-tail, starts_apart}
use Rattle.ct_history.proofs.LegalLemmas.{legal_allowed}
use Rattle.ct_history.proofs.OpenLemmas.{is_of, open_starts-snoc}
use Rattle.ct_history.proofs.PlanLemmas.{find_new}
use Rattle.ct_turn.specs.Seen.{AddsOwn, is_own}

finds_none : (p : Running → Bool) (rs : List Running) → find p rs ≡ None → list_any p rs ≡ false
finds_none p [] none = refl
finds_none p (r ∷ rs) none = elim (cases_Bool (p r)) [
  | inl here ↦ let never : Some r ≡ None = sym (ap (λ (b : Bool). cond b (Some r) (find p rs)) here) ∙ none in absurd (cc)
  | inr other ↦ ap (λ (b : Bool). b || list_any p rs) other ∙ finds_none p rs (sym (ap (λ (b : Bool). cond b (Some r) (find p rs)) other) ∙ none)
]

-- a worker that holds no start may ask for one
pub not_busy : (w : ℕ) (es : List Entry) → open_start_of_worker w es ≡ None → is_busy_in w es ≡ false
not_busy w es none = finds_none (λ (r : Running). r.worker == w) (open_starts es) none

found_holds : (w : ℕ) (r : Running) (rs : List Running) → find (λ (q : Running). q.worker == w) rs ≡ Some r → (r.worker ≡ w) × (list_any (λ (q : Running). q.test == r.test && q.attempt == r.attempt && q.worker == r.worker) rs ≡ true)
found_holds w r [] is = cc
found_holds w r (x ∷ xs) is = elim (cases_Bool (x.worker == w)) [
  | inl here ↦
      let found : Some x ≡ Some r = sym (ap (λ (b : Bool). cond b (Some x) (find (λ (q : Running). q.worker == w) xs)) here) ∙ is in
      let same : x ≡ r = cc in
      let all : (r.test == r.test && r.attempt == r.attempt && r.worker == r.worker) ≡ true = grind (arith, nat_tests) in (
        subst (λ (q : Running). q.worker ≡ w) same (grind (arith, nat_tests, here)),
        ap (λ (q : Running). (q.test == r.test && q.attempt == r.attempt && q.worker == r.worker) || list_any (λ (q : Running). q.test == r.test && q.attempt == r.attempt && q.worker == r.worker) xs) same
            ∙ ap (λ (b : Bool). b || list_any (λ (q : Running). q.test == r.test && q.attempt == r.attempt && q.worker == r.worker) xs) all,
      )
  | inr other ↦
      let rest = found_holds w r xs (sym (ap (λ (b : Bool). cond b (Some x) (find (λ (q : Running). q.worker == w) xs)) other) ∙ is) in
      (rest.0, or_right (x.test == r.test && x.attempt == r.attempt && x.worker == r.worker) _ rest.1)
]

-- a worker may end the start that it holds
pub holds_own : (w : ℕ) (r : Running) (es : List Entry) → open_start_of_worker w es ≡ Some r → (r.worker ≡ w) × (holds_start r.test r.attempt r.worker es ≡ true)
holds_own w r es is = found_holds w r (open_starts es) is

-- a worker holds the start that it has just added
pub start_holds : (es : List Entry) (r : Running) → open_start_of_worker r.worker es ≡ None → open_start_of_worker r.worker (es ++ Start r.test r.attempt r.worker r.placement ∷ []) ≡ Some r
start_holds es r none =
    ap (λ (rs : List Running). find (λ (q : Running). q.worker == r.worker) rs) (open_starts-snoc es (Start r.test r.attempt r.worker r.placement) refl)
    ∙ find_new (λ (q : Running). q.worker == r.worker) (open_starts es) r none (grind (arith, nat_tests))

unfound : (p q : Running → Bool) (rs : List Running) → list_any p rs ≡ false → find p (filter q rs) ≡ None
unfound p q [] none = refl
unfound p q (x ∷ xs) none = elim (cases_Bool (q x)) [
  | inl kept ↦ ap (λ (b : Bool). find p (cond b (x ∷ filter q xs) (filter q xs))) kept ∙ ap (λ (b : Bool). cond b (Some x) (find p (filter q xs))) here ∙ unfound p q xs rest
  | inr lost ↦ ap (λ (b : Bool). find p (cond b (x ∷ filter q xs) (filter q xs))) lost ∙ unfound p q xs rest
]
  where
    parts : (a b : Bool) → (a || b) ≡ false → (a ≡ false) × (b ≡ false)
    parts true b is = absurd (true≢false is)
    parts false b is = (refl, is)

    here : p x ≡ false
    here = (parts (p x) (list_any p xs) none).0

    rest : list_any p xs ≡ false
    rest = (parts (p x) (list_any p xs) none).1

end_leaves : (w : ℕ) (r : Running) (rs : List Running) → Differ (λ q. q.worker) rs → find (λ (q : Running). q.worker == w) rs ≡ Some r → find (λ (q : Running). q.worker == w) (filter (λ q. not (is_of r.test r.attempt q)) rs) ≡ None
end_leaves w r [] all is = refl
end_leaves w r (x ∷ xs) all is =
    let own : Running → Bool = λ q. q.worker == w in
    let kept : Running → Bool = λ q. not (is_of r.test r.attempt q) in
    elim (cases_Bool (x.worker == w)) [
      | inl here ↦
          let found : Some x ≡ Some r = sym (ap (λ (b : Bool). cond b (Some x) (find (λ (q : Running). q.worker == w) xs)) here) ∙ is in
          let same : x ≡ r = cc in
          let lost : not (is_of r.test r.attempt x) ≡ false = subst (λ (q : Running). not (is_of r.test r.attempt q) ≡ false) (sym same) (grind (arith, nat_tests)) in
          let worker : x.worker ≡ w = grind (arith, nat_tests, here) in
          ap (λ (b : Bool). find (λ (q : Running). q.worker == w) (cond b (x ∷ filter (λ q. not (is_of r.test r.attempt q)) xs) (filter (λ q. not (is_of r.test r.attempt q)) xs))) lost
          ∙ unfound (λ (q : Running). q.worker == w) (λ q. not (is_of r.test r.attempt q)) xs (subst (λ (k : ℕ). list_any (λ (q : Running). q.worker == k) xs ≡ false) worker (differ-head (λ q. q.worker) x xs all))
      | inr other ↦
          let rest = end_leaves w r xs (differ-tail (λ q. q.worker) x xs all) (sym (ap (λ (b : Bool). cond b (Some x) (find (λ (q : Running). q.worker == w) xs)) other) ∙ is) in
          elim (cases_Bool (not (is_of r.test r.attempt x))) [
            | inl stays ↦
                ap (λ (b : Bool). find (λ (q : Running). q.worker == w) (cond b (x ∷ filter (λ q. not (is_of r.test r.attempt q)) xs) (filter (λ q. not (is_of r.test r.attempt q)) xs))) stays
                ∙ ap (λ (b : Bool). cond b (Some x) (find (λ (q : Running). q.worker == w) (filter (λ q. not (is_of r.test r.attempt q)) xs))) other
                ∙ rest
            | inr goes ↦ ap (λ (b : Bool). find (λ (q : Running). q.worker == w) (cond b (x ∷ filter (λ q. not (is_of r.test r.attempt q)) xs) (filter (λ q. not (is_of r.test r.attempt q)) xs))) goes ∙ rest
          ]
    ]

-- a worker holds no start behind the End of the start that it held
pub end_holds_none : (plan : PlanParts) (w : ℕ) (r : Running) (es : List Entry) → is_legal plan es ≡ true → open_start_of_worker w es ≡ Some r → (e : Entry) → open_starts (es ++ e ∷ []) ≡ filter (λ q. not (is_of r.test r.attempt q)) (open_starts es) → open_start_of_worker w (es ++ e ∷ []) ≡ None
end_holds_none plan w r es legal is e closes =
    ap (λ (rs : List Running). find (λ (q : Running). q.worker == w) rs) closes ∙ end_leaves w r (open_starts es) (starts_apart plan es (legal_allowed plan es legal)).workers is

-- a Settle or a Stop leaves the start that a worker holds
pub settle_stays : (w : ℕ) (es : List Entry) (e : Entry) → open_starts (es ++ e ∷ []) ≡ open_starts es ++ [] → open_start_of_worker w (es ++ e ∷ []) ≡ open_start_of_worker w es
settle_stays w es e is = ap (λ (rs : List Running). find (λ (q : Running). q.worker == w) rs) (is ∙ append-nil (open_starts es))

-- a worker adds an entry of its own, or nothing
pub adds_one : (w : ℕ) (es : List Entry) (e : Entry) → is_own w e ≡ true → AddsOwn w es (es ++ e ∷ [])
adds_one w es e own = record { more = e ∷ []; is = refl; own = ap (λ (b : Bool). b && true) own }

pub adds_none : (w : ℕ) (es : List Entry) → AddsOwn w es es
adds_none w es = record { more = []; is = sym (append-nil es); own = refl }

-- an own entry, with the Stop that it makes due, adds only own entries
pub adds_due : (w : ℕ) (plan : PlanParts) (es : List Entry) (e : Entry) → is_own w e ≡ true → AddsOwn w es (if is_stop_due plan (es ++ e ∷ []) then (es ++ e ∷ []) ++ Stop ∷ [] else es ++ e ∷ [])
adds_due w plan es e own = elim (cases_Bool (is_stop_due plan (es ++ e ∷ []))) [
  | inl due ↦ subst (λ (b : Bool). AddsOwn w es (if b then (es ++ e ∷ []) ++ Stop ∷ [] else es ++ e ∷ [])) (sym due)
      (record { more = e ∷ Stop ∷ []; is = append_assoc es (e ∷ []) (Stop ∷ []); own = ap (λ (b : Bool). b && true) own })
  | inr none ↦ subst (λ (b : Bool). AddsOwn w es (if b then (es ++ e ∷ []) ++ Stop ∷ [] else es ++ e ∷ [])) (sym none) (adds_one w es e own)
]
