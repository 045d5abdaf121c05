-- An open start of a worker stays open until an End of that worker.
use Rattle.std.proofs.Common.{◌≡◌, ◌∙◌, sym, ap, subst, refl, Bool, true, false, ℕ, zero, suc, List, [], ◌∷◌, ◌++◌, inl, inr, arith, append_assoc}
use Rattle.std.specs.Prelude.{Option, Some, None, find, filter, not, ◌==◌, ◌&&◌, ◌||◌, cond, Contains, if◌then◌else◌}
use Rattle.std.specs.List.{list_any}
use Rattle.std.proofs.lemmas.Bool.{and_parts, cases_Bool, true≢false, or_parts, or_from, eqb-true}
use Rattle.std.proofs.lemmas.Bool.Decides.{nat_tests}
use Rattle.std.proofs.lemmas.List.{append-nil}
use Rattle.ct_history.specs.declared.plan.PlanParts.{PlanParts}
use Rattle.ct_history.specs.declared.history.Entry.{Entry}
use Rattle.ct_history.specs.declared.history.Entry.TheVariants.{Start, End, Settle, Stop}
use Rattle.ct_history.specs.History.{Running, holds_start, open_starts, open_start_of_worker}
use Rattle.ct_history.specs.Legal.{are_allowed_behind, is_allowed, is_allowed_so_far, is_legal, is_stop_due}
use Rattle.ct_history.proofs.ApartLemmas.{Differ, differ-head, differ-tail, starts_apart}
use Rattle.ct_history.proofs.LegalLemmas.{allowed-snoc, legal_allowed}
use Rattle.ct_history.proofs.OpenLemmas.{is_of, open_starts-end, open_starts-snoc, filter_none}
use Rattle.ct_history.proofs.BoolLemmas.{flipped}
use Rattle.ct_turn.specs.Seen.{HistoryGoesOn, is_by}

-- this attempt of the test, by this worker
abbrev is_held : ℕ → ℕ → ℕ → Running → Bool
is_held t a v r = r.test == t && r.attempt == a && r.worker == v

none_held : (t a v : ℕ) (rs : List Running) → list_any (λ (q : Running). q.test == t) rs ≡ false → list_any (is_held t a v) rs ≡ false
none_held t a v [] none = refl
none_held t a v (x ∷ xs) none =
    let both = or_parts (x.test == t) (list_any (λ (q : Running). q.test == t) xs) none in
    or_from (is_held t a v x) (list_any (is_held t a v) xs) (ap (λ (b : Bool). b && x.attempt == a && x.worker == v) both.0) (none_held t a v xs both.1)

-- an End of another worker's start leaves a worker's start as it is
find-end : (t a v w : ℕ) (rs : List Running) → Differ (λ r. r.test) rs → list_any (is_held t a v) rs ≡ true → (v == w) ≡ false → find (λ (r : Running). r.worker == w) (filter (λ r. not (is_of t a r)) rs) ≡ find (λ (r : Running). r.worker == w) rs
find-end t a v w [] all held other = refl
find-end t a v w (x ∷ xs) all held other =
    let rest : List Running = filter (λ r. not (is_of t a r)) xs in
    let first = λ (b : Bool). find (λ (r : Running). r.worker == w) (cond (not b) (x ∷ rest) rest) in
    elim (cases_Bool (is_of t a x)) [
      | inl same ↦
          let test = eqb-true x.test t (and_parts (x.test == t) (x.attempt == a) same).0 in
          let none = subst (λ (k : ℕ). list_any (λ (q : Running). q.test == k) xs ≡ false) test (differ-head (λ r. r.test) x xs all) in
          elim (cases_Bool (x.worker == v)) [
            | inl by ↦
                let unlike : (x.worker == w) ≡ false = ap (λ (k : ℕ). k == w) (eqb-true x.worker v by) ∙ other in
                ap first same
                ∙ ap (λ (rs : List Running). find (λ (r : Running). r.worker == w) rs) (filter_none t a xs none)
                ∙ sym (ap (λ (b : Bool). if b then Some x else find (λ (r : Running). r.worker == w) xs) unlike)
            | inr by_other ↦
                let not_here : is_held t a v x ≡ false = ap (λ (b : Bool). b && x.worker == v) same ∙ by_other in
                absurd (true≢false (sym held ∙ or_from (is_held t a v x) (list_any (is_held t a v) xs) not_here (none_held t a v xs none)))
          ]
      | inr unlike ↦
          let not_here : is_held t a v x ≡ false = ap (λ (b : Bool). b && x.worker == v) unlike in
          let there = sym (ap (λ (b : Bool). b || list_any (is_held t a v) xs) not_here) ∙ held in
          ap first unlike ∙ ap (λ (o : Option Running). if x.worker == w then Some x else o) (find-end t a v w xs (differ-tail (λ r. r.test) x xs all) there other)
    ]

no_other : {A : Type 0} (o : Option A) (p : A → Bool) (a : A) → p a ≡ false → (xs : List A) → find p xs ≡ o → find p (xs ++ a ∷ []) ≡ o
no_other o p a unlike [] is = ap (λ (b : Bool). if b then Some a else None) unlike ∙ is
no_other o p a unlike (x ∷ xs) is = elim (cases_Bool (p x)) [
  | inl here ↦ ap (λ (b : Bool). if b then Some x else find p (xs ++ a ∷ [])) here ∙ sym (ap (λ (b : Bool). if b then Some x else find p xs) here) ∙ is
  | inr not_here ↦
      ap (λ (b : Bool). if b then Some x else find p (xs ++ a ∷ [])) not_here
      ∙ no_other o p a unlike xs (sym (ap (λ (b : Bool). if b then Some x else find p xs) not_here) ∙ is)
]

-- an allowed entry of another worker leaves a worker's open start as it is
start-snoc : (plan : PlanParts) (es : List Entry) (e : Entry) (w : ℕ) → is_allowed_so_far plan es ≡ true → is_allowed plan es e ≡ true → is_by w e ≡ false → open_start_of_worker w (es ++ e ∷ []) ≡ open_start_of_worker w es
start-snoc plan es (Start n a v p) w so_far allowed other =
    let run : Running = record { test = n; attempt = a; worker = v; placement = p } in
    ap (λ (rs : List Running). find (λ (r : Running). r.worker == w) rs) (open_starts-snoc es (Start n a v p) refl)
    ∙ no_other (open_start_of_worker w es) (λ (r : Running). r.worker == w) run other (open_starts es) refl
start-snoc plan es (End t a v s) w so_far allowed other =
    ap (λ (rs : List Running). find (λ (r : Running). r.worker == w) rs) (open_starts-end es t a v s)
    ∙ find-end t a v w (open_starts es) (starts_apart plan es so_far).tests (and_parts (not (is_stop_due plan es)) (holds_start t a v es) allowed).1 other
start-snoc plan es (Settle t c) w so_far allowed other = ap (λ (rs : List Running). find (λ (r : Running). r.worker == w) rs) (open_starts-snoc es (Settle t c) refl ∙ append-nil (open_starts es))
start-snoc plan es Stop w so_far allowed other = ap (λ (rs : List Running). find (λ (r : Running). r.worker == w) rs) (open_starts-snoc es Stop refl ∙ append-nil (open_starts es))

start_behind : (plan : PlanParts) (front more : List Entry) (w : ℕ) → is_allowed_so_far plan front ≡ true → are_allowed_behind plan front more ≡ true → list_any (is_by w) more ≡ false → open_start_of_worker w (front ++ more) ≡ open_start_of_worker w front
start_behind plan front [] w so_far allowed none = ap (open_start_of_worker w) (append-nil front)
start_behind plan front (e ∷ es) w so_far allowed none =
    let both = and_parts (is_allowed plan front e) (are_allowed_behind plan (front ++ e ∷ []) es) allowed in
    let other = or_parts (is_by w e) (list_any (is_by w) es) none in
    ap (open_start_of_worker w) (sym (append_assoc front (e ∷ []) es))
    ∙ start_behind plan (front ++ e ∷ []) es w (allowed-snoc plan front e so_far both.0) both.1 other.1
    ∙ start-snoc plan front e w so_far both.0 other.0

allowed_split : (plan : PlanParts) (front xs ys : List Entry) → are_allowed_behind plan front (xs ++ ys) ≡ true → (are_allowed_behind plan front xs ≡ true) × (are_allowed_behind plan (front ++ xs) ys ≡ true)
allowed_split plan front [] ys allowed = (refl, subst (λ (es : List Entry). are_allowed_behind plan es ys ≡ true) (sym (append-nil front)) allowed)
allowed_split plan front (x ∷ xs) ys allowed =
    let both = and_parts (is_allowed plan front x) (are_allowed_behind plan (front ++ x ∷ []) (xs ++ ys)) allowed in
    let rest = allowed_split plan (front ++ x ∷ []) xs ys both.1 in (
      ap (λ (b : Bool). b && are_allowed_behind plan (front ++ x ∷ []) xs) both.0 ∙ rest.0,
      subst (λ (es : List Entry). are_allowed_behind plan es ys ≡ true) (append_assoc front (x ∷ []) xs) rest.1,
    )

-- the start that a worker has open is the one that it had open in what it has seen
pub start_stays : (plan : PlanParts) (w : ℕ) (seen now : List Entry) → is_legal plan now ≡ true → HistoryGoesOn w seen now → open_start_of_worker w now ≡ open_start_of_worker w seen
start_stays plan w seen now legal goes =
    let allowed = subst (λ (es : List Entry). are_allowed_behind plan [] es ≡ true) goes.is (legal_allowed plan now legal) in
    let both = allowed_split plan [] seen goes.more allowed in
    ap (open_start_of_worker w) goes.is ∙ start_behind plan seen goes.more w both.0 both.1 goes.others

none_at : (p : Running → Bool) (rs : List Running) (r : Running) → list_any p rs ≡ false → Contains rs r → p r ≡ false
none_at p [] r none (i, lt, e) = absurd (omega (arith, lt))
none_at p (x ∷ xs) r none (zero, lt, e) = subst (λ (y : Running). p y ≡ false) e (or_parts (p x) (list_any p xs) none).0
none_at p (x ∷ xs) r none (suc i, lt, e) = none_at p xs r (or_parts (p x) (list_any p xs) none).1 (i, omega (arith, lt), e)

find_own : (rs : List Running) (r : Running) → Differ (λ q. q.worker) rs → Contains rs r → find (λ (q : Running). q.worker == r.worker) rs ≡ Some r
find_own [] r all (i, lt, e) = absurd (omega (arith, lt))
find_own (x ∷ xs) r all (zero, lt, e) =
    let same : (x.worker == r.worker) ≡ true = subst (λ (y : Running). (x.worker == y.worker) ≡ true) e (grind (arith, nat_tests)) in
    ap (λ (b : Bool). if b then Some x else find (λ (q : Running). q.worker == r.worker) xs) same ∙ ap (λ (y : Running). Some y) e
find_own (x ∷ xs) r all (suc i, lt, e) =
    let there : Contains xs r = (i, omega (arith, lt), e) in
    let unlike : (x.worker == r.worker) ≡ false = flipped r.worker x.worker (none_at (λ (q : Running). q.worker == x.worker) xs r (differ-head (λ q. q.worker) x xs all) there) in
    ap (λ (b : Bool). if b then Some x else find (λ (q : Running). q.worker == r.worker) xs) unlike ∙ find_own xs r (differ-tail (λ q. q.worker) x xs all) there

-- an open start is the one that its worker has open
pub open_start-own : (plan : PlanParts) (es : List Entry) (r : Running) → is_legal plan es ≡ true → Contains (open_starts es) r → open_start_of_worker r.worker es ≡ Some r
open_start-own plan es r legal there = find_own (open_starts es) r (starts_apart plan es (legal_allowed plan es legal)).workers there

-- a worker with an open start has an entry
pub opened_by : (plan : PlanParts) (es : List Entry) (r : Running) → is_legal plan es ≡ true → Contains (open_starts es) r → list_any (is_by r.worker) es ≡ false → ⊥
opened_by plan es r legal there none =
    let same = start_stays plan r.worker [] es legal (record { more = es; is = refl; others = none }) in
    let no : None ≡ Some r = sym same ∙ open_start-own plan es r legal there in
    cc
