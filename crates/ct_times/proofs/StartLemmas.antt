-- In front of an End of a legal history stands its Start, which is the last Start of its test.
use Rattle.std.proofs.Common.{◌≡◌, ◌∙◌, sym, ap, subst, Bool, true, false, ℕ, ◌+◌, ◌<◌, List, [], ◌∷◌, ◌++◌, get_or, length, take, drop, refl, arith, inl, inr}
use Rattle.std.specs.Prelude.{Option, Some, None, ◌==◌, ◌||◌, ◌&&◌, cond, not, filter}
use Rattle.std.specs.List.{cons_option, list_all, list_any}
use Rattle.std.proofs.lemmas.Bool.{and_from, and_parts, eqb-true, false≢true, not_from_false, or_cases, or_left, or_parts, or_right}
use Rattle.std.proofs.lemmas.List.{append-nil, append_assoc, drop_more, get_or-drop, get_or-take, length-drop, length-take, take-append-drop, take-take, take_more}
use Rattle.std.proofs.lemmas.List.Folds.{list_all-append, list_any_none}
use Rattle.ct_verdict.specs.declared.attempt.Seen.{Seen}
use Rattle.ct_alloc.specs.declared.placement.Placement.{Placement}
use Rattle.ct_history.specs.declared.plan.PlanTest.{PlanTest}
use Rattle.ct_history.specs.declared.plan.PlanParts.{PlanParts}
use Rattle.ct_history.specs.declared.history.Entry.{Entry}
use Rattle.ct_history.specs.declared.history.Entry.TheVariants.{Start, End, Settle, Stop}
use Rattle.ct_history.specs.History.{Running, holds_start, is_busy_in, is_end_of, open_starts}
use Rattle.ct_history.specs.Legal.{are_allowed_behind, is_allowed, is_allowed_so_far, is_legal, is_stop_due, starts}
use Rattle.ct_history.specs.Plan.{test_at}
use Rattle.ct_history.proofs.LegalLemmas.{legal_allowed}
use Rattle.ct_history.proofs.MayLemmas.{pending-parts, starts-parts}
use Rattle.ct_history.proofs.PlanLemmas.{find_passes}
use Rattle.ct_history.proofs.OpenLemmas.{is_of, open_starts-end, open_starts-snoc, opens_settle, opens_stop}
use Rattle.ct_times.specs.Links.{IsLastStart, IsLegalForSome, StartsAttempt, is_start_of_test}
use Rattle.ct_times.proofs.ChainLemmas.{same_moment}

-- each entry of a history that is allowed so far is allowed
allowed_there : (plan : PlanParts) (front ys : List Entry) (e : Entry) (zs : List Entry) → are_allowed_behind plan front (ys ++ e ∷ zs) ≡ true → is_allowed plan (front ++ ys) e ≡ true
allowed_there plan front [] e zs allowed =
    subst (λ (l : List Entry). is_allowed plan l e ≡ true) (sym (append-nil front)) (and_parts (is_allowed plan front e) (are_allowed_behind plan (front ++ e ∷ []) zs) allowed).0
allowed_there plan front (y ∷ ys) e zs allowed =
    subst (λ (l : List Entry). is_allowed plan l e ≡ true) (append_assoc front (y ∷ []) ys)
    (allowed_there plan (front ++ y ∷ []) ys e zs (and_parts (is_allowed plan front y) (are_allowed_behind plan (front ++ y ∷ []) (ys ++ e ∷ zs)) allowed).1)

-- an open start of a test was started
started_open : (t a w : ℕ) (es : List Entry) → holds_start t a w es ≡ true → list_any (is_start_of_test t) es ≡ true
started_open t a w [] holds = holds
started_open t a w (Start u b v p ∷ es) holds = by_open (list_any (is_end_of u b) es) (started_open t a w es) holds
  where
    by_open : (closed : Bool) → (holds_start t a w es ≡ true → list_any (is_start_of_test t) es ≡ true) → list_any (λ (q : Running). q.test == t && q.attempt == a && q.worker == w) (cons_option (cond closed None (Some (record { test = u; attempt = b; worker = v; placement = p }))) (open_starts es)) ≡ true → (u == t || list_any (is_start_of_test t) es) ≡ true
    by_open true rest held = or_right (u == t) (list_any (is_start_of_test t) es) (rest held)
    by_open false rest held = elim (or_cases (u == t && b == a && v == w) (holds_start t a w es) held) [
      | inl first ↦ or_left (u == t) (list_any (is_start_of_test t) es) (and_parts (u == t) (b == a) (and_parts (u == t && b == a) (v == w) first).0).0
      | inr later ↦ or_right (u == t) (list_any (is_start_of_test t) es) (rest later)
    ]
started_open t a w (End u b v s ∷ es) holds = started_open t a w es holds
started_open t a w (Settle u c ∷ es) holds = started_open t a w es holds
started_open t a w (Stop ∷ es) holds = started_open t a w es holds

-- each entry of a legal history is allowed by those in front of it
allowed_at : (plan : PlanParts) (es : List Entry) → is_legal plan es ≡ true → (i : ℕ) (d : Entry) → i < length es → is_allowed plan (take i es) (get_or es i d) ≡ true
allowed_at plan es legal i d inside =
    let split : es ≡ take i es ++ get_or es i d ∷ drop (i + 1) es = sym (take-append-drop i es) ∙ ap (λ (l : List Entry). take i es ++ l) (drop_more es i d inside) in
    allowed_there plan [] (take i es) (get_or es i d) (drop (i + 1) es) (subst (λ (l : List Entry). is_allowed_so_far plan l ≡ true) split (legal_allowed plan es legal))

-- an End ends a start that is open in front of it
held_at : (plan : PlanParts) (es : List Entry) → is_legal plan es ≡ true → (i t a w : ℕ) (s : Seen) (e : Entry) → i < length es → e ≡ get_or es i e → e ≡ End t a w s → holds_start t a w (take i es) ≡ true
held_at plan es legal i t a w s e inside at is =
    let allowed = subst (λ (x : Entry). is_allowed plan (take i es) x ≡ true) (sym at ∙ is) (allowed_at plan es legal i e inside) in
    (and_parts (not (is_stop_due plan (take i es))) (holds_start t a w (take i es)) allowed).1

-- in front of an End of a legal history stands a Start of its test
pub start_in_front : (es : List Entry) → IsLegalForSome es → (i t a w : ℕ) (s : Seen) (e : Entry) → i < length es → e ≡ get_or es i e → e ≡ End t a w s → list_any (is_start_of_test t) (take i es) ≡ true
start_in_front es (plan, legal) i t a w s e inside at is = started_open t a w (take i es) (held_at plan es legal i t a w s e inside at is)

-- where the start of the test is open, it is of this attempt
abbrev is_only : ℕ → ℕ → Running → Bool
is_only t a r = not (r.test == t) || r.attempt == a

none_only : (t a : ℕ) (rs : List Running) → list_any (λ (r : Running). r.test == t) rs ≡ false → list_all (is_only t a) rs ≡ true
none_only t a [] none = refl
none_only t a (r ∷ rs) none =
    let both = or_parts (r.test == t) (list_any (λ (q : Running). q.test == t) rs) none in
    and_from (is_only t a r) (list_all (is_only t a) rs) (or_left (not (r.test == t)) (r.attempt == a) (not_from_false (r.test == t) both.0)) (none_only t a rs both.1)

only_filter : (t a : ℕ) (p : Running → Bool) (rs : List Running) → list_all (is_only t a) rs ≡ true → list_all (is_only t a) (filter p rs) ≡ true
only_filter t a p [] only = refl
only_filter t a p (r ∷ rs) only =
    let both = and_parts (is_only t a r) (list_all (is_only t a) rs) only in
    by_test (p r) both.0 (only_filter t a p rs both.1)
  where
    by_test : (b : Bool) → is_only t a r ≡ true → list_all (is_only t a) (filter p rs) ≡ true → list_all (is_only t a) (cond b (r ∷ filter p rs) (filter p rs)) ≡ true
    by_test true here rest = and_from (is_only t a r) (list_all (is_only t a) (filter p rs)) here rest
    by_test false here rest = rest

only_push : (t a : ℕ) (rs : List Running) (r : Running) → list_all (is_only t a) rs ≡ true → is_only t a r ≡ true → list_all (is_only t a) (rs ++ r ∷ []) ≡ true
only_push t a rs r only one =
    list_all-append (is_only t a) rs (r ∷ [])
    ∙ and_from (list_all (is_only t a) rs) (is_only t a r && true) only (ap (λ (b : Bool). b && true) one)

-- an entry that does not start the test opens no other attempt of it
only_step : (t a : ℕ) (es : List Entry) (e : Entry) → is_start_of_test t e ≡ false → list_all (is_only t a) (open_starts es) ≡ true → list_all (is_only t a) (open_starts (es ++ e ∷ [])) ≡ true
only_step t a es (Start u b v p) other only =
    let r : Running = record { test = u; attempt = b; worker = v; placement = p } in
    subst (λ (rs : List Running). list_all (is_only t a) rs ≡ true) (sym (open_starts-snoc es (Start u b v p) refl))
    (only_push t a (open_starts es) r only (or_left (not (u == t)) (b == a) (not_from_false (u == t) other)))
only_step t a es (End u b v s) other only =
    subst (λ (rs : List Running). list_all (is_only t a) rs ≡ true) (sym (open_starts-end es u b v s)) (only_filter t a (λ (r : Running). not (is_of u b r)) (open_starts es) only)
only_step t a es (Settle u c) other only = subst (λ (rs : List Running). list_all (is_only t a) rs ≡ true) (sym (opens_settle es u c)) only
only_step t a es Stop other only = subst (λ (rs : List Running). list_all (is_only t a) rs ≡ true) (sym (opens_stop es)) only

only_behind : (t a : ℕ) (front es : List Entry) → list_any (is_start_of_test t) es ≡ false → list_all (is_only t a) (open_starts front) ≡ true → list_all (is_only t a) (open_starts (front ++ es)) ≡ true
only_behind t a front [] none only = subst (λ (l : List Entry). list_all (is_only t a) (open_starts l) ≡ true) (sym (append-nil front)) only
only_behind t a front (e ∷ es) none only =
    let both = or_parts (is_start_of_test t e) (list_any (is_start_of_test t) es) none in
    subst (λ (l : List Entry). list_all (is_only t a) (open_starts l) ≡ true) (append_assoc front (e ∷ []) es)
    (only_behind t a (front ++ e ∷ []) es both.1 (only_step t a front e both.0 only))

-- behind an allowed Start no other attempt of its test is open
only_begun : (plan : PlanParts) (front : List Entry) (t a w : ℕ) (p : Option Placement) → is_allowed plan front (Start t a w p) ≡ true → list_all (is_only t a) (open_starts (front ++ Start t a w p ∷ [])) ≡ true
only_begun plan front t a w p allowed =
    let most = and_parts (not (is_stop_due plan front) && starts plan front a p (test_at plan.tests t)) (not (is_busy_in w front)) allowed in
    let both = and_parts (not (is_stop_due plan front)) (starts plan front a p (test_at plan.tests t)) most.0 in
    let begins = starts-parts plan front a p (test_at plan.tests t) both.1 in
    let closed = (pending-parts plan begins.test front begins.may.pending).closed in
    let number : begins.test.number ≡ t = eqb-true begins.test.number t (find_passes (λ (x : PlanTest). x.number == t) plan.tests begins.test begins.found) in
    let none : list_any (λ (r : Running). r.test == t) (open_starts front) ≡ false = subst (λ (k : ℕ). list_any (λ (r : Running). r.test == k) (open_starts front) ≡ false) number closed in
    let run : Running = record { test = t; attempt = a; worker = w; placement = p } in
    subst (λ (rs : List Running). list_all (is_only t a) rs ≡ true) (sym (open_starts-snoc front (Start t a w p) refl))
    (only_push t a (open_starts front) run (none_only t a (open_starts front) none) (or_right (not (t == t)) (a == a) (same_moment a)))

-- an open start of the test is of the only attempt
only_one : (t a b w : ℕ) (rs : List Running) → list_all (is_only t b) rs ≡ true → list_any (λ (r : Running). r.test == t && r.attempt == a && r.worker == w) rs ≡ true → b ≡ a
only_one t a b w [] only held = absurd (false≢true held)
only_one t a b w (r ∷ rs) only held =
    let both = and_parts (is_only t b r) (list_all (is_only t b) rs) only in
    elim (or_cases (r.test == t && r.attempt == a && r.worker == w) (list_any (λ (q : Running). q.test == t && q.attempt == a && q.worker == w) rs) held) [
      | inl here ↦
          let parts = and_parts (r.test == t) (r.attempt == a) (and_parts (r.test == t && r.attempt == a) (r.worker == w) here).0 in
          let of_b : (r.attempt == b) ≡ true = sym (ap (λ (x : Bool). not x || r.attempt == b) parts.0) ∙ both.0 in
          sym (eqb-true r.attempt b of_b) ∙ eqb-true r.attempt a parts.1
      | inr later ↦ only_one t a b w rs both.1 later
    ]

-- the entries between the last Start of a test and an End of it start no attempt of the test
between : (es : List Entry) (t begin end : ℕ) → end < length es → IsLastStart es t begin end → list_any (is_start_of_test t) (drop (begin + 1) (take end es)) ≡ false
between es t begin end inside start = list_any_none (is_start_of_test t) (drop (begin + 1) (take end es)) none
  where
    none : (k : ℕ) (d : Entry) → k < length (drop (begin + 1) (take end es)) → is_start_of_test t (get_or (drop (begin + 1) (take end es)) k d) ≡ false
    none k d lt =
        let near : begin + 1 + k < end = omega (arith, lt, length-drop (begin + 1) (take end es), length-take end es, inside) in
        let there = get_or-drop (begin + 1) (take end es) k d ∙ get_or-take end es (begin + 1 + k) d near in
        subst (λ (e : Entry). is_start_of_test t e ≡ false) (sym there) (start.last (begin + 1 + k) d (omega arith) near)

by_start : (plan : PlanParts) (front more : List Entry) (t a w : ℕ) (x : Entry) → is_start_of_test t x ≡ true → is_allowed plan front x ≡ true → list_any (is_start_of_test t) more ≡ false → holds_start t a w ((front ++ x ∷ []) ++ more) ≡ true → StartsAttempt t a x
by_start plan front more t a w (Start u b v p) starts allowed none held =
    let same : u ≡ t = eqb-true u t starts in
    let begun = subst (λ (k : ℕ). list_all (is_only k b) (open_starts (front ++ Start u b v p ∷ [])) ≡ true) same (only_begun plan front u b v p allowed) in
    (same, only_one t a b w (open_starts ((front ++ Start u b v p ∷ []) ++ more)) (only_behind t b (front ++ Start u b v p ∷ []) more none begun) held)
by_start plan front more t a w (End u b v s) starts allowed none held = absurd (false≢true starts)
by_start plan front more t a w (Settle u c) starts allowed none held = absurd (false≢true starts)
by_start plan front more t a w Stop starts allowed none held = absurd (false≢true starts)

-- the last Start of a test in front of an End of it starts the attempt that ends there
pub begun_attempt : (es : List Entry) → IsLegalForSome es → (begin end t a w : ℕ) (s : Seen) (e : Entry) → end < length es → e ≡ get_or es end e → e ≡ End t a w s → IsLastStart es t begin end → (d : Entry) → StartsAttempt t a (get_or es begin d)
begun_attempt es (plan, legal) begin end t a w s e inside at is start d =
    let early : begin < length es = omega (arith, start.before, inside) in
    let split : take end es ≡ (take begin es ++ get_or es begin d ∷ []) ++ drop (begin + 1) (take end es) =
    sym (take-append-drop (begin + 1) (take end es))
    ∙ ap (λ (l : List Entry). l ++ drop (begin + 1) (take end es)) (take-take (begin + 1) end es (omega (arith, start.before)) ∙ take_more es begin d early)
    in
    by_start plan (take begin es) (drop (begin + 1) (take end es)) t a w (get_or es begin d) (start.starts d) (allowed_at plan es legal begin d early) (between es t begin end inside start)
    (subst (λ (l : List Entry). holds_start t a w l ≡ true) split (held_at plan es legal end t a w s e inside at is))
