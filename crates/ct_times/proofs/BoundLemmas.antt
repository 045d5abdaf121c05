-- No legal history with the same work is shorter than the bound of a capacity.
use Rattle.std.proofs.Common.{◌≡◌, ◌∙◌, sym, ap, subst, Bool, true, false, ℕ, suc, ◌+◌, ◌-◌, ◌*◌, ◌<◌, ◌≤◌, List, [], ◌∷◌, ◌++◌, map, refl, arith, inl, inr}
use Rattle.std.specs.Prelude.{Option, Some, None, unwrap_or, ◌==◌, ◌&&◌, ◌||◌, not, cond, filter, sum_by, All}
use Rattle.std.specs.List.{list_any}
use Rattle.std.proofs.Math.Nat.{mul-add, add-mul, mul-le-mul_left, mul-le-mul_right, div-lt_iff_lt-mul}
use Rattle.std.proofs.lemmas.Bool.{and_parts, cases_Bool, true≢false, or_parts}
use Rattle.std.proofs.lemmas.Bool.Decides.{nat_tests}
use Rattle.std.proofs.lemmas.List.Sums.{sum_by-append, sum_by-cons}
use Rattle.ct_alloc.specs.declared.placement.Placement.{Placement}
use Rattle.ct_verdict.specs.declared.attempt.Seen.{Seen}
use Rattle.ct_history.specs.declared.plan.PlanTest.{PlanTest}
use Rattle.ct_history.specs.declared.plan.PlanParts.{PlanParts}
use Rattle.ct_history.specs.declared.history.Entry.{Entry}
use Rattle.ct_history.specs.declared.history.Entry.TheVariants.{Start, End, Settle, Stop}
use Rattle.ct_history.specs.Plan.{IsAscendingFrom, IsSound, test_at}
use Rattle.ct_history.specs.History.{Running, holds_start, is_busy_in, open_starts}
use Rattle.ct_history.specs.Legal.{is_allowed, is_allowed_so_far, is_legal, is_stop_due, starts}
use Rattle.ct_history.proofs.ApartLemmas.{allowed_induction}
use Rattle.ct_history.proofs.LegalLemmas.{allowed-snoc, legal_allowed}
use Rattle.ct_history.proofs.MayLemmas.{pending-parts, starts-parts}
use Rattle.ct_history.proofs.OpenLemmas.{is_of, open_starts-end, open_starts-snoc, opens_settle, opens_stop}
use Rattle.ct_history.proofs.PlanLemmas.{find_passes}
use Rattle.ct_times.specs.Times.{Timed, last_moment, length_of, next_timed, start_at, started, timed}
use Rattle.ct_times.specs.Capacity.{HaveSameWork, IsCapacity, amount_open, bound, work_by, over_up, work}
use Rattle.ct_times.proofs.TimedLemmas.{last-snoc, started-snoc, timed-snoc}

-- the micros of the attempt that the entry ends, times the amount of its test
abbrev ended : (ℕ → ℕ) → Entry → ℕ
ended amount (Start t a w p) = 0
ended amount (End t a w seen) = seen.micros * amount t
ended amount (Settle t c) = 0
ended amount Stop = 0

-- these together
abbrev done : (ℕ → ℕ) → List Entry → ℕ
done amount es = sum_by (ended amount) es

-- how long open starts have stood open at a moment, each times the amount of its test
abbrev waits : (ℕ → ℕ) → (ℕ → ℕ) → ℕ → List Running → ℕ
waits amount start m rs = sum_by (λ (r : Running). (m - start r.test) * amount r.test) rs

-- what has been done, and what is under way, fits into the size up to the last moment
abbrev Fits : ℕ → (ℕ → ℕ) → List Timed → List Entry → Type 0
Fits size amount xs es = done amount es + waits amount (λ test. started test xs) (last_moment xs) (open_starts es) ≤ last_moment xs * size

one_sum : {A : Type 0} (f : A → ℕ) (xs : List A) (x : A) → sum_by f (xs ++ x ∷ []) ≡ sum_by f xs + f x
one_sum f xs x = let one : sum_by f (x ∷ []) ≡ f x = omega arith in sum_by-append f xs (x ∷ []) ∙ ap (λ (n : ℕ). sum_by f xs + n) one

waits-cons : (amount start : ℕ → ℕ) (m : ℕ) (r : Running) (rs : List Running) → waits amount start m (r ∷ rs) ≡ (m - start r.test) * amount r.test + waits amount start m rs
waits-cons amount start m r rs = sum_by-cons (λ (q : Running). (m - start q.test) * amount q.test) r rs

-- at a later moment open starts have stood open longer by the time between
longer : (amount start : ℕ → ℕ) (m k : ℕ) → m ≤ k → (rs : List Running) → waits amount start k rs ≤ waits amount start m rs + (k - m) * sum_by (λ (r : Running). amount r.test) rs
longer amount start m k le [] = omega arith
longer amount start m k le (r ∷ rs) =
    let a = amount r.test in
    let s = start r.test in
    let rest = sum_by (λ (q : Running). amount q.test) rs in
    let one : (k - s) * a ≤ (m - s) * a + (k - m) * a = omega (arith, mul-le-mul_right a (split s), add-mul (m - s) (k - m) a) in
    omega (arith, one, longer amount start m k le rs, mul-add (k - m) a rest, waits-cons amount start k r rs, waits-cons amount start m r rs, ap (λ (n : ℕ). (k - m) * n) (sum_by-cons (λ (q : Running). amount q.test) r rs))
  where
    split : (s : ℕ) → k - s ≤ (m - s) + (k - m)
    split s = omega (arith, le)

-- up to a later moment it fits still
fits_later : (size m k before under rs_amount later : ℕ) → m ≤ k → before + under ≤ m * size → rs_amount ≤ size → later ≤ under + (k - m) * rs_amount → before + later ≤ k * size
fits_later size m k before under rs_amount later le fits few grown =
    let more : (k - m) * rs_amount ≤ (k - m) * size = mul-le-mul_left (k - m) few in
    let sum : m * size + (k - m) * size ≡ (m + (k - m)) * size = sym (add-mul m (k - m) size) in
    let whole : (m + (k - m)) * size ≡ k * size = ap (λ (n : ℕ). n * size) (rejoin) in
    omega (arith, fits, grown, more, sum, whole)
  where
    rejoin : m + (k - m) ≡ k
    rejoin = omega (arith, le)

-- only the starts of the tests that are open count
waits_same : (amount start other : ℕ → ℕ) (m : ℕ) (rs : List Running) → ((r : Running) → start r.test ≡ other r.test) → waits amount start m rs ≡ waits amount other m rs
waits_same amount start other m [] same = refl
waits_same amount start other m (r ∷ rs) same =
    let here : (m - start r.test) * amount r.test ≡ (m - other r.test) * amount r.test = ap (λ (s : ℕ). (m - s) * amount r.test) (same r) in
    omega (arith, here, waits_same amount start other m rs same, waits-cons amount start m r rs, waits-cons amount other m r rs)

-- the Start of a test that is not open leaves the others as they are
waits_other : (amount start : ℕ → ℕ) (t k m : ℕ) (rs : List Running) → list_any (λ (r : Running). r.test == t) rs ≡ false → waits amount (λ test. unwrap_or (cond (t == test) (Some k) None) (start test)) m rs ≡ waits amount start m rs
waits_other amount start t k m [] none = refl
waits_other amount start t k m (r ∷ rs) none =
    let both = or_parts (r.test == t) (list_any (λ (q : Running). q.test == t) rs) none in
    let unlike : (t == r.test) ≡ false = flipped r.test both.0 in
    let here : (m - unwrap_or (cond (t == r.test) (Some k) None) (start r.test)) * amount r.test ≡ (m - start r.test) * amount r.test = ap (λ (b : Bool). (m - unwrap_or (cond b (Some k) None) (start r.test)) * amount r.test) unlike in
    let more : ℕ → ℕ = λ test. unwrap_or (cond (t == test) (Some k) None) (start test) in
    omega (arith, here, waits_other amount start t k m rs both.1, waits-cons amount more m r rs, waits-cons amount start m r rs)
  where
    flipped : (n : ℕ) → (n == t) ≡ false → (t == n) ≡ false
    flipped n is = grind (arith, nat_tests, is)

-- an End takes at least its own time out of what is under way
less_left : (amount start : ℕ → ℕ) (t a m : ℕ) (rs : List Running) → waits amount start m (filter (λ r. not (is_of t a r)) rs) ≤ waits amount start m rs
less_left amount start t a m [] = omega arith
less_left amount start t a m (r ∷ rs) = by_this (is_of t a r) (less_left amount start t a m rs)
  where
    by_this : (b : Bool) → waits amount start m (filter (λ q. not (is_of t a q)) rs) ≤ waits amount start m rs → waits amount start m (cond (not b) (r ∷ filter (λ q. not (is_of t a q)) rs) (filter (λ q. not (is_of t a q)) rs)) ≤ waits amount start m (r ∷ rs)
    by_this true le = omega (arith, le, waits-cons amount start m r rs)
    by_this false le = omega (arith, le, waits-cons amount start m r rs, waits-cons amount start m r (filter (λ q. not (is_of t a q)) rs))

taken_out : (amount start : ℕ → ℕ) (t a w m : ℕ) (rs : List Running) → list_any (λ (r : Running). r.test == t && r.attempt == a && r.worker == w) rs ≡ true → waits amount start m (filter (λ r. not (is_of t a r)) rs) + (m - start t) * amount t ≤ waits amount start m rs
taken_out amount start t a w m [] any = absurd (true≢false (sym any))
taken_out amount start t a w m (r ∷ rs) any = elim (cases_Bool (is_of t a r)) [
  | inl this ↦
      let test : r.test ≡ t = equal r.test t (and_parts (r.test == t) (r.attempt == a) this).0 in
      let same : (m - start r.test) * amount r.test ≡ (m - start t) * amount t = ap (λ (n : ℕ). (m - start n) * amount n) test in
      subst (λ (b : Bool). waits amount start m (cond (not b) (r ∷ filter (λ q. not (is_of t a q)) rs) (filter (λ q. not (is_of t a q)) rs)) + (m - start t) * amount t ≤ waits amount start m (r ∷ rs)) (sym this)
      (omega (arith, same, less_left amount start t a m rs, waits-cons amount start m r rs))
  | inr other ↦
      let not_here : (r.test == t && r.attempt == a && r.worker == w) ≡ false = ap (λ (b : Bool). b && r.worker == w) other in
      let later = sym (ap (λ (b : Bool). b || list_any (λ (q : Running). q.test == t && q.attempt == a && q.worker == w) rs) not_here) ∙ any in
      subst (λ (b : Bool). waits amount start m (cond (not b) (r ∷ filter (λ q. not (is_of t a q)) rs) (filter (λ q. not (is_of t a q)) rs)) + (m - start t) * amount t ≤ waits amount start m (r ∷ rs)) (sym other)
      (omega (arith, taken_out amount start t a w m rs later, waits-cons amount start m r rs, waits-cons amount start m r (filter (λ q. not (is_of t a q)) rs)))
]
  where
    equal : (i j : ℕ) → (i == j) ≡ true → i ≡ j
    equal i j is = grind (arith, nat_tests, is)

module _ (plan : PlanParts) (size : ℕ) (amount : ℕ → ℕ) (holds : IsCapacity plan size amount) where
  -- what fits behind some entries, with the last moment and what is open written out
  fits_from : (xs : List Timed) (es : List Entry) (m : ℕ) (start : ℕ → ℕ) (rs : List Running) → last_moment xs ≡ m → ((r : Running) → started r.test xs ≡ start r.test) → open_starts es ≡ rs → done amount es + waits amount start m rs ≤ m * size → Fits size amount xs es
  fits_from xs es m start rs last same opens fits =
      subst (λ (qs : List Running). done amount es + waits amount (λ test. started test xs) (last_moment xs) qs ≤ last_moment xs * size) (sym opens)
      (subst (λ (k : ℕ). done amount es + waits amount (λ test. started test xs) k rs ≤ k * size) (sym last)
      (omega (arith, fits, waits_same amount (λ test. started test xs) start m rs same)))

  module _ (es : List Entry) (so_far : is_allowed_so_far plan es ≡ true) (fits : Fits size amount (timed es) es) where
    abbrev front : List Timed
    front = timed es

    abbrev begun : ℕ → ℕ
    begun test = started test front

    -- at the moment of the next entry it fits still
    fits_then : (k : ℕ) → last_moment front ≤ k → done amount es + waits amount begun k (open_starts es) ≤ k * size
    fits_then k le =
        fits_later size (last_moment front) k (done amount es) (waits amount begun (last_moment front) (open_starts es)) (amount_open amount es) (waits amount begun k (open_starts es)) le fits (holds.holds es so_far)
        (longer amount begun (last_moment front) k le (open_starts es))

    fits-start : (n a w : ℕ) (p : Option Placement) → starts plan es a p (test_at plan.tests n) ≡ true → Fits size amount (front ++ next_timed front (Start n a w p) ∷ []) (es ++ Start n a w p ∷ [])
    fits-start n a w p is =
        let e = Start n a w p in
        let x = next_timed front e in
        let run : Running = record { test = n; attempt = a; worker = w; placement = p } in
        let begins = starts-parts plan es a p (test_at plan.tests n) is in
        let closed = (pending-parts plan begins.test es begins.may.pending).closed in
        let passes = find_passes (λ (t : PlanTest). t.number == n) plan.tests begins.test begins.found in
        let number : begins.test.number ≡ n = equal begins.test.number n passes in
        let none : list_any (λ (r : Running). r.test == n) (open_starts es) ≡ false = subst (λ (k : ℕ). list_any (λ (r : Running). r.test == k) (open_starts es) ≡ false) number closed in
        let start : ℕ → ℕ = λ test. unwrap_or (cond (n == test) (Some x.moment) None) (begun test) in
        let new : (x.moment - start n) * amount n ≡ 0 = ap (λ (b : Bool). (x.moment - unwrap_or (cond b (Some x.moment) None) (begun n)) * amount n) (self n) ∙ nothing x.moment (amount n) in
        fits_from (front ++ x ∷ []) (es ++ e ∷ []) x.moment start (open_starts es ++ run ∷ []) (last-snoc front x) (λ r. started-snoc r.test front x) (open_starts-snoc es e refl)
        (omega (
          arith,
          one_sum (ended amount) es e,
          one_sum (λ (r : Running). (x.moment - start r.test) * amount r.test) (open_starts es) run,
          new,
          waits_other amount begun n x.moment x.moment (open_starts es) none,
          fits_then x.moment (omega arith),
        ))
      where
        equal : (i j : ℕ) → (i == j) ≡ true → i ≡ j
        equal i j same = grind (arith, nat_tests, same)

        self : (i : ℕ) → (i == i) ≡ true
        self i = grind (arith, nat_tests)

        nothing : (m c : ℕ) → (m - m) * c ≡ 0
        nothing m c = let none : m - m ≡ 0 = omega arith in ap (λ (k : ℕ). k * c) none ∙ (omega arith)

    fits-end : (t a w : ℕ) (s : Seen) → holds_start t a w es ≡ true → Fits size amount (front ++ next_timed front (End t a w s) ∷ []) (es ++ End t a w s ∷ [])
    fits-end t a w s is =
        let e = End t a w s in
        let x = next_timed front e in
        let long : s.micros ≤ x.moment - begun t = omega arith in
        let amount_taken = taken_out amount begun t a w x.moment (open_starts es) is in
        let own : s.micros * amount t ≤ (x.moment - begun t) * amount t = mul-le-mul_right (amount t) long in
        fits_from (front ++ x ∷ []) (es ++ e ∷ []) x.moment begun (filter (λ r. not (is_of t a r)) (open_starts es)) (last-snoc front x) (λ r. started-snoc r.test front x) (open_starts-end es t a w s)
        (omega (arith, one_sum (ended amount) es e, amount_taken, own, fits_then x.moment (omega arith)))

    fits-settle : (e : Entry) → ended amount e ≡ 0 → open_starts (es ++ e ∷ []) ≡ open_starts es → ((test : ℕ) → unwrap_or (start_at test (next_timed front e).moment e) (begun test) ≡ begun test) → Fits size amount (front ++ next_timed front e ∷ []) (es ++ e ∷ [])
    fits-settle e none opens same =
        let x = next_timed front e in
        fits_from (front ++ x ∷ []) (es ++ e ∷ []) x.moment begun (open_starts es) (last-snoc front x) (λ r. started-snoc r.test front x ∙ same r.test) opens
        (omega (arith, one_sum (ended amount) es e, none, fits_then x.moment (omega arith)))

    fits-entry : (e : Entry) → is_allowed plan es e ≡ true → Fits size amount (front ++ next_timed front e ∷ []) (es ++ e ∷ [])
    fits-entry (Start n a w p) allowed =
        let most = and_parts (not (is_stop_due plan es) && starts plan es a p (test_at plan.tests n)) (not (is_busy_in w es)) allowed in
        fits-start n a w p (and_parts (not (is_stop_due plan es)) (starts plan es a p (test_at plan.tests n)) most.0).1
    fits-entry (End t a w s) allowed = fits-end t a w s (and_parts (not (is_stop_due plan es)) (holds_start t a w es) allowed).1
    fits-entry (Settle t c) allowed = fits-settle (Settle t c) refl (opens_settle es t c) (λ test. refl)
    fits-entry Stop allowed = fits-settle Stop refl (opens_stop es) (λ test. refl)

  -- it fits behind each history that is allowed so far
  fits_all : (es : List Entry) → is_allowed_so_far plan es ≡ true → (is_allowed_so_far plan es ≡ true) × Fits size amount (timed es) es
  fits_all = allowed_induction plan (λ (es : List Entry). (is_allowed_so_far plan es ≡ true) × Fits size amount (timed es) es) step (refl, omega arith)
    where
      step : (es : List Entry) (e : Entry) → is_allowed plan es e ≡ true → (is_allowed_so_far plan es ≡ true) × Fits size amount (timed es) es → (is_allowed_so_far plan (es ++ e ∷ []) ≡ true) × Fits size amount (timed (es ++ e ∷ [])) (es ++ e ∷ [])
      step es e allowed so = (
        allowed-snoc plan es e so.0 allowed,
        subst (λ (xs : List Timed). Fits size amount xs (es ++ e ∷ [])) (sym (timed-snoc es e)) (fits-entry es so.0 so.1 e allowed),
      )

-- the tests of a plan have together at most what was done
none_behind : (amount : ℕ → ℕ) (n micros : ℕ) (least : ℕ) (ts : List PlanTest) → n < least → IsAscendingFrom least (map (λ (t : PlanTest). t.number) ts) → sum_by (λ (t : PlanTest). cond (n == t.number) micros 0 * amount t.number) ts ≡ 0
none_behind amount n micros least [] less ascends = refl
none_behind amount n micros least (t ∷ ts) less ascends =
    let unlike : (n == t.number) ≡ false = apart t.number ascends.0 in
    let none : cond (n == t.number) micros 0 * amount t.number ≡ 0 = ap (λ (b : Bool). cond b micros 0 * amount t.number) unlike ∙ (omega arith) in
    omega (arith, none, none_behind amount n micros (t.number + 1) ts (omega (arith, less, ascends.0)) ascends.1, sum_by-cons (λ (u : PlanTest). cond (n == u.number) micros 0 * amount u.number) t ts)
  where
    apart : (k : ℕ) → least ≤ k → (n == k) ≡ false
    apart k le = grind (arith, nat_tests, less, le)

at_most_one : (amount : ℕ → ℕ) (n micros : ℕ) (least : ℕ) (ts : List PlanTest) → IsAscendingFrom least (map (λ (t : PlanTest). t.number) ts) → sum_by (λ (t : PlanTest). cond (n == t.number) micros 0 * amount t.number) ts ≤ micros * amount n
at_most_one amount n micros least [] ascends = omega arith
at_most_one amount n micros least (t ∷ ts) ascends = elim (cases_Bool (n == t.number)) [
  | inl here ↦
      let same : n ≡ t.number = equal t.number here in
      let own : cond (n == t.number) micros 0 * amount t.number ≡ micros * amount n = ap (λ (b : Bool). cond b micros 0 * amount t.number) here ∙ ap (λ (k : ℕ). micros * amount k) (sym same) in
      omega (arith, own, none_behind amount n micros (t.number + 1) ts (omega (arith, same)) ascends.1, sum_by-cons (λ (u : PlanTest). cond (n == u.number) micros 0 * amount u.number) t ts)
  | inr unlike ↦
      let none : cond (n == t.number) micros 0 * amount t.number ≡ 0 = ap (λ (b : Bool). cond b micros 0 * amount t.number) unlike ∙ (omega arith) in
      omega (arith, none, at_most_one amount n micros (t.number + 1) ts ascends.1, sum_by-cons (λ (u : PlanTest). cond (n == u.number) micros 0 * amount u.number) t ts)
]
  where
    equal : (k : ℕ) → (n == k) ≡ true → n ≡ k
    equal k is = grind (arith, nat_tests, is)

no_amounts : (amount : ℕ → ℕ) (us : List PlanTest) → sum_by (λ (t : PlanTest). 0 * amount t.number) us ≤ 0
no_amounts amount [] = omega arith
no_amounts amount (u ∷ us) =
    let none : 0 * amount u.number ≡ 0 = omega arith in
    omega (arith, none, no_amounts amount us, sum_by-cons (λ (t : PlanTest). 0 * amount t.number) u us)

entry_most : (amount : ℕ → ℕ) (least : ℕ) (ts : List PlanTest) (e : Entry) → IsAscendingFrom least (map (λ (t : PlanTest). t.number) ts) → sum_by (λ (t : PlanTest). work_by t.number e * amount t.number) ts ≤ ended amount e
entry_most amount least ts (Start n a w p) ascends = no_amounts amount ts
entry_most amount least ts (End n a w s) ascends = at_most_one amount n s.micros least ts ascends
entry_most amount least ts (Settle n c) ascends = no_amounts amount ts
entry_most amount least ts Stop ascends = no_amounts amount ts

work-cons : (amount : ℕ → ℕ) (e : Entry) (es : List Entry) (ts : List PlanTest) → sum_by (λ (t : PlanTest). work t.number (e ∷ es) * amount t.number) ts ≡ sum_by (λ (t : PlanTest). work_by t.number e * amount t.number) ts + sum_by (λ (t : PlanTest). work t.number es * amount t.number) ts
work-cons amount e es [] = refl
work-cons amount e es (t ∷ ts) =
    let one : work t.number (e ∷ es) ≡ work_by t.number e + work t.number es = sum_by-cons (work_by t.number) e es in
    let own : work t.number (e ∷ es) * amount t.number ≡ work_by t.number e * amount t.number + work t.number es * amount t.number = ap (λ (k : ℕ). k * amount t.number) one ∙ add-mul (work_by t.number e) (work t.number es) (amount t.number) in
    omega (
      arith,
      own,
      work-cons amount e es ts,
      sum_by-cons (λ (u : PlanTest). work u.number (e ∷ es) * amount u.number) t ts,
      sum_by-cons (λ (u : PlanTest). work_by u.number e * amount u.number) t ts,
      sum_by-cons (λ (u : PlanTest). work u.number es * amount u.number) t ts,
    )

works_most : (amount : ℕ → ℕ) (ts : List PlanTest) (es : List Entry) → IsAscendingFrom 1 (map (λ (t : PlanTest). t.number) ts) → sum_by (λ (t : PlanTest). work t.number es * amount t.number) ts ≤ done amount es
works_most amount ts [] ascends = no_amounts amount ts
works_most amount ts (e ∷ es) ascends = omega (arith, work-cons amount e es ts, entry_most amount 1 ts e ascends, works_most amount ts es ascends, sum_by-cons (ended amount) e es)

same_sum : (amount : ℕ → ℕ) (one other : List Entry) (ts : List PlanTest) → All (λ (t : PlanTest). work t.number one ≡ work t.number other) ts → sum_by (λ (t : PlanTest). work t.number one * amount t.number) ts ≡ sum_by (λ (t : PlanTest). work t.number other * amount t.number) ts
same_sum amount one other [] same = refl
same_sum amount one other (t ∷ ts) same =
    let here : work t.number one ≡ work t.number other = same 0 t (omega arith) in
    let first : work t.number one * amount t.number ≡ work t.number other * amount t.number = ap (λ (k : ℕ). k * amount t.number) here in
    omega (
      arith,
      first,
      same_sum amount one other ts (λ k d lt. same (suc k) d (omega (arith, lt))),
      sum_by-cons (λ (u : PlanTest). work u.number one * amount u.number) t ts,
      sum_by-cons (λ (u : PlanTest). work u.number other * amount u.number) t ts,
    )

up_most : (size total most : ℕ) → 1 ≤ size → total ≤ most * size → over_up total size ≤ most
up_most size total most some le =
    let next : (most + 1) * size ≡ most * size + 1 * size = add-mul most 1 size in
    let below : total + (size - 1) < (most + 1) * size = omega (arith, next, le, some) in
    let less = (div-lt_iff_lt-mul {k = size} {x = total + (size - 1)} {y = most + 1} some).1 below in
    omega (arith, less)

-- no history with the same work is shorter than the bound
pub bound_least : (plan : PlanParts) (size : ℕ) (amount : ℕ → ℕ) (recorded other : List Entry) → IsSound plan → IsCapacity plan size amount → is_legal plan other ≡ true → HaveSameWork plan recorded other → bound plan size amount recorded ≤ length_of other
bound_least plan size amount recorded other sound capacity legal same =
    let fits = (fits_all plan size amount capacity other (legal_allowed plan other legal)).1 in
    let most = works_most amount plan.tests other sound.numbers in
    let sums = same_sum amount recorded other plan.tests same in
    up_most size (sum_by (λ (t : PlanTest). work t.number recorded * amount t.number) plan.tests) (length_of other) capacity.size_is_some (omega (arith, fits, most, sums))
