-- The bound of a lock, and the first lock with the greatest one.
use Rattle.std.proofs.Common.{◌≡◌, ◌∙◌, sym, ap, subst, Bool, true, false, cond, ℕ, ◌+◌, ◌*◌, ◌≤◌, ◌<◌, ◌^◌, List, [], ◌∷◌, ◌++◌, drop, get_or, length, map, take, refl, arith, ltb-true, ltb-false}
use Rattle.std.specs.Prelude.{Option, Some, None, ◌-◌, min, nat_lt, not, sum_by, ◌==◌, ◌&&◌, ◌||◌}
use Rattle.std.specs.Borrow.{Bor}
use Rattle.std.proofs.lemmas.Bool.{eqb-true}
use Rattle.std.proofs.lemmas.List.Sums.{sum_by-cons}
use Rattle.std.proofs.lemmas.List.{map-append, take-append-drop}
use Rattle.ct_base.specs.Names.{is_among}
use Rattle.ct_history.specs.declared.plan.PlanTest.{PlanTest}
use Rattle.ct_history.specs.declared.plan.PlanParts.{PlanParts}
use Rattle.ct_history.specs.Plan.{IsAscendingFrom, IsSound}
use Rattle.ct_times.specs.declared.bounds.Capacity.TheVariants.{Lock}
use Rattle.ct_times.specs.declared.locks.LockWork.{LockWork}
use Rattle.ct_times.specs.Amounts.{is_lone}
use Rattle.ct_times.specs.Bounds.{Done, amount_by, work_by}
use Rattle.ct_times.specs.Capacity.{over_up}
use Rattle.ct_times.specs.First.{IsFirstOf, held_bound}
use Rattle.ct_times.specs.Locks.{AreBelow, IsLockWork, IsLongestSoFar, added_of, alone_of, is_above, lock_with_test, lone_of, lone_work, lock_micros, sharer_in}
use Rattle.ct_times.proofs.FirstLemmas.{first_alone, first_changed, first_kept}
use Rattle.ct_times.proofs.LockStepLemmas.{work_more}
use Rattle.ct_times.proofs.MeasureLemmas.{next_in}

-- tests that ascend, up to the next one: their numbers are below its number
below_snoc : (least : ℕ) (ts : List PlanTest) (t : PlanTest) → IsAscendingFrom least (map (λ (x : PlanTest). x.number) (ts ++ t ∷ [])) → AreBelow t.number ts × (least ≤ t.number)
below_snoc least [] t ascends = (tt, ascends.0)
below_snoc least (x ∷ xs) t ascends =
    let rest = below_snoc (x.number + 1) xs t ascends.1 in
    ((omega (arith, rest.1), rest.0), omega (arith, ascends.0, rest.1))

ascends_front : (least : ℕ) (ts rest : List PlanTest) → IsAscendingFrom least (map (λ (x : PlanTest). x.number) (ts ++ rest)) → IsAscendingFrom least (map (λ (x : PlanTest). x.number) ts)
ascends_front least [] rest ascends = tt
ascends_front least (x ∷ xs) rest ascends = (ascends.0, ascends_front (x.number + 1) xs rest ascends.1)

-- the work of a lock by the first tests of a plan, with the next one
pub work_next : (plan : PlanParts) → IsSound plan → (done : Done) (lock : List ℕ) (at : ℕ) (t : PlanTest) (w new : LockWork) → at < length plan.tests → t ≡ get_or plan.tests at t
    → IsLockWork plan.level done lock (take at plan.tests) w → new ≡ lock_with_test plan.level done lock t w → IsLockWork plan.level done lock (take (at + 1) plan.tests) new
work_next plan sound done lock at t w new within is work new_is =
    let front = take at plan.tests in
    let next = next_in plan.tests at t within is in
    let ascends : IsAscendingFrom 1 (map (λ (x : PlanTest). x.number) (front ++ t ∷ [])) =
    subst (λ (ts : List PlanTest). IsAscendingFrom 1 (map (λ (x : PlanTest). x.number) ts)) next
    (ascends_front 1 (take (at + 1) plan.tests) (drop (at + 1) plan.tests)
    (subst (λ (ts : List PlanTest). IsAscendingFrom 1 (map (λ (x : PlanTest). x.number) ts)) (sym (take-append-drop (at + 1) plan.tests)) sound.numbers))
    in
    let below = below_snoc 1 front t ascends in
    subst (λ (v : LockWork). IsLockWork plan.level done lock (take (at + 1) plan.tests) v) (sym new_is)
    (subst (λ (ts : List PlanTest). IsLockWork plan.level done lock ts (lock_with_test plan.level done lock t w)) (sym next)
    (work_more plan.level done lock front t (omega (arith, below.1)) below.0 w work))

module _ (plan : PlanParts) (done : Done) (lock : List ℕ) (w : LockWork) where
  abbrev holder : Option ℕ
  holder = sharer_in w

  share : (took : ℕ) (r l a n s : Bool) → took * cond r (cond l 1 (min (cond (a || n && s) 1 0) 1)) 0 ≡ cond (r && l) took 0 + (cond (r && not l && a) took 0 + cond (r && not l && (not a && (n && s))) took 0)
  share took false l a n s = omega arith
  share took true true a n s = omega arith
  share took true false true n s = omega arith
  share took true false false true true = omega arith
  share took true false false true false = omega arith
  share took true false false false s = omega arith

  -- the work of a lock by its parts: that of lone tests, of those that hold it alone, and of the sharer
  parts : (sharer : ℕ) (tests : List PlanTest) → work_by plan.level done (Lock lock (Some sharer)) 1 tests
      ≡ sum_by (lone_of plan.level done) tests + (sum_by (alone_of plan.level done lock) tests + sum_by (added_of plan.level done lock sharer) tests)
  parts sharer [] = refl
  parts sharer (t ∷ ts) =
      omega (
        arith,
        sum_by-cons (λ (x : PlanTest). done.took x.number * amount_by plan.level done (Lock lock (Some sharer)) 1 x) t ts,
        sum_by-cons (lone_of plan.level done) t ts,
        sum_by-cons (alone_of plan.level done lock) t ts,
        sum_by-cons (added_of plan.level done lock sharer) t ts,
        share (done.took t.number) (done.has_run t.number) (is_lone plan.level t) (is_among lock t.locks) (t.number == sharer) (is_among lock t.shared),
        parts sharer ts,
      )

  -- the sharer counts by its number, 0 without one
  by_number : (sharer : ℕ) (tests : List PlanTest) → work_by plan.level done (Lock lock (cond (sharer == 0) None (Some sharer))) 1 tests ≡ work_by plan.level done (Lock lock (Some sharer)) 1 tests
  by_number sharer tests = by (sharer == 0) refl
    where
      by : (b : Bool) → (sharer == 0) ≡ b → work_by plan.level done (Lock lock (cond b None (Some sharer))) 1 tests ≡ work_by plan.level done (Lock lock (Some sharer)) 1 tests
      by true is = ap (λ (n : ℕ). work_by plan.level done (Lock lock (Some n)) 1 tests) (sym (eqb-true sharer 0 is))
      by false is = refl

  over_one : (n : ℕ) → over_up n 1 ≡ n
  over_one n = omega arith

  -- the bound of a lock
  pub lock_bound : (lone : ℕ) → lone ≡ min (lone_work plan.level done plan.tests) (2 ^ 128 - 1) → IsLockWork plan.level done lock plan.tests w → lock_micros lone w ≡ held_bound plan done (Lock lock (sharer_in w))
  lock_bound lone lone_is is =
      omega (
        arith,
        lone_is,
        is.alone,
        is.added,
        by_number w.sharer plan.tests,
        parts w.sharer plan.tests,
        over_one (work_by plan.level done (Lock lock (sharer_in w)) 1 plan.tests),
      )

-- the longest of some locks, with the next one
pub longest_more : (value : List ℕ → ℕ) (names : List (Bor (List ℕ))) (at : ℕ) (name : Bor (List ℕ)) (micros : ℕ) (found : Option (Bor (List ℕ))) (most : Option ℕ) → at < length names → name ≡ get_or names at name → micros ≡ value name.now
    → IsLongestSoFar value (map (λ (n : Bor (List ℕ)). n.now) (take at names)) found most
    → IsLongestSoFar value (map (λ (n : Bor (List ℕ)). n.now) (take (at + 1) names)) (cond (is_above micros most) (Some name) found) (cond (is_above micros most) (Some micros) most)
longest_more value names at name micros found most within is micros_is so_far =
    subst (λ (ns : List (List ℕ)). IsLongestSoFar value ns (cond (is_above micros most) (Some name) found) (cond (is_above micros most) (Some micros) most))
    (sym (ap (map now) (next_in names at name within is) ∙ map-append now (take at names) (name ∷ [])))
    (by found most so_far)
  where
    now : Bor (List ℕ) → List ℕ
    now n = n.now

    front : List (List ℕ)
    front = map now (take at names)

    choose : (x : Bor (List ℕ)) (m : ℕ) (b : Bool) → nat_lt m micros ≡ b → IsFirstOf value front x.now → m ≡ value x.now → IsLongestSoFar value (front ++ name.now ∷ []) (cond b (Some name) (Some x)) (cond b (Some micros) (Some m))
    choose x m true more first known = (first_changed value front (name.now ∷ []) x.now name.now first (first_alone value name.now) (omega (arith, ltb-true m micros more, known, micros_is)), micros_is)
    choose x m false less first known = (first_kept value front (name.now ∷ []) x.now name.now first (first_alone value name.now) (omega (arith, ltb-false m micros less, known, micros_is)), known)

    by : (found : Option (Bor (List ℕ))) (most : Option ℕ) → IsLongestSoFar value front found most → IsLongestSoFar value (front ++ name.now ∷ []) (cond (is_above micros most) (Some name) found) (cond (is_above micros most) (Some micros) most)
    by None None none = (subst (λ (ns : List (List ℕ)). IsFirstOf value (ns ++ name.now ∷ []) name.now) (sym none) (first_alone value name.now), micros_is)
    by (Some x) (Some m) have = choose x m (nat_lt m micros) refl have.0 have.1
    by (Some x) None never = absurd never
    by None (Some m) never = absurd never

-- values that are the same have the same first one
pub first_same : (f g : List ℕ → ℕ) → ((x : List ℕ) → f x ≡ g x) → (xs : List (List ℕ)) (told : List ℕ) → IsFirstOf f xs told → IsFirstOf g xs told
first_same f g same xs told first = subst (λ (v : List ℕ → ℕ). IsFirstOf v xs told) (λ i x. same x i) first
