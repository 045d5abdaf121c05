-- Processors, wide tests and a lock are capacities.
use Rattle.std.proofs.Common.{◌≡◌, ◌∙◌, sym, ap, Bool, true, false, ℕ, zero, suc, ◌+◌, ◌*◌, ◌<◌, ◌≤◌, List, [], ◌∷◌, get_or, length, refl, arith, inl, inr}
use Rattle.std.specs.Prelude.{◌≢◌, ◌⊎◌, Option, Some, None, ◌==◌, ◌&&◌, ◌||◌, nat_lt, sum_by, bytes_eq, AllPairs}
use Rattle.std.proofs.lemmas.Bool.{and_parts, cases_Bool, true≢false, or_parts, or_right}
use Rattle.std.proofs.lemmas.Bool.Decides.{nat_tests}
use Rattle.std.proofs.lemmas.List.Sums.{sum_by-cons, sum_by-le-sum_by, get_or-le-sum_by}
use Rattle.std.proofs.lemmas.Slice.Eq.{bytes_eq-Decides}
use Rattle.ct_base.specs.Names.{is_among, shares_name}
use Rattle.ct_history.specs.declared.plan.PlanTest.{PlanTest}
use Rattle.ct_history.specs.declared.plan.PlanParts.{PlanParts}
use Rattle.ct_history.specs.declared.history.Entry.{Entry}
use Rattle.ct_history.specs.Plan.{IsSound, test_at}
use Rattle.ct_history.specs.History.{Running, open_starts, processors_of}
use Rattle.ct_history.specs.Rules.{exclude}
use Rattle.ct_history.proofs.ApartLemmas.{starts_apart}
use Rattle.ct_history.proofs.PlanLemmas.{find_passes}
use Rattle.ct_times.specs.Capacity.{IsCapacity}
use Rattle.ct_times.specs.Amounts.{amount_of, lock_amount, amount_if, processor_amount, wide_amount}
use Rattle.ct_times.proofs.AloneLemmas.{capacity_from, locks_parts, other_at, others}

-- of numbers of which no two are above 0 together, and none is above 1, the sum is at most 1
no_sum : {A : Type 0} (f : A → ℕ) (xs : List A) → ((k : ℕ) (d : A) → k < length xs → f (get_or xs k d) ≡ 0) → sum_by f xs ≡ 0
no_sum f [] none = refl
no_sum f (x ∷ xs) none = omega (arith, none 0 x (omega arith), no_sum f xs (λ k d lt. none (suc k) d (omega (arith, lt))), sum_by-cons f x xs)

pub one_sum : {A : Type 0} (f : A → ℕ) (xs : List A) → ((x : A) → f x ≤ 1) → AllPairs (λ (one other : A). (f one ≡ 0) ⊎ (f other ≡ 0)) xs → sum_by f xs ≤ 1
one_sum f [] most apart = omega arith
one_sum f (x ∷ xs) most apart = elim (cases_Bool (f x == 0)) [
  | inl none ↦
      let zero_first : f x ≡ 0 = grind (arith, nat_tests) in
      omega (arith, zero_first, one_sum f xs most (λ i j d less lt. apart (suc i) (suc j) d (omega (arith, less)) (omega (arith, lt))), sum_by-cons f x xs)
  | inr some ↦
      let above : f x ≢ 0 = grind (arith, nat_tests) in
      let rest : sum_by f xs ≡ 0 = no_sum f xs (λ k d lt. other (f x) (f (get_or xs k d)) above (apart 0 (suc k) d (omega arith) (omega (arith, lt)))) in
      omega (arith, most x, rest, sum_by-cons f x xs)
]
  where
    other : (m n : ℕ) → m ≢ 0 → (m ≡ 0) ⊎ (n ≡ 0) → n ≡ 0
    other m n above (inl none) = absurd (above none)
    other m n above (inr none) = none

-- two of the numbers are together at most the sum
pair_sum : {A : Type 0} (f : A → ℕ) (xs : List A) (i j : ℕ) (d : A) → i < j → j < length xs → f (get_or xs i d) + f (get_or xs j d) ≤ sum_by f xs
pair_sum f [] i j d less lt = absurd (omega (arith, lt))
pair_sum f (x ∷ xs) i zero d less lt = absurd (omega (arith, less))
pair_sum f (x ∷ xs) zero (suc j) d less lt = omega (arith, get_or-le-sum_by f xs j d (omega (arith, lt)), sum_by-cons f x xs)
pair_sum f (x ∷ xs) (suc i) (suc j) d less lt = omega (arith, pair_sum f xs i j d (omega (arith, less)) (omega (arith, lt)), sum_by-cons f x xs)

pub one_most : (b : Bool) → amount_if b ≤ 1
one_most true = omega arith
one_most false = omega arith

pub none_of : (b : Bool) → b ≡ false → amount_if b ≡ 0
none_of b is = ap amount_if is

-- processors are a capacity
pub processors_hold : (plan : PlanParts) (recorded : List Entry) → IsSound plan → 1 ≤ plan.level → IsCapacity plan plan.level (amount_of plan recorded plan.level processor_amount)
processors_hold plan recorded sound some =
    capacity_from plan sound recorded plan.level processor_amount some (λ es so_far are.
    omega (arith, are.within.processors, sum_by-le-sum_by (λ (r : Running). other_at plan sound recorded plan.level processor_amount (test_at plan.tests r.test)) (λ (r : Running). processors_of (test_at plan.tests r.test)) (open_starts es) (λ r. same (test_at plan.tests r.test))))
  where
    same : (o : Option PlanTest) → other_at plan sound recorded plan.level processor_amount o ≤ processors_of o
    same None = omega arith
    same (Some t) = omega arith

-- wide tests are a capacity
pub wide_hold : (plan : PlanParts) (recorded : List Entry) → IsSound plan → IsCapacity plan 1 (amount_of plan recorded 1 (wide_amount plan.level))
wide_hold plan recorded sound =
    capacity_from plan sound recorded 1 (wide_amount plan.level) (omega arith) (λ es so_far are.
    one_sum (λ (r : Running). other_at plan sound recorded 1 (wide_amount plan.level) (test_at plan.tests r.test)) (open_starts es) (λ r. most (test_at plan.tests r.test)) (λ i j d less lt.
    apart (test_at plan.tests (get_or (open_starts es) i d).test) (test_at plan.tests (get_or (open_starts es) j d).test)
    (omega (arith, are.within.processors, pair_sum (λ (r : Running). processors_of (test_at plan.tests r.test)) (open_starts es) i j d less lt))))
  where
    most : (o : Option PlanTest) → other_at plan sound recorded 1 (wide_amount plan.level) o ≤ 1
    most None = omega arith
    most (Some t) = one_most (nat_lt plan.level (2 * t.processors))

    narrow : (p : ℕ) → 2 * p ≤ plan.level → nat_lt plan.level (2 * p) ≡ false
    narrow p le = grind (arith, nat_tests, le)

    apart : (o u : Option PlanTest) → processors_of o + processors_of u ≤ plan.level → (other_at plan sound recorded 1 (wide_amount plan.level) o ≡ 0) ⊎ (other_at plan sound recorded 1 (wide_amount plan.level) u ≡ 0)
    apart None u le = inl refl
    apart (Some t) None le = inr refl
    apart (Some t) (Some v) le = elim (cases_Bool (nat_lt plan.level (2 * t.processors))) [
      | inl wide ↦
          let above : plan.level < 2 * t.processors = grind (arith, nat_tests, wide) in
          inr (none_of (nat_lt plan.level (2 * v.processors)) (narrow v.processors (omega (arith, above, le))))
      | inr slim ↦ inl (none_of (nat_lt plan.level (2 * t.processors)) slim)
    ]

-- a name that stands in two lists is shared
shares_both : (name : List ℕ) (names others : List (List ℕ)) → is_among name names ≡ true → is_among name others ≡ true → shares_name names others ≡ true
shares_both name [] others one other = absurd (true≢false (sym one))
shares_both name (x ∷ xs) others one other = elim (cases_Bool (bytes_eq name x)) [
  | inl here ↦
      let same : name ≡ x = (bytes_eq-Decides name x).0 here in
      ap (λ (b : Bool). b || shares_name xs others) (sym (ap (λ (n : List ℕ). is_among n others) same) ∙ other)
  | inr unlike ↦
      or_right (is_among x others) (shares_name xs others) (shares_both name xs others (sym (ap (λ (b : Bool). b || is_among name xs) unlike) ∙ one) other)
]

-- whether a test counts for a lock: it holds it alone, or it is the one that shares it
abbrev counts : List ℕ → ℕ → PlanTest → Bool
counts lock sharer t = is_among lock t.locks || t.number == sharer && is_among lock t.shared

-- how a test counts for a lock
counts_by : (lock : List ℕ) (sharer : ℕ) (t : PlanTest) → counts lock sharer t ≡ true → (is_among lock t.locks ≡ true) ⊎ ((t.number ≡ sharer) × (is_among lock t.shared ≡ true))
counts_by lock sharer t is = elim (cases_Bool (is_among lock t.locks)) [
  | inl holds ↦ inl holds
  | inr free ↦
      let both = and_parts (t.number == sharer) (is_among lock t.shared) (sym (ap (λ (b : Bool). b || t.number == sharer && is_among lock t.shared) free) ∙ is) in
      inr (equal t.number both.0, both.1)
]
  where
    equal : (n : ℕ) → (n == sharer) ≡ true → n ≡ sharer
    equal n same = grind (arith, nat_tests, same)

-- of two tests that get along at most one counts for a lock
one_counts : (lock : List ℕ) (sharer : ℕ) (t v : PlanTest) → t.number ≢ v.number → exclude (Some t) (Some v) ≡ false → counts lock sharer t ≡ true → counts lock sharer v ≡ true → ⊥
one_counts lock sharer t v differ apart one other =
    let parts = locks_parts (Some t) (Some v) apart in
    let left = or_parts (shares_name t.locks v.locks) (shares_name t.locks v.shared) parts.0 in
    let right = or_parts (shares_name v.locks t.locks) (shares_name v.locks t.shared) parts.1 in
    elim (counts_by lock sharer t one) [
      | inl holds ↦ elim (counts_by lock sharer v other) [
        | inl too ↦ true≢false (sym (shares_both lock t.locks v.locks holds too) ∙ left.0)
        | inr shares ↦ true≢false (sym (shares_both lock t.locks v.shared holds shares.1) ∙ left.1)
      ]
      | inr shares ↦ elim (counts_by lock sharer v other) [
        | inl holds ↦ true≢false (sym (shares_both lock v.locks t.shared holds shares.1) ∙ right.1)
        | inr too ↦ differ (shares.0 ∙ sym too.0)
      ]
    ]

-- a lock is a capacity
pub lock_holds : (plan : PlanParts) (recorded : List Entry) (lock : List ℕ) (sharer : ℕ) → IsSound plan → IsCapacity plan 1 (amount_of plan recorded 1 (lock_amount lock sharer))
lock_holds plan recorded lock sharer sound =
    capacity_from plan sound recorded 1 (lock_amount lock sharer) (omega arith) (λ es so_far are.
    one_sum (λ (r : Running). other_at plan sound recorded 1 (lock_amount lock sharer) (test_at plan.tests r.test)) (open_starts es) (λ r. most (test_at plan.tests r.test)) (λ i j d less lt.
    apart (get_or (open_starts es) i d).test (get_or (open_starts es) j d).test
    (test_at plan.tests (get_or (open_starts es) i d).test) (test_at plan.tests (get_or (open_starts es) j d).test) refl refl
    ((starts_apart plan es so_far).tests i j d less lt) (are.within.apart i j d less lt)))
  where
    most : (o : Option PlanTest) → other_at plan sound recorded 1 (lock_amount lock sharer) o ≤ 1
    most None = omega arith
    most (Some t) = one_most (counts lock sharer t)

    equal : (m n : ℕ) → (m == n) ≡ true → m ≡ n
    equal m n same = grind (arith, nat_tests, same)

    apart : (m n : ℕ) (o u : Option PlanTest) → test_at plan.tests m ≡ o → test_at plan.tests n ≡ u → m ≢ n → exclude o u ≡ false → (other_at plan sound recorded 1 (lock_amount lock sharer) o ≡ 0) ⊎ (other_at plan sound recorded 1 (lock_amount lock sharer) u ≡ 0)
    apart m n None u at_m at_n differ along = inl refl
    apart m n (Some t) None at_m at_n differ along = inr refl
    apart m n (Some t) (Some v) at_m at_n differ along =
        let one : t.number ≡ m = equal t.number m (find_passes (λ (x : PlanTest). x.number == m) plan.tests t at_m) in
        let other : v.number ≡ n = equal v.number n (find_passes (λ (x : PlanTest). x.number == n) plan.tests v at_n) in
        elim (cases_Bool (counts lock sharer t)) [
          | inl is ↦ elim (cases_Bool (counts lock sharer v)) [
            | inl too ↦ absurd (one_counts lock sharer t v (λ same. differ (sym one ∙ same ∙ other)) along is too)
            | inr none ↦ inr (none_of (counts lock sharer v) none)
          ]
          | inr none ↦ inl (none_of (counts lock sharer t) none)
        ]
