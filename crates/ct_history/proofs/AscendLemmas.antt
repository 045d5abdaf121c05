-- Numbers that ascend: a part of them, their pairs, and those at their places.
use Rattle.std.proofs.Common.{ℕ, ◌≡◌, ◌<◌, ◌≤◌, ◌+◌, Bool, true, false, cond, zero, suc, List, [], ◌∷◌, length, get_or, filter, All, subst, arith, ⊎_elim}
use Rattle.std.specs.Prelude.{AllPairs}
use Rattle.std.specs.List.{range_with_len}
use Rattle.std.proofs.lemmas.List.Elements.{All-nil, All-cons, All-weaker}
use Rattle.std.proofs.lemmas.List.Kept.{AllPairs-cons}
use Rattle.std.proofs.lemmas.Bool.{cases_lt}
use Rattle.ct_history.specs.Plan.{IsAscendingFrom}

-- numbers that ascend from a number ascend from each lesser one
pub ascends_sooner : (least first : ℕ) (numbers : List ℕ) → least ≤ first → IsAscendingFrom first numbers → IsAscendingFrom least numbers
ascends_sooner least first [] sooner ascends = tt
ascends_sooner least first (n ∷ ns) sooner ascends = (omega (arith, ascends.0), ascends.1)

-- a range ascends
pub range_ascends : (first count : ℕ) → IsAscendingFrom first (range_with_len first count)
range_ascends first zero = tt
range_ascends first (suc count) = (omega arith, range_ascends (first + 1) count)

-- numbers that ascend, with one in front or without it
pub ascends_with : (least first : ℕ) (numbers : List ℕ) → least ≤ first → IsAscendingFrom (first + 1) numbers → (b : Bool) → IsAscendingFrom least (cond b (first ∷ numbers) numbers)
ascends_with least first numbers low rest true = (low, rest)
ascends_with least first numbers low rest false = ascends_sooner least (first + 1) numbers (omega (arith, low)) rest

-- a part of ascending numbers ascends
pub ascends-filter : (p : ℕ → Bool) (least : ℕ) (numbers : List ℕ) → IsAscendingFrom least numbers → IsAscendingFrom least (filter p numbers)
ascends-filter p least [] ascends = tt
ascends-filter p least (n ∷ ns) ascends = ascends_with least n (filter p ns) ascends.0 (ascends-filter p (n + 1) ns ascends.1) (p n)

-- each number is at least the one that they ascend from
pub all_behind : (least : ℕ) (numbers : List ℕ) → IsAscendingFrom least numbers → All (λ number. least ≤ number) numbers
all_behind least [] ascends = All-nil (λ number. least ≤ number)
all_behind least (n ∷ ns) ascends =
    All-cons (λ number. least ≤ number) n ns ascends.0
    (All-weaker (λ number. n + 1 ≤ number) (λ number. least ≤ number) (λ number more. omega (arith, more, ascends.0)) ns (all_behind (n + 1) ns ascends.1))

-- of numbers that ascend, each is below those behind it
pub pairs_ascend : (least : ℕ) (numbers : List ℕ) → IsAscendingFrom least numbers → AllPairs (λ one other. one < other) numbers
pairs_ascend least [] ascends = λ i j d before within. absurd (omega (arith, before, within))
pairs_ascend least (n ∷ ns) ascends =
    AllPairs-cons (λ one other. one < other) n ns
    (All-weaker (λ number. n + 1 ≤ number) (λ number. n < number) (λ number more. omega (arith, more)) ns (all_behind (n + 1) ns ascends.1))
    (pairs_ascend (n + 1) ns ascends.1)

pub ascending_bound : (least : ℕ) (ns : List ℕ) → IsAscendingFrom least ns → (k : ℕ) → k < length ns → least ≤ get_or ns k 0
ascending_bound least [] ascends k lt = absurd (omega (arith, lt))
ascending_bound least (n ∷ ns) ascends zero lt = ascends.0
ascending_bound least (n ∷ ns) ascends (suc k) lt = omega (arith, ascends.0, ascending_bound (n + 1) ns ascends.1 k (omega (arith, lt)))

-- of numbers that ascend, a later one is greater
pub ascending_less : (least : ℕ) (ns : List ℕ) → IsAscendingFrom least ns → (i j : ℕ) → i < j → j < length ns → get_or ns i 0 < get_or ns j 0
ascending_less least [] ascends i j less lt = absurd (omega (arith, lt))
ascending_less least (n ∷ ns) ascends i zero less lt = absurd (omega (arith, less))
ascending_less least (n ∷ ns) ascends zero (suc j) less lt = omega (arith, ascending_bound (n + 1) ns ascends.1 j (omega (arith, lt)))
ascending_less least (n ∷ ns) ascends (suc i) (suc j) less lt = ascending_less (n + 1) ns ascends.1 i j (omega (arith, less)) (omega (arith, lt))

pub ascending_most : (least : ℕ) (ns : List ℕ) → IsAscendingFrom least ns → (i j : ℕ) → i ≤ j → j < length ns → get_or ns i 0 ≤ get_or ns j 0
ascending_most least ns ascends i j le lt =
    ⊎_elim
    (λ (less : i < j). omega (arith, ascending_less least ns ascends i j less lt))
    (λ (most : j ≤ i). let same : i ≡ j = omega (arith, le, most) in subst (λ (k : ℕ). get_or ns i 0 ≤ get_or ns k 0) same (omega arith))
    (cases_lt i j)
