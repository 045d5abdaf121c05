-- What a cycle is, where each test has some tests before it. Source: this project's choice.
use Rattle.std.specs.Prelude.{◌≡◌, ℕ, Bool, true, false, not, ◌&&◌, List, [], ◌∷◌}
use Rattle.ct_base.specs.Numbers.{is_in}

-- a list of tests that is not empty: each has the next one before it, and the last has `first` before it
abbrev pub leads_to : (ℕ → List ℕ) → ℕ → List ℕ → Bool
leads_to before first [] = false
leads_to before first (last ∷ []) = is_in (before last) first
leads_to before first (test ∷ next ∷ rest) = is_in (before test) next && leads_to before first (next ∷ rest)

-- the tests lead round: there is at least one, each has the next one before it, and the last has the first
abbrev pub leads_round : (ℕ → List ℕ) → List ℕ → Bool
leads_round before [] = false
leads_round before (first ∷ rest) = leads_to before first (first ∷ rest)

-- no number stands twice in the list
abbrev pub are_distinct : List ℕ → Bool
are_distinct [] = true
are_distinct (number ∷ numbers) = not (is_in numbers number) && are_distinct numbers

-- a cycle: distinct tests, of which each has the next one before it, and the last has the first before it
abbrev pub is_cycle : (ℕ → List ℕ) → List ℕ → Bool
is_cycle before tests = leads_round before tests && are_distinct tests

-- some tests lead round, be they distinct or not; so do those of each cycle
pub record HasCycle (before : ℕ → List ℕ) : Type 0 where
  pub tests : List ℕ
  pub round : leads_round before tests ≡ true
