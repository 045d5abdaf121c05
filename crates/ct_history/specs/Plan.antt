-- What a plan says of its tests, and when it is sound. This project's own, after ctest(1).
use Rattle.std.specs.Prelude.{◌≡◌, ℕ, ◌+◌, ◌<◌, ◌≤◌, Bool, true, false, not, ◌&&◌, List, [], ◌∷◌, length, map, filter, slice_get, find, All, Option, Some, None, IfSome, nat_le, nat_lt, ◌==◌, IsPermutation, is_some}
use Rattle.std.specs.List.{list_any, list_all}
use Rattle.ct_base.specs.declared.defs.Resource.{Resource}
use Rattle.ct_base.specs.Resources.{AreDistinct}
use Rattle.ct_alloc.specs.Placement.{SomeFits}
use Rattle.ct_verdict.specs.declared.verdict.Cause.{Cause}
use Rattle.ct_verdict.specs.declared.verdict.Cause.TheVariants.{NotAvailable, BadOperation, Insufficient}
use Rattle.ct_history.specs.declared.plan.PlanTest.{PlanTest}
use Rattle.ct_history.specs.declared.plan.PlanParts.{PlanParts}

-- the test with this number
abbrev pub test_at : List PlanTest → ℕ → Option PlanTest
test_at tests number = find (λ (t : PlanTest). t.number == number) tests

-- the test with this number stands at this place, counted from 0
pub record IsPlaceOf (tests : List PlanTest) (number place : ℕ) : Type 0 where
  pub within : place < length tests
  pub there : slice_get tests place ≡ test_at tests number

-- the numbers ascend without repeats, and the first is at least this one
abbrev pub IsAscendingFrom : ℕ → List ℕ → Type 0
IsAscendingFrom least [] = Unit {0}
IsAscendingFrom least (n ∷ ns) = (least ≤ n) × IsAscendingFrom (n + 1) ns

-- the links of each test, which are its predecessors or its setups, ascend without repeats
abbrev pub AllAscend : (PlanTest → List ℕ) → List PlanTest → Type 0
AllAscend links [] = Unit {0}
AllAscend links (t ∷ ts) = IsAscendingFrom 1 (links t) × AllAscend links ts

-- the tests that are not disabled
abbrev pub enabled : List PlanTest → List PlanTest
enabled tests = filter (λ (t : PlanTest). not t.disabled) tests

-- the test is there, is not disabled, and has a rank below this one
abbrev pub is_before_rank : ℕ → Option PlanTest → Bool
is_before_rank rank None = false
is_before_rank rank (Some t) = not t.disabled && nat_lt t.rank rank

-- a test's predecessors are tests that are not disabled, with lesser ranks, and its setups are among them
abbrev pub has_sound_links : List PlanTest → PlanTest → Bool
has_sound_links tests t =
    list_all (λ j. is_before_rank t.rank (test_at tests j)) t.before
    && list_all (λ s. list_any (λ j. j == s) t.before) t.setups

-- no cause, or one that is known before the run: NotAvailable, BadOperation, or
-- Insufficient where resources are given
abbrev pub is_fixed_cause : Option (List Resource) → Option Cause → Bool
is_fixed_cause resources None = true
is_fixed_cause resources (Some NotAvailable) = true
is_fixed_cause resources (Some (BadOperation place)) = true
is_fixed_cause resources (Some Insufficient) = is_some resources
is_fixed_cause resources (Some _) = false

-- a test takes from 1 processor to the level
abbrev pub has_sound_processors : ℕ → PlanTest → Bool
has_sound_processors level t = nat_le 1 t.processors && nat_le t.processors level

-- a test without a fixed cause has needs that fit while no slot is used
abbrev pub IsPlaceable : List Resource → PlanTest → Type 0
IsPlaceable resources t = t.fixed ≡ None → SomeFits resources t.needs (λ place. 0)

-- what holds of each plan that is made
pub record IsSound (plan : PlanParts) : Type 0 where
  pub numbers : IsAscendingFrom 1 (map (λ (t : PlanTest). t.number) plan.tests)
  pub before : AllAscend (λ t. t.before) plan.tests
  pub setups : AllAscend (λ t. t.setups) plan.tests
  pub links : list_all (has_sound_links plan.tests) plan.tests ≡ true
  pub processors : list_all (has_sound_processors plan.level) plan.tests ≡ true
  pub fixed : list_all (λ (t : PlanTest). is_fixed_cause plan.resources t.fixed) plan.tests ≡ true
  pub queue : IsPermutation plan.queue (map (λ (t : PlanTest). t.number) (enabled plan.tests))
  pub times : 1 ≤ plan.repeat.times
  pub distinct : IfSome plan.resources AreDistinct
  pub placeable : IfSome plan.resources (λ resources. All (IsPlaceable resources) plan.tests)
