-- Which tests wait for a test. Source: CMake manual, cmake-properties(7), DEPENDS, FIXTURES_REQUIRED.
use Rattle.std.specs.Prelude.{ℕ, Bool, not, ◌&&◌, List, map, filter}
use Rattle.ct_base.specs.Numbers.{is_in}
use Rattle.ct_history.specs.declared.plan.PlanTest.{PlanTest}

-- the test is not disabled, and waits for the one with this number
abbrev pub follows : ℕ → PlanTest → Bool
follows number t = not t.disabled && is_in t.before number

-- the numbers of the tests that wait for the one with this number, in order
abbrev pub followers_of : List PlanTest → ℕ → List ℕ
followers_of tests number = map (λ (t : PlanTest). t.number) (filter (follows number) tests)

-- for each of these tests, in order, the numbers of the tests among `some` that wait for it
abbrev pub followers_among : List PlanTest → List PlanTest → List (List ℕ)
followers_among some tests = map (λ (t : PlanTest). followers_of some t.number) tests
