-- The kinds and counts of slots that tests ask, as the code lists them. This project's own.
use Rattle.std.specs.Prelude.{ℕ, List, map}
use Rattle.ct_history.specs.declared.plan.PlanTest.{PlanTest}
use Rattle.ct_times.specs.declared.slots.Asked.{Asked}
use Rattle.ct_times.specs.First.{slots_of}

-- a kind and a count, as a pair
abbrev pub as_slots : Asked → List ℕ × ℕ
as_slots a = (a.kind.now, a.block)

-- the kinds and counts that a test needs
abbrev pub slots_of_test : PlanTest → List (List ℕ × ℕ)
slots_of_test t = map slots_of t.needs
