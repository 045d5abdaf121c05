-- The tests that the tree of a load defines. This project's own.
use Rattle.std.specs.Prelude.{ℕ, ◌+◌, ◌-◌, ◌%◌, List, [], ◌∷◌, ◌++◌, map, codes, decimal, ◌==◌, if◌then◌else◌}
use Rattle.ct_base.specs.declared.defs.Pair.{Pair}
use Rattle.ct_base.specs.declared.defs.TestDef.{TestDef}
use Rattle.ct_load.specs.Tree.{load_test_name, numbers}

-- what every tenth test waits for
abbrev pub depends_props : ℕ → List Pair
depends_props number =
    if number % 10 == 0 then record { name = codes "DEPENDS"; value = load_test_name (number - 1) } ∷ [] else []

-- the lock of every fourth test
abbrev pub lock_props : ℕ → List Pair
lock_props number =
    if number % 4 == 0
    then record { name = codes "RESOURCE_LOCK"; value = codes "l" ++ decimal (number % 5) } ∷ []
    else []

-- the properties of a test
abbrev pub load_props : ℕ → List Pair
load_props number =
    record { name = codes "PROCESSORS"; value = decimal (1 + number % 3) }
    ∷ record { name = codes "COST"; value = decimal (number % 7) }
    ∷ (depends_props number ++ lock_props number)

-- a test
abbrev pub load_def : ℕ → TestDef
load_def number = record {
  name = load_test_name number;
  command = codes "true" ∷ [];
  dir = codes ".";
  props = load_props number;
  dir_labels = [];
}

-- the tests of a load, in order of number
abbrev pub load_defs : ℕ → List TestDef
load_defs count = map load_def (numbers count)
