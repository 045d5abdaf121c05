-- What the gates of a load tell. This project's own.
use Rattle.std.specs.Prelude.{ℕ, ◌%◌, ℤ, pos, List, [], map, replicate, ◌==◌, if◌then◌else◌}
use Rattle.ct_verdict.specs.declared.attempt.How.TheVariants.{Exited}
use Rattle.ct_core.specs.declared.gate.Told.{Told}
use Rattle.ct_core.specs.ScriptValue.{ScriptValue}
use Rattle.ct_load.specs.declared.world.TheConstants.{GATES}
use Rattle.ct_load.specs.Tree.{numbers}

-- the exit code of a test: 1 for each that 97 divides
abbrev pub code_of : ℕ → ℤ
code_of number = if number % 97 == 0 then pos 1 else pos 0

-- what is told of the first attempt of a test: nothing is heard, and it takes its number of microseconds
abbrev pub load_told : ℕ → Told
load_told number = record {
  test = number;
  attempt = 1;
  heard = [];
  ended = record { how = Exited (code_of number); micros = number };
}

-- the world of `count` tests
abbrev pub world_of : ℕ → List Told
world_of count = map load_told (numbers count)

-- a gate of this world that was not asked yet
abbrev pub gate_of : ℕ → ScriptValue
gate_of count = record { world = world_of count; asked = []; sent = []; lent = []; faults = 0 }

-- how many gates a load has
abbrev pub load_gate_count : ℕ
load_gate_count = GATES

-- the gates of a load
abbrev pub gates_of : ℕ → List ScriptValue
gates_of count = replicate load_gate_count (gate_of count)
