-- What a program on the machine begins with, and its exit status where it cannot begin. This project's own.
use Rattle.std.specs.Prelude.{ℕ, List, map, drop, replicate, string_bytes}
use Rattle.std.specs.declared.string.String.{String}
use Rattle.ct_base.specs.declared.defs.Pair.{Pair}
use Rattle.ct_core.specs.Gate.{GateTell}
use Rattle.ct_edge.specs.Machine.{gate_tell}
use Rattle.ct_start.specs.declared.fault.BeginFault.{BeginFault}
use Rattle.ct_start.specs.declared.fault.BeginFault.TheVariants.{Failed, NoMemory}
use Rattle.ct_start.specs.declared.gates.TheConstants.{GATES}

-- how many programs of tests can run at once
abbrev pub gate_count : ℕ
gate_count = GATES

-- the words behind the program's name
abbrev pub words_in : {A : Type 0} → List (String A) → List (List ℕ)
words_in args = map string_bytes (drop 1 args)

-- the variables, each with its name and its value, in their order
abbrev pub pairs_in : {A : Type 0} → List (String A × String A) → List Pair
pairs_in vars = map (λ var. record { name = string_bytes var.0; value = string_bytes var.1 }) vars

-- what gates that no test has used tell: only that no start has failed
abbrev pub unused_gates : List GateTell
unused_gates = replicate gate_count (gate_tell 0)

-- the exit status of a program that could not begin
abbrev pub status_of_fault : BeginFault → ℕ
status_of_fault Failed = 6
status_of_fault NoMemory = 5
