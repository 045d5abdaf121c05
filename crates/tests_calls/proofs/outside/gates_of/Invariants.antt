use Rattle.std.proofs.Common.{◌≡◌, vec_len}
use Rattle.tests_calls.proofs.outside.gates_of.Given as goal

abbrev pub invariant-loop : goal.invariant-loop
invariant-loop l = record { count : vec_len l.gates ≡ l.counter }
