use Rattle.std.proofs.Common.{◌≡◌, vec_len, replicate}
use Rattle.ct_edge.specs.Machine.{gate_tell, gates_tell}
use Rattle.ct_start.proofs.gates.gates_of.Given as goal

abbrev pub invariant-loop : goal.invariant-loop
invariant-loop l = record {
  count : vec_len l.gates ≡ l.counter;
  unfailed : gates_tell l.gates.items ≡ replicate l.counter (gate_tell 0);
}
