use Rattle.std.proofs.Common.{◌≡◌, vec_len, replicate}
use Rattle.ct_load.specs.World.{gate_of}
use Rattle.ct_load.proofs.world.gates_of.Given as goal

abbrev pub invariant-loop : goal.invariant-loop
invariant-loop l = record {
  all : vec_len l.gates ≡ l.counter;
  are : l.gates.items ≡ replicate l.counter (gate_of l.count);
}
