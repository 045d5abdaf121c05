use Rattle.std.proofs.Common.{◌≡◌, ◌≤◌, vec_len, vec_capacity}
use Rattle.ct_regex.specs.Stand.{a_stand}
use Rattle.ct_regex.proofs.MemoryLemmas.{AllStand}
use Rattle.ct_regex.proofs.memory.Memory.new.Given as goal

abbrev pub invariant-loop-made : goal.invariant-loop-made
invariant-loop-made l = record {
  all : AllStand l.sets.items (a_stand l.marks l.last);
  len : vec_len l.sets ≡ l.made;
  room : l.room ≤ vec_capacity l.sets;
}
