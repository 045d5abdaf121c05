use Rattle.std.proofs.Common.{◌≡◌, ◌+◌}
use Rattle.std.specs.Prelude.{vec_capacity, vec_len}
use Rattle.ct_worker.specs.Crew.{HasSplit}
use Rattle.ct_worker.proofs.crew.split_all.Given as goal

-- this many passes were split off so far, and are behind the pass of worker 0
abbrev pub invariant-loop : goal.invariant-loop
invariant-loop g l = record {
  split : HasSplit l.turn l.fn.first l.counter l.passes.items;
  count : vec_len l.passes ≡ l.counter + 1;
  room : vec_capacity l.passes ≡ vec_capacity l.fn.passes;
}
