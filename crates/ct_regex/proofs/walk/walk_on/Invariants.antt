use Rattle.std.proofs.Common.{◌≡◌, drop, map, vec_capacity}
use Rattle.ct_regex.specs.Walk.{step_of}
use Rattle.ct_regex.specs.Stand.{a_stand, behind_bytes}
use Rattle.ct_regex.proofs.walk.walk_on.Given as goal

abbrev pub invariant-loop-i : goal.invariant-loop-i
invariant-loop-i l = record {
  same : behind_bytes (map step_of l.steps) (a_stand l.marks l.last) (drop l.i l.bytes) ≡ behind_bytes (map step_of l.steps) (a_stand l.fn.marks l.ends) l.bytes;
  room : vec_capacity l.opened ≡ vec_capacity l.fn.opened;
}
