use Rattle.std.proofs.Common.{◌≡◌, ◌≤◌, [], map, reverse, drop, vec_len, vec_capacity}
use Rattle.ct_regex.specs.Walk.{all_flow, step_of, walked}
use Rattle.ct_regex.proofs.walk.walk.Given as goal

abbrev pub invariant-loop-i : goal.invariant-loop-i
invariant-loop-i l = record {
  same : walked (map step_of (drop l.i l.steps)) l.byte (record { flow = l.flow; opened = reverse l.opened.items; marks = l.marks })
      ≡ walked (map step_of l.steps) l.byte (record { flow = all_flow; opened = []; marks = l.fn.marks });
  len : vec_len l.opened ≤ l.i;
  room : vec_capacity l.opened ≡ vec_capacity l.fn.opened;
}
