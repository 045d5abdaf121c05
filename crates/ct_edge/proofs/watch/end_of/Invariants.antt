use Rattle.std.proofs.Common.{◌<◌, ◌≤◌}
use Rattle.ct_edge.proofs.watch.end_of.Given as goal

abbrev pub invariant-loop-look : goal.invariant-loop-look
invariant-loop-look g l = record {
  paused : 0 < l.pause;
  short : l.pause ≤ 20_000;
}
