use Rattle.std.proofs.Common.{◌≡◌}
use Rattle.ct_turn.specs.Seen.{HistoryGoesOn, held_start}
use Rattle.ct_worker.specs.Crew.{all_joined}
use Rattle.ct_worker.proofs.crew.join_all.Given as goal

-- the passes so far were joined into the pass of worker 0, which holds what it held
abbrev pub invariant-loop-pass : goal.invariant-loop-pass
invariant-loop-pass g l = record {
  known : l.first ≡ record l.fn.first { known = all_joined l.fn.first.known l.yielded };
  own : HistoryGoesOn l.fn.first.known.worker l.fn.first.known.seen.entries l.first.known.seen.entries;
  held : held_start l.first.known ≡ held_start l.fn.first.known;
}
