use Rattle.std.proofs.Common.{◌≡◌, ◌++◌, map, take}
use Rattle.ct_explain.specs.Picture.{row_line}
use Rattle.ct_explain.proofs.frame.push_rows.Given as goal

abbrev pub invariant-loop-worker : goal.invariant-loop-worker
invariant-loop-worker l = l.lines ≡ l.initial.lines ++ map (row_line l.workers) (take l.worker-index l.workers)
