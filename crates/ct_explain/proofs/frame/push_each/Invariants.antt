use Rattle.std.proofs.Common.{◌≡◌, ◌++◌, map, take}
use Rattle.ct_explain.specs.Picture.{mark_line}
use Rattle.ct_explain.proofs.frame.push_each.Given as goal

abbrev pub invariant-loop-moment : goal.invariant-loop-moment
invariant-loop-moment l = l.lines ≡ l.initial.lines ++ map (mark_line l.length l.rows) (take l.moment-index l.marks)
