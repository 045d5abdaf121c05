use Rattle.std.proofs.Common.{map, take}
use Rattle.std.specs.Prelude.{Ok}
use Rattle.ct_report.specs.PutLines.{PutsLines}
use Rattle.ct_explain.specs.Picture.{bar_line}
use Rattle.ct_explain.proofs.picture.put_each.Given as goal

abbrev pub invariant-loop-at : goal.invariant-loop-at
invariant-loop-at g l = PutsLines (map (bar_line l.plan l.story l.workers) (take l.at l.bars)) (g.S.Sink.tells l.initial.sink) (g.S.Sink.tells l.sink) (Ok tt)
