use Rattle.std.proofs.Common.{take}
use Rattle.std.specs.Prelude.{Ok}
use Rattle.ct_report.specs.PutLines.{PutsLines}
use Rattle.ct_explain.proofs.picture.put_lines.Given as goal

abbrev pub invariant-loop-line : goal.invariant-loop-line
invariant-loop-line g l = PutsLines (take l.line-index l.lines) (g.S.Sink.tells l.initial.sink) (g.S.Sink.tells l.sink) (Ok tt)
