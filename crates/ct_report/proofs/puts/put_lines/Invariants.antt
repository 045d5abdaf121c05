use Rattle.std.proofs.Common.{◌≡◌, take}
use Rattle.ct_base.specs.Outside.{Adds, Becomes}
use Rattle.ct_report.specs.Report.{text_of}
use Rattle.ct_report.proofs.puts.put_lines.Given as goal

abbrev pub invariant-loop-line : goal.invariant-loop-line
invariant-loop-line g l =
    (Becomes (g.S.Sink.tells l.initial.sink).written (g.S.Sink.tells l.sink).written (Adds (text_of (take l.line-index l.lines)))) × (Becomes (g.S.Sink.tells l.initial.sink).pieces (g.S.Sink.tells l.sink).pieces (Adds (take l.line-index l.lines))) × ((g.S.Sink.tells l.sink).faults ≡ (g.S.Sink.tells l.initial.sink).faults)
