-- What is said of lines that are put. This project's own.
use Rattle.std.specs.Prelude.{ℕ, List, Result}
use Rattle.ct_base.specs.declared.sink.SinkFault.{SinkFault}
use Rattle.ct_base.specs.Outside.{Puts, PutsEach, SinkTell}
use Rattle.ct_report.specs.Report.{text_of}

-- the lines were put, each in a put of its own, so that no other bytes stand inside a line. After Ok, the
-- bytes of all lines stand behind what was written before. After Err, a beginning of these bytes does, and
-- some first lines were put whole.
pub record PutsLines (lines : List (List ℕ)) (before now : SinkTell) (result : Result (Unit {0}) SinkFault)
    : Type 0 where
  pub bytes : Puts (text_of lines) before now result
  pub each : PutsEach lines before now result
