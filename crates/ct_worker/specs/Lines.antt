-- How far the lines of a run have come. This project's own.
use Rattle.std.specs.Prelude.{◌≡◌, ℕ, ◌+◌, Bool, true, false, length, Some, Result, Ok, Err, OnOk}
use Rattle.ct_base.specs.declared.sink.SinkFault.{SinkFault}
use Rattle.ct_base.specs.declared.sink.SinkFault.TheVariants as Sinks
use Rattle.ct_base.specs.Outside.{SinkTell}
use Rattle.ct_core.specs.declared.scheduler.Next.{Next}
use Rattle.ct_core.specs.declared.scheduler.Next.TheVariants.{Start, Settled, Wait, Done, Aborted, NoMemory}
use Rattle.ct_core.specs.CoreValue.{CoreValue}
use Rattle.ct_report.specs.PutLines.{PutsLines}
use Rattle.ct_report.specs.Report.{lines_of_test}
use Rattle.ct_worker.specs.declared.lines.Lines.{Lines}
use Rattle.ct_worker.specs.Kept.{KnowsSome}

-- the line of a test was put as the next one, if the test is final,
-- or the put failed. The sink fails only if there is a line.
pub record PutsNext {S : Type 0} (tells : S → SinkTell) (test : ℕ) (core : CoreValue) (old new : Lines S)
    (result : Result (Unit {0}) SinkFault) : Type 0 where
  pub puts : PutsLines (lines_of_test core.plan core.entries (old.count + 1) (Some test)) (tells old.sink)
      (tells new.sink) result
  pub count : OnOk result
      (new.count ≡ old.count + length (lines_of_test core.plan core.entries (old.count + 1) (Some test)))
  pub knows : KnowsSome core new.known
  pub tried : result ≡ Err Sinks.Failed
      → length (lines_of_test core.plan core.entries (old.count + 1) (Some test)) ≡ 1

-- the line that an answer of the core brings, and the result of its put
abbrev pub PutsFor : {S : Type 0}
    → (S → SinkTell) → Next → CoreValue → Lines S → Lines S → Result (Unit {0}) SinkFault → Type 0
PutsFor tells (Start ticket) core old new result = (new ≡ old) × (result ≡ Ok tt)
PutsFor tells (Settled test) core old new result = PutsNext tells test core old new result
PutsFor tells Wait core old new result = (new ≡ old) × (result ≡ Ok tt)
PutsFor tells Done core old new result = (new ≡ old) × (result ≡ Ok tt)
PutsFor tells Aborted core old new result = (new ≡ old) × (result ≡ Ok tt)
PutsFor tells NoMemory core old new result = (new ≡ old) × (result ≡ Err Sinks.NoMemory)

-- the line that the end of an attempt of the test brings, and the
-- result of its put, by whether memory was wanting for the attempt
abbrev pub PutsEnd : {S : Type 0}
    → (S → SinkTell) → Bool → ℕ → CoreValue → Lines S → Lines S → Result (Unit {0}) SinkFault → Type 0
PutsEnd tells true test core old new result = (new ≡ old) × (result ≡ Err Sinks.NoMemory)
PutsEnd tells false test core old new result = PutsNext tells test core old new result
