-- What holds of the state of a run between its calls. This project's own.
use Rattle.std.specs.Prelude.{◌≡◌, ℕ, true, length, Option, None, is_some, IfSome, IfErr}
use Rattle.ct_base.specs.Outside.{SinkTell}
use Rattle.ct_core.specs.CoreValue.{CoreValue}
use Rattle.ct_report.specs.declared.run_lines.TestLines.{TestLines}
use Rattle.ct_report.specs.PutLines.{PutsLines}
use Rattle.ct_report.specs.Report.{test_lines}
use Rattle.ct_report.specs.RunLines.{KnowsLines}
use Rattle.ct_worker.specs.declared.state.Halt.{Halt}
use Rattle.ct_worker.specs.Gates.{had_memory}
use Rattle.ct_worker.specs.Halted.{IsHalted}
use Rattle.ct_worker.specs.State.{put_of}

-- if anything is known for further lines, it is right for the plan and the history
abbrev pub KnowsSome : CoreValue → Option TestLines → Type 0
KnowsSome core lines = IfSome lines (λ known. KnowsLines core.plan core.entries known)

-- what holds while the run goes on: memory was there for
-- each attempt, and `count` is how many lines were put
pub record IsGoing (core : CoreValue) (count : ℕ) : Type 0 where
  pub memory : had_memory core.entries ≡ true
  pub counted : count ≡ length (test_lines core.plan core.entries)

-- what holds of each state. The core is aborted exactly if the run was given up. The sink took
-- the lines of the tests: all of them while the run goes on, else the lines in front of the halt.
pub record IsKeptState
    (core : CoreValue) (halt : Option Halt) (lines : Option TestLines) (count : ℕ) (opened sink : SinkTell)
    : Type 0 where
  pub aborted : core.aborted ≡ is_some halt
  pub put : PutsLines (test_lines core.plan core.entries) opened sink (put_of halt)
  pub knows : KnowsSome core lines
  pub goes_on : halt ≡ None → IsGoing core count
  pub stops : IfErr (put_of halt) (λ fault. IsHalted fault core.plan core.entries opened sink)
