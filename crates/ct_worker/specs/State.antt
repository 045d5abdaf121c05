-- The value of the state of a run, as its callers see it,
-- and what its calls do to it. This project's own.
use Rattle.std.specs.Prelude.{◌≡◌, ℕ, ◌+◌, Bool, true, false, List, ◌∷◌, ◌++◌, [], length, Option, Some, None, is_some, Result, Ok, Err}
use Rattle.std.specs.Option.{option_or}
use Rattle.ct_base.specs.declared.sink.SinkFault.{SinkFault}
use Rattle.ct_base.specs.declared.sink.SinkFault.TheVariants as Sinks
use Rattle.ct_base.specs.Outside.{SinkTell}
use Rattle.ct_verdict.specs.declared.attempt.Seen.{Seen}
use Rattle.ct_history.specs.declared.plan.PlanParts.{PlanParts}
use Rattle.ct_history.specs.declared.board.Base.{Base}
use Rattle.ct_history.specs.declared.history.Entry.{Entry}
use Rattle.ct_core.specs.declared.scheduler.Next.{Next}
use Rattle.ct_core.specs.declared.scheduler.Next.TheVariants.{Start, Settled, Wait, Done, Aborted, NoMemory}
use Rattle.ct_core.specs.declared.ticket.Ticket.{Ticket}
use Rattle.ct_core.specs.Core.{IsNext, with_due_stop}
use Rattle.ct_core.specs.CoreValue.{CoreValue}
use Rattle.ct_core.specs.Gate.{is_no_memory}
use Rattle.ct_core.specs.Ticket.{end_of, test_of}
use Rattle.ct_report.specs.PutLines.{PutsLines}
use Rattle.ct_report.specs.Report.{lines_of_test, test_lines}
use Rattle.ct_worker.specs.declared.state.Halt.{Halt}
use Rattle.ct_worker.specs.declared.state.Halt.TheVariants.{Output, Memory}

-- a plan, the history made so far, and why the run was given up, if it was.
-- Then what the sink told when the state was opened, and what it tells now.
pub record StateValue : Type 0 where
  pub plan : PlanParts
  pub entries : List Entry
  pub halt : Option Halt
  pub opened : SinkTell
  pub sink : SinkTell

-- the state of a run that has done nothing yet, with this sink
abbrev pub opened_with : CoreValue → SinkTell → StateValue
opened_with core sink = record {
  plan = core.plan;
  entries = core.entries;
  halt = None;
  opened = sink;
  sink = sink;
}

-- the core of a state, which is aborted exactly if the run was given up
abbrev pub core_of : StateValue → CoreValue
core_of s = record { plan = s.plan; entries = s.entries; aborted = is_some s.halt }

-- the bytes, the pieces and the faults that the sink told when the state was opened
abbrev pub base_of : StateValue → Base
base_of s = record { written = s.opened.written; pieces = s.opened.pieces; faults = s.opened.faults }

-- the run is given up for this cause, unless it was given up before
abbrev pub given_up : Halt → StateValue → StateValue
given_up halt s = record s { halt = option_or s.halt (Some halt) }

-- why the run is given up after the put of a line, if it is
abbrev pub halt_of : Result (Unit {0}) SinkFault → Option Halt
halt_of (Ok put) = None
halt_of (Err Sinks.Failed) = Some Output
halt_of (Err Sinks.NoMemory) = Some Memory

-- the result of all puts so far, by why the run was given up
abbrev pub put_of : Option Halt → Result (Unit {0}) SinkFault
put_of None = Ok tt
put_of (Some Output) = Err Sinks.Failed
put_of (Some Memory) = Err Sinks.NoMemory

-- with these entries the test may have become final. If so, its line
-- was put behind the others, and if that failed the run was given up.
pub record PutsLine (test : ℕ) (entries : List Entry) (old new : StateValue) : Type 0 where
  pub result : Result (Unit {0}) SinkFault
  pub put : PutsLines
      (lines_of_test old.plan entries (length (test_lines old.plan old.entries) + 1) (Some test))
      old.sink new.sink result
  pub is : new ≡ record old { entries = entries; sink = new.sink; halt = halt_of result }

-- how an answer of the core, which has these entries now, changes the state
abbrev pub StateFollows : Next → List Entry → StateValue → StateValue → Type 0
StateFollows (Start ticket) entries old new = new ≡ record old { entries = entries }
StateFollows (Settled test) entries old new = PutsLine test entries old new
StateFollows Wait entries old new = new ≡ old
StateFollows Done entries old new = new ≡ old
StateFollows Aborted entries old new = new ≡ old
StateFollows NoMemory entries old new = new ≡ given_up Memory old

-- what an answer of `next` says. It is the core's answer. The line of a
-- settled test was put, and if memory is wanting the run is given up.
pub record IsStateNext (old : StateValue) (worker : ℕ) (next : Next) (new : StateValue) : Type 0 where
  pub core : CoreValue
  pub step : IsNext (core_of old) worker next core
  pub follows : StateFollows next core.entries old new

-- how the end of an attempt of the test changes the state: by why the run was
-- given up before, if it was, and by whether memory was wanting for the attempt
abbrev pub EndsSo : Option Halt → Bool → ℕ → List Entry → StateValue → StateValue → Type 0
EndsSo (Some halt) lacks test entries old new = new ≡ record old { entries = entries }
EndsSo None true test entries old new = new ≡ record old { entries = entries; halt = Some Memory }
EndsSo None false test entries old new = PutsLine test entries old new

-- the attempt of a ticket ended, and this was seen of it
abbrev pub IsFinished : StateValue → Ticket → Seen → StateValue → Type 0
IsFinished old ticket seen new =
    EndsSo old.halt (is_no_memory seen.how) (test_of ticket)
    (with_due_stop old.plan (old.entries ++ end_of ticket seen ∷ [])) old new
