-- What a worker did between its first look at the run and its last. This project's own.
use Rattle.std.specs.Prelude.{◌≡◌, ℕ, ◌≤◌, true, false, List, [], ◌∷◌, ◌++◌, length, Some, None, IsSome, is_some}
use Rattle.ct_verdict.specs.declared.attempt.Seen.{Seen}
use Rattle.ct_history.specs.declared.plan.PlanParts.{PlanParts}
use Rattle.ct_history.specs.declared.plan.PlanTest.{PlanTest}
use Rattle.ct_history.specs.declared.history.Entry.{Entry}
use Rattle.ct_history.specs.Plan.{test_at}
use Rattle.ct_history.specs.Verdicts.{are_all_final}
use Rattle.ct_core.specs.declared.scheduler.Next.{Next}
use Rattle.ct_core.specs.declared.scheduler.Next.TheVariants.{Start, Settled, Wait, Done, Aborted, NoMemory}
use Rattle.ct_core.specs.declared.ticket.Ticket.{Ticket}
use Rattle.ct_core.specs.Core.{with_due_stop}
use Rattle.ct_core.specs.Gate.{GateTell}
use Rattle.ct_core.specs.Ticket.{end_of, run_of, start_of, test_of, worker_of}
use Rattle.ct_turn.specs.Pass.{PassValue}
use Rattle.ct_turn.specs.Seen.{HistoryGoesOn, has_seen, held_start}
use Rattle.ct_worker.specs.declared.jobs.Jobs.{Jobs}
use Rattle.ct_worker.specs.Gates.{IsAsked, Terms, terms_of}
use Rattle.ct_worker.specs.Lent.{IsLentEach}

-- the tests and the properties have the same places, and there is one of each for each test of the plan
pub record Reach (jobs : Jobs) (plan : PlanParts) : Type 0 where
  pub paired : length jobs.props.now ≡ length jobs.defs.now
  pub low : (number : ℕ) (t : PlanTest) → test_at plan.tests number ≡ Some t → 1 ≤ number
  pub within :
      (number : ℕ) (t : PlanTest) → test_at plan.tests number ≡ Some t → number ≤ length jobs.defs.now

-- the terms of the run of a plan: resources are lent if the plan has some
abbrev pub terms_in : Jobs → PlanParts → Terms
terms_in jobs plan = terms_of jobs (is_some plan.resources)

-- the history went on, and the worker's gate was asked for the attempts that the worker started meanwhile
pub record AsksSince (terms : Terms) (worker : ℕ) (gate_before gate_now : GateTell) (before now : List Entry)
    : Type 0 where
  pub more : List Entry
  pub is : now ≡ before ++ more
  pub asked : IsAsked terms worker gate_before gate_now more

-- the pass has only seen more, and holds no start; its worker's gate was asked for
-- what the worker started, and was lent the worker's pass for each attempt
pub record GoesAlong (terms : Terms) (old new : PassValue) (gate_before gate_now : GateTell) : Type 0 where
  pub pass : new ≡ record old { known = has_seen old.known new.known.seen }
  pub idle : held_start new.known ≡ None
  pub asked :
      AsksSince terms old.known.worker gate_before gate_now old.known.seen.entries new.known.seen.entries
  pub lent :
      IsLentEach old.turn old.known.plan old.known.worker gate_before gate_now new.known.seen.entries

-- nothing is left to do: each test is final in what the pass has seen, or the run was given up there
abbrev pub IsEnded : PassValue → Type 0
IsEnded pass = pass.known.seen.halted ≡ false → are_all_final pass.known.plan pass.known.seen.entries ≡ true

-- only other workers went on, and the worker holds no start
abbrev pub Stays : PassValue → PassValue → Type 0
Stays old new =
    HistoryGoesOn old.known.worker old.known.seen.entries new.known.seen.entries
    × (held_start new.known ≡ None)

-- other workers went on, then the worker started the attempt of a ticket, and it holds this start
pub record Starts (ticket : Ticket) (old new : PassValue) : Type 0 where
  pub others : List Entry
  pub went_on : HistoryGoesOn old.known.worker old.known.seen.entries others
  pub started : new.known.seen.entries ≡ others ++ start_of ticket ∷ []
  pub by : worker_of ticket ≡ old.known.worker
  pub holds : held_start new.known ≡ Some (run_of ticket)
  pub planned : IsSome (test_at old.known.plan.tests (test_of ticket))

-- what the worker has seen after each answer of the core
abbrev pub SeesNext : Next → PassValue → PassValue → Type 0
SeesNext (Start ticket) old new = Starts ticket old new
SeesNext (Settled test) old new = Stays old new
SeesNext Wait old new = Stays old new
SeesNext Done old new = Stays old new × (are_all_final old.known.plan new.known.seen.entries ≡ true)
SeesNext Aborted old new = Stays old new × (new.known.seen.halted ≡ true)
SeesNext NoMemory old new = Stays old new

-- a worker asked what it has to do next, and has seen what became of the run
pub record AsksNext (old : PassValue) (next : Next) (new : PassValue) : Type 0 where
  pub pass : new ≡ record old { known = has_seen old.known new.known.seen }
  pub follows : SeesNext next old new

-- other workers went on, then the worker ended the attempt of its ticket, and it holds no start any more
pub record EndsOwn (old : PassValue) (ticket : Ticket) (seen : Seen) (new : PassValue) : Type 0 where
  pub pass : new ≡ record old { known = has_seen old.known new.known.seen }
  pub others : List Entry
  pub went_on : HistoryGoesOn old.known.worker old.known.seen.entries others
  pub ended : new.known.seen.entries ≡ with_due_stop old.known.plan (others ++ end_of ticket seen ∷ [])
  pub idle : held_start new.known ≡ None

-- a worker ended the attempt of its ticket, and in the same turn
-- asked what it has to do next; in between it saw its own End
pub record EndsAndAsks (old : PassValue) (ticket : Ticket) (seen : Seen) (next : Next) (new : PassValue)
    : Type 0 where
  pub middle : PassValue
  pub ended : EndsOwn old ticket seen middle
  pub asked : AsksNext middle next new

-- the worker's gate was asked for all that the worker
-- started before its last question, and `next` is the answer
pub record IsUnderWay (terms : Terms) (old now : PassValue) (gate_before gate_now : GateTell) (next : Next)
    : Type 0 where
  pub before : PassValue
  pub along : GoesAlong terms old before gate_before gate_now
  pub asked : AsksNext before next now
