-- What a worker holds after an answer of the core. This project's own.
use Rattle.std.specs.Prelude.{◌≡◌, ℕ, length, Option, Some, None}
use Rattle.ct_history.specs.History.{Running}
use Rattle.ct_core.specs.declared.ticket.Ticket.{Ticket}
use Rattle.ct_core.specs.declared.scheduler.Next.{Next}
use Rattle.ct_core.specs.declared.scheduler.Next.TheVariants.{Start, Settled, Wait, Done, Aborted, NoMemory}
use Rattle.ct_turn.specs.Pass.{PassValue, idle_pass}
use Rattle.ct_turn.specs.Seen.{has_seen, held_start}
use Rattle.ct_turn.specs.Turn.{TurnValue}
use Rattle.ct_core.specs.Ticket.{attempt_of, placement_of, test_of, worker_of}

-- the open start of a ticket
abbrev pub open_start_of_ticket : Ticket → Running
open_start_of_ticket ticket = record {
  test = test_of ticket;
  attempt = attempt_of ticket;
  worker = worker_of ticket;
  placement = placement_of ticket;
}

-- the start that a worker holds after an answer of the core
abbrev pub held_behind : Next → Option Running
held_behind (Start ticket) = Some (open_start_of_ticket ticket)
held_behind (Settled test) = None
held_behind Wait = None
held_behind Done = None
held_behind Aborted = None
held_behind NoMemory = None

-- the pass of a worker after its work: it has seen more, and holds no start
pub record HasWorked (old new : PassValue) : Type 0 where
  pub pass : new ≡ idle_pass old.turn (has_seen old.known new.known.seen)
  pub held : held_start new.known ≡ None

-- the pass of this worker at a turn, which does not have the turn and holds no start
pub record IsOfWorker (turn : TurnValue) (worker : ℕ) (pass : PassValue) : Type 0 where
  pub belongs : pass.turn ≡ turn.id
  pub worker_of : pass.known.worker ≡ worker
  pub idle : pass.taken ≡ None
  pub free : held_start pass.known ≡ None

-- the pass of worker 0, which knows that so many passes were made and so many joined into it
pub record IsKeeper (turn : TurnValue) (passes joins : ℕ) (pass : PassValue) : Type 0 where
  pub first : IsOfWorker turn 0 pass
  pub made : pass.known.made ≡ passes
  pub joined : length pass.known.notes ≡ joins
