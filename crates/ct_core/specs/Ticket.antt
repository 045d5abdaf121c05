-- What a ticket stands for. This project's own.
use Rattle.std.specs.Prelude.{ℕ, Bool, List, Option}
use Rattle.ct_alloc.specs.declared.placement.Placement.{Placement}
use Rattle.ct_verdict.specs.declared.attempt.Seen.{Seen}
use Rattle.ct_history.specs.declared.history.Entry.{Entry}
use Rattle.ct_history.specs.declared.history.Entry.TheVariants.{Start, End}
use Rattle.ct_history.specs.History.{Running, holds_start}
use Rattle.ct_core.specs.declared.ticket.Ticket.{Ticket}

-- the number of the test
abbrev pub test_of : Ticket → ℕ
test_of ticket = ticket.test

-- the number of the attempt, from 1
abbrev pub attempt_of : Ticket → ℕ
attempt_of ticket = ticket.attempt

-- the worker that began the attempt
abbrev pub worker_of : Ticket → ℕ
worker_of ticket = ticket.worker

-- the placement of the attempt, if it has one
abbrev pub placement_of : Ticket → Option Placement
placement_of ticket = ticket.placement

-- the attempt that the ticket stands for
abbrev pub run_of : Ticket → Running
run_of ticket = record {
  test = test_of ticket;
  attempt = attempt_of ticket;
  worker = worker_of ticket;
  placement = placement_of ticket;
}

-- the Start that gave out the ticket
abbrev pub start_of : Ticket → Entry
start_of ticket = Start ticket.test ticket.attempt ticket.worker ticket.placement

-- the End of the ticket's attempt
abbrev pub end_of : Ticket → Seen → Entry
end_of ticket seen = End ticket.test ticket.attempt ticket.worker seen

-- the ticket's start is open
abbrev pub holds_ticket : Ticket → List Entry → Bool
holds_ticket ticket entries = holds_start ticket.test ticket.attempt ticket.worker entries
