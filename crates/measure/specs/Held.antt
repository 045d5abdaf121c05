-- Which tickets a run without programs holds. This project's own.
use Rattle.std.specs.Prelude.{◌≡◌, ℕ, ◌==◌, Bool, false, List, [], ◌∷◌, map, ⊤}
use Rattle.std.specs.List.{list_any}
use Rattle.ct_history.specs.declared.history.Entry.{Entry}
use Rattle.ct_history.specs.History.{Running, open_starts}
use Rattle.ct_core.specs.declared.ticket.Ticket.{Ticket}
use Rattle.ct_core.specs.Ticket.{attempt_of, placement_of, test_of, worker_of}
use Rattle.measure.specs.declared.drive.run.Run.{Run}

-- the start that a ticket is for
abbrev pub start_of_ticket : Ticket → Running
start_of_ticket ticket = record {
  test = test_of ticket;
  attempt = attempt_of ticket;
  worker = worker_of ticket;
  placement = placement_of ticket;
}

-- the worker holds one of the tickets
abbrev pub is_held_by : ℕ → List Ticket → Bool
is_held_by worker tickets = list_any (λ (t : Ticket). worker_of t == worker) tickets

-- no two of these starts are of one test
abbrev pub HaveDistinctTests : List Running → Type 0
HaveDistinctTests [] = ⊤
HaveDistinctTests (r ∷ rs) = (list_any (λ (q : Running). q.test == r.test) rs ≡ false) × HaveDistinctTests rs

-- the tickets are those of the open starts, in order
pub record AreTicketsOf (entries : List Entry) (tickets : List Ticket) : Type 0 where
  pub starts : open_starts entries ≡ map start_of_ticket tickets
  pub apart : HaveDistinctTests (map start_of_ticket tickets)

-- the run holds the tickets of the open starts
abbrev pub HoldsOpen : Run → Type 0
HoldsOpen run = AreTicketsOf run.core.entries run.tickets.items
