-- What each call of the core does to its history. This project's own.
use Rattle.std.specs.Prelude.{◌≡◌, ℕ, true, false, List, [], ◌∷◌, ◌++◌, None, if◌then◌else◌}
use Rattle.ct_verdict.specs.declared.verdict.Cause.{Cause}
use Rattle.ct_history.specs.declared.plan.PlanParts.{PlanParts}
use Rattle.ct_history.specs.declared.board.Base.{Base}
use Rattle.ct_history.specs.declared.history.Entry.{Entry}
use Rattle.ct_history.specs.declared.history.Entry.TheVariants.{Settle, Stop}
use Rattle.ct_history.specs.Plan.{test_at}
use Rattle.ct_history.specs.Verdicts.{are_all_final}
use Rattle.ct_history.specs.Rules.{is_idle}
use Rattle.ct_history.specs.Legal.{is_stop_due}
use Rattle.ct_core.specs.declared.ticket.Ticket.{Ticket}
use Rattle.ct_core.specs.declared.scheduler.Next.{Next}
use Rattle.ct_core.specs.declared.scheduler.Next.TheVariants.{Start, Settled, Wait, Done, Aborted, NoMemory}
use Rattle.ct_core.specs.Choice.{IsFirstToStart, IsLeastToSettle, IsStuck, NoneSettles, TakesMemory, attempt_after}
use Rattle.ct_core.specs.Ticket.{start_of, test_of, attempt_of, worker_of, placement_of}
use Rattle.ct_core.specs.CoreValue.{CoreValue}

-- the entries, with a Stop behind them if one is due
abbrev pub with_due_stop : PlanParts → List Entry → List Entry
with_due_stop plan entries = if is_stop_due plan entries then entries ++ Stop ∷ [] else entries

-- the core with one entry more
abbrev pub with_entry : CoreValue → Entry → CoreValue
with_entry core entry = record core { entries = core.entries ++ entry ∷ [] }

-- the core with one entry more, and with a Stop directly behind it if that entry makes one due
abbrev pub with_final : CoreValue → Entry → CoreValue
with_final core entry = record core { entries = with_due_stop core.plan (core.entries ++ entry ∷ []) }

-- the run was not given up, and no test may be settled. The first test of the queue
-- that may start has started: the ticket is for its next attempt, by this worker.
pub record StartsFirst (old : CoreValue) (worker : ℕ) (ticket : Ticket) (new : CoreValue) : Type 0 where
  pub goes_on : old.aborted ≡ false
  pub unsettled : NoneSettles old.plan old.entries
  pub first : IsFirstToStart old.plan old.entries (test_of ticket) (placement_of ticket)
  pub attempt : attempt_of ticket ≡ attempt_after old.entries (test_at old.plan.tests (test_of ticket))
  pub by : worker_of ticket ≡ worker
  pub appended : new ≡ with_entry old (start_of ticket)

-- the run was not given up, and of the tests that may be
-- settled the one with the lowest number was settled
pub record SettlesLeast (old : CoreValue) (test : ℕ) (new : CoreValue) : Type 0 where
  pub cause : Cause
  pub goes_on : old.aborted ≡ false
  pub least : IsLeastToSettle old.plan old.entries test cause
  pub appended : new ≡ with_final old (Settle test cause)

-- the run was not given up, nothing can be done before an
-- attempt ends, some attempt is open, and nothing changed
pub record Waits (old new : CoreValue) : Type 0 where
  pub goes_on : old.aborted ≡ false
  pub stuck : IsStuck old.plan old.entries
  pub busy : is_idle old.entries ≡ false
  pub kept : new ≡ old

-- the run was not given up, every test is final, and nothing changed
pub record IsDone (old new : CoreValue) : Type 0 where
  pub goes_on : old.aborted ≡ false
  pub final : are_all_final old.plan old.entries ≡ true
  pub kept : new ≡ old

-- the run was not given up, memory was wanting for what comes next, and nothing changed
pub record LacksMemory (old new : CoreValue) : Type 0 where
  pub goes_on : old.aborted ≡ false
  pub takes : TakesMemory old.plan old.entries
  pub kept : new ≡ old

-- what each answer of `next` says of the core in front of the call and behind it
abbrev pub IsNext : CoreValue → ℕ → Next → CoreValue → Type 0
IsNext old worker (Start ticket) new = StartsFirst old worker ticket new
IsNext old worker (Settled test) new = SettlesLeast old test new
IsNext old worker Wait new = Waits old new
IsNext old worker Done new = IsDone old new
IsNext old worker Aborted new = (old.aborted ≡ true) × (new ≡ old)
IsNext old worker NoMemory new = LacksMemory old new

-- a core has no sink: nothing was told as written, and no fault was counted
abbrev pub no_base : Base
no_base = record { written = None; pieces = None; faults = 0 }
