-- What holds of a run between its steps. This project's own.
use Rattle.std.specs.Prelude.{ℕ, ⊤, Bool, true, false, List, vec_capacity}
use Rattle.ct_verdict.specs.declared.verdict.Verdict.{Verdict}
use Rattle.ct_history.specs.declared.history.Entry.{Entry}
use Rattle.ct_core.specs.declared.choice.Choice.TheVariants.{Wait}
use Rattle.ct_core.specs.declared.run.Run.{Run}
use Rattle.ct_core.specs.Choice.{IsChoice}
use Rattle.ct_core.specs.Order.{FollowsQueue}
use Rattle.ct_core.specs.Parts.{IsConcluding, IsKept}

-- the entries of the run's history
abbrev pub history_of_run : Run → List Entry
history_of_run run = run.history.entries.items

-- the run's history is legal, and its parts agree with the history
abbrev pub IsKeptRun : Run → Type 0
IsKeptRun run = IsKept run.plan (history_of_run run) (vec_capacity run.history.entries) run.parts

-- the run is kept, and its history follows the queue
pub record IsOrderlyRun (run : Run) : Type 0 where
  pub kept : IsKeptRun run
  pub order : FollowsQueue run.plan (history_of_run run)

-- if the core remembers that it answered `Wait`, then `Wait` is still the right choice
abbrev pub WaitsStill : Bool → Run → Type 0
WaitsStill true run = IsChoice run.plan (history_of_run run) Wait
WaitsStill false run = ⊤

-- what holds of each core: its run is orderly, and a remembered `Wait` is still the right choice
pub record IsKeptCore (run : Run) (waits : Bool) : Type 0 where
  pub orderly : IsOrderlyRun run
  pub still : WaitsStill waits run

-- the run's last entry made the test final with this verdict,
-- and only what follows from that is not updated yet
abbrev pub IsConcludingRun : ℕ → Verdict → Run → Type 0
IsConcludingRun number verdict run =
    IsConcluding run.plan (history_of_run run) (vec_capacity run.history.entries) number verdict run.parts
