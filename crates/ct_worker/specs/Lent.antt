-- The passes that the workers of a run lent their gates, one for each program, and
-- what held while each was lent. This project's own.
use Rattle.std.specs.Prelude.{◌≡◌, ℕ, ◌+◌, ⊤, true, List, [], ◌∷◌, ◌++◌, map, Contains, Some, None, IsSomeAnd}
use Rattle.atomic_table.specs.Seated.{TableId}
use Rattle.ct_base.specs.Outside.{Adds, Becomes}
use Rattle.ct_history.specs.declared.plan.PlanParts.{PlanParts}
use Rattle.ct_history.specs.declared.history.Entry.{Entry}
use Rattle.ct_history.specs.History.{Running, open_starts}
use Rattle.ct_history.specs.Plan.{test_at}
use Rattle.ct_history.specs.Rules.{first_unpassed, follows_finals}
use Rattle.ct_history.specs.Legal.{IsWithin}
use Rattle.ct_core.specs.Gate.{GateTell}
use Rattle.ct_turn.specs.Pass.{PassValue}
use Rattle.ct_turn.specs.Seen.{held_start}
use Rattle.ct_worker.specs.Gates.{asked_run}
use Rattle.ct_worker.specs.Listener.{AreEach}

-- a pass was lent for an attempt: it is this worker's pass of this turn, in a run of this plan. In what it
-- had seen of the history the start of the attempt is the worker's open one, and the history goes on from there.
pub record IsLent
    (turn : TableId) (plan : PlanParts) (worker : ℕ) (history : List Entry) (run : Running) (pass : PassValue)
    : Type 0 where
  pub belongs : pass.turn ≡ turn
  pub planned : pass.known.plan ≡ plan
  pub by : pass.known.worker ≡ worker
  pub holds : held_start pass.known ≡ Some run
  pub behind : List Entry
  pub goes_on : history ≡ pass.known.seen.entries ++ behind

-- passes were appended to those that were lent before, one for each of these attempts, in order
pub record Lends
    (turn : TableId) (plan : PlanParts) (worker : ℕ) (history : List Entry) (runs : List Running)
    (before now : List PassValue) : Type 0 where
  pub passes : List PassValue
  pub are : AreEach (IsLent turn plan worker history) runs passes
  pub added : now ≡ before ++ passes

-- a gate was lent a pass of its worker for each attempt that it recorded
pub record IsLentEach
    (turn : TableId) (plan : PlanParts) (worker : ℕ) (before now : GateTell) (history : List Entry)
    : Type 0 where
  pub runs : List Running
  pub asked : Becomes before.asked now.asked (Adds (map asked_run runs))
  pub lent : Becomes before.lent now.lent (Lends turn plan worker history runs)

-- each of these gates was lent a pass of its worker for each attempt that it
-- recorded: the first gate by this worker, each later gate by the next worker
abbrev pub AreLentEach : TableId → PlanParts → ℕ → List GateTell → List GateTell → List Entry → Type 0
AreLentEach turn plan worker [] [] history = ⊤
AreLentEach turn plan worker [] (now ∷ nows) history = ⊥
AreLentEach turn plan worker (before ∷ befores) [] history = ⊥
AreLentEach turn plan worker (before ∷ befores) (now ∷ nows) history =
    IsLentEach turn plan worker before now history × AreLentEach turn plan (worker + 1) befores nows history

-- for each attempt that a gate recorded its worker lent it a pass, all passes of one turn
pub record AreLent (plan : PlanParts) (befores nows : List GateTell) (history : List Entry) : Type 0 where
  pub turn : TableId
  pub each : AreLentEach turn plan 0 befores nows history

-- at the start of an attempt the history so far allows it: the start is open, the open starts are together
-- within the plan, each test that the attempt's test waits for is final, and each of its setups has passed
pub record RunsWithin (plan : PlanParts) (run : Running) (entries : List Entry) : Type 0 where
  pub started : Contains (open_starts entries) run
  pub within : IsWithin plan entries
  pub ready : IsSomeAnd (test_at plan.tests run.test)
      (λ t. (follows_finals plan t entries ≡ true) × (first_unpassed plan t entries ≡ None))

-- passes were appended to those that were lent before, one for each of these attempts, in
-- order, and what each had seen allows its attempt
pub record LendsWithin (plan : PlanParts) (runs : List Running) (before now : List PassValue) : Type 0 where
  pub passes : List PassValue
  pub are : AreEach (λ run (pass : PassValue). RunsWithin plan run pass.known.seen.entries) runs passes
  pub added : now ≡ before ++ passes

-- for each attempt that a gate recorded, what the pass that was lent for it had seen allows it
pub record RunsEachWithin (plan : PlanParts) (before now : GateTell) : Type 0 where
  pub runs : List Running
  pub asked : Becomes before.asked now.asked (Adds (map asked_run runs))
  pub within : Becomes before.lent now.lent (LendsWithin plan runs)

-- the same for each of these gates
abbrev pub AllRunWithin : PlanParts → List GateTell → List GateTell → Type 0
AllRunWithin plan befores nows = AreEach (RunsEachWithin plan) befores nows
