-- A completed run has the verdicts, status and texts that it is meant to have. This project's own,
-- after CMake manual, ctest(1).
use Rattle.std.specs.Prelude.{◌≡◌, ℕ, List, IsSomeAnd}
use Rattle.ct_history.specs.declared.plan.PlanParts.{PlanParts}
use Rattle.ct_history.specs.declared.history.Entry.{Entry}
use Rattle.ct_core.specs.declared.gate.Told.{Told}
use Rattle.ct_args.specs.declared.invocation.Invocation.{Invocation}
use Rattle.ct_plan.specs.Source.{Source}
use Rattle.ct_app.specs.declared.outcome.Outcome.{Outcome}
use Rattle.ct_app.specs.declared.outcome.Outcome.TheVariants.{Completed}
use Rattle.ct_app.specs.Calls.{Sides}
use Rattle.ct_app.specs.MeantTold.{AllTell, ComesAsMeant, seen_in_world}
use Rattle.ct_app.specs.Runs.{IsCompleted, IsRun}

-- the tests that the words ask for were read and ran to the end. Where all gates tell one world,
-- the run has the verdicts, status and texts that are meant in this world.
pub record RanAsMeant (s : Sides) (status : ℕ) (plan : PlanParts) (entries : List Entry) : Type 0 where
  pub invocation : Invocation
  pub source : Source
  pub run : IsRun s invocation source plan entries
  pub completed : IsCompleted s status invocation plan entries
  pub meant : (world : List Told) → AllTell world s.gates.before
      → ComesAsMeant invocation.empty_is_error plan (seen_in_world source.props world) entries status

-- plan and history are there, of a run with the verdicts, status and texts that are meant
abbrev pub HasRunAsMeant : Sides → ℕ → Type 0
HasRunAsMeant s status =
    IsSomeAnd s.plan (λ plan. IsSomeAnd s.history (λ entries. RanAsMeant s status plan entries))

-- a call that returns Completed had a run with the verdicts, status and texts that are meant
abbrev pub AnswersAsMeant : Sides → Outcome → ℕ → Type 0
AnswersAsMeant s outcome status = outcome ≡ Completed → HasRunAsMeant s status
