-- The plan of the run that words ask for, or why there is none. This project's own.
use Rattle.std.specs.Prelude.{ℕ, ◌≤◌, List, Option, None, Ok, Err}
use Rattle.ct_base.specs.Outside.{FilesTell, SinkTell}
use Rattle.ct_base.specs.declared.defs.Pair.{Pair}
use Rattle.ct_base.specs.declared.defs.Resource.{Resource}
use Rattle.ct_core.specs.Gate.{GateTell}
use Rattle.ct_cost.specs.declared.cost_data.CostData.{CostData}
use Rattle.ct_history.specs.declared.plan.PlanParts.{PlanParts}
use Rattle.ct_history.specs.Plan.{IsSound}
use Rattle.ct_graph.specs.Order.{most_edges}
use Rattle.ct_args.specs.declared.invocation.Invocation.{Invocation}
use Rattle.ct_plan.specs.PlanOf.{IsPlanAnswer, IsPlanOf}
use Rattle.ct_plan.specs.Source.{Source, edge_count, source}
use Rattle.ct_app.specs.declared.outcome.Outcome.{Outcome}
use Rattle.ct_app.specs.declared.props.Tests.{Tests}
use Rattle.ct_app.specs.Calls.{list_sides, sides}
use Rattle.ct_app.specs.Ends.{EndsUnrun, IsReadFolder}
use Rattle.ct_app.specs.Reading.{AskFor, IsSource}
use Rattle.ct_app.specs.Rerun.{wanted_of}
use Rattle.ct_app.specs.RunFiles.{FilesStay}

-- the folder was read for an invocation, and this is a plan of its tests
pub record IsPlannedFolder
    (invocation : Invocation) (before now : FilesTell) (tests : Tests) (costs : CostData) (plan : PlanParts)
    : Type 0 where
  pub resources : Option (List Resource)
  pub only : Option (List (List ℕ))
  pub read : IsReadFolder invocation before now tests resources costs only
  pub answer :
      IsPlanAnswer most_edges (source tests.defs tests.props (wanted_of invocation only) resources costs)
      (Ok plan)

-- the folder has no plan for an invocation, and this outcome says why; the tests of a cycle have these names
abbrev pub IsUnplannedFolder : Invocation → FilesTell → FilesTell → List (List ℕ) → Outcome → Type 0
IsUnplannedFolder invocation before now names outcome =
    (words : List (List ℕ)) (env : List Pair) (gates : List GateTell) (sink : SinkTell)
    → AskFor words invocation
    → EndsUnrun (sides words env before now gates gates sink sink None None) names (Err outcome)

-- the words ask for a run of this plan:
-- - the source that they ask for was read, and the files stay;
-- - the source has at most `most_edges` edges, and this is its plan, which is sound
pub record HasPlan (words : List (List ℕ)) (before now : FilesTell) (plan : PlanParts) : Type 0 where
  pub invocation : Invocation
  pub words_are : AskFor words invocation
  pub source : Source
  pub read : IsSource before.held invocation source
  pub few : edge_count source ≤ most_edges
  pub planned : IsPlanOf source plan
  pub sound : IsSound plan
  pub files : FilesStay before now

-- the words have no plan, and this outcome says why, as for a run; the tests of a cycle have these names
abbrev pub HasNoPlan : List (List ℕ) → FilesTell → FilesTell → List (List ℕ) → Outcome → Type 0
HasNoPlan words before now names outcome =
    (sink : SinkTell) → EndsUnrun (list_sides words before now sink sink) names (Err outcome)

-- the words have no plan, and this outcome says why, as for a run; the tests of a cycle have some names
abbrev pub HasSomeReason : List (List ℕ) → FilesTell → FilesTell → Outcome → Type 0
HasSomeReason words before now outcome = (names : List (List ℕ)) × HasNoPlan words before now names outcome
