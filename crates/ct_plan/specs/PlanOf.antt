-- The plan of a run, or why there is none. Source: CMake manual, ctest(1), Run Tests; cmake-properties(7),
-- DEPENDS and FIXTURES_REQUIRED. That a cycle is refused, and the limit, are this project's choice.
use Rattle.std.specs.Prelude.{◌≡◌, ◌<◌, ◌≤◌, ℕ, ⊤, true, Result, Ok, Err}
use Rattle.std.specs.List.{list_all}
use Rattle.ct_graph.specs.Cycle.{is_cycle}
use Rattle.ct_history.specs.declared.plan.PlanParts.{PlanParts}
use Rattle.ct_history.specs.Plan.{has_sound_links}
use Rattle.ct_plan.specs.declared.fault.PlanFault.{PlanFault}
use Rattle.ct_plan.specs.declared.fault.PlanFault.TheVariants.{Cycle, TooManyEdges, NoMemory}
use Rattle.ct_plan.specs.Source.{Source, run_members, members_before, edge_count}
use Rattle.ct_plan.specs.Planned.{ArePlannedTests}
use Rattle.ct_plan.specs.Queue.{IsQueue, standing_of}

-- the plan of a run. It leaves only the ranks open, each of which is greater than those of the tests before.
pub record IsPlanOf (s : Source) (plan : PlanParts) : Type 0 where
  pub dir : plan.dir ≡ s.wanted.dir
  pub tests : ArePlannedTests s (run_members s) plan.tests
  pub ranks : list_all (has_sound_links plan.tests) plan.tests ≡ true
  pub queue : IsQueue s.wanted.level (standing_of s) plan.tests plan.queue
  pub resources : plan.resources ≡ s.resources
  pub level : plan.level ≡ s.wanted.level
  pub repeat : plan.repeat ≡ s.wanted.repeat
  pub stop : plan.stop_on_failure ≡ s.wanted.stop_on_failure

-- what is answered where at most `most` edges are allowed: the plan; a cycle; that there are more edges; or
-- want of memory, which may be answered at any time
abbrev pub IsPlanAnswer : ℕ → Source → Result PlanParts PlanFault → Type 0
IsPlanAnswer most s (Ok plan) = (edge_count s ≤ most) × IsPlanOf s plan
IsPlanAnswer most s (Err (Cycle tests)) = (edge_count s ≤ most) × (is_cycle (members_before s) tests ≡ true)
IsPlanAnswer most s (Err TooManyEdges) = most < edge_count s
IsPlanAnswer most s (Err NoMemory) = ⊤
