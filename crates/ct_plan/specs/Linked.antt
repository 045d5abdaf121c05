-- The tests of a plan, each made of its links, and how they stand in the queue. This project's own.
use Rattle.std.specs.Prelude.{◌≡◌, ℕ, ⊤, min, List, [], ◌∷◌, Option, Some}
use Rattle.ct_base.specs.declared.defs.Resource.{Resource}
use Rattle.ct_base.specs.declared.defs.TestDef.{TestDef}
use Rattle.ct_props.specs.declared.props.Props.{Props}
use Rattle.ct_props.specs.Numbered.{at_number}
use Rattle.ct_graph.specs.declared.ordering.Links.{Links}
use Rattle.ct_graph.specs.declared.fault.GraphFault.{GraphFault}
use Rattle.ct_graph.specs.declared.fault.GraphFault.TheVariants as Graph
use Rattle.ct_alloc.specs.Free.{FreeValue, used_at}
use Rattle.ct_verdict.specs.declared.verdict.Cause.{Cause}
use Rattle.ct_history.specs.declared.plan.PlanTest.{PlanTest}
use Rattle.ct_cost.specs.declared.cost_data.CostData.{CostData}
use Rattle.ct_plan.specs.declared.fault.PlanFault.{PlanFault}
use Rattle.ct_plan.specs.declared.fault.PlanFault.TheVariants.{Cycle, TooManyEdges, NoMemory}
use Rattle.ct_plan.specs.declared.standing.Standing.{Standing}
use Rattle.ct_plan.specs.Planned.{IsFixed, rules_of, shared_by}
use Rattle.ct_plan.specs.Queue.{standing_there}
use Rattle.ct_groups.specs.GroupsIn.{needs_of_groups}

-- nothing is used of any resource
abbrev pub IsUnused : FreeValue → Type 0
IsUnused free = (place : ℕ) → used_at free place ≡ 0

-- the test with these links, which takes at most `level` processors, and with
-- the cause that keeps it from running
abbrev pub test_from : ℕ → Links → TestDef → Props → Option Cause → PlanTest
test_from level link def props fixed = record {
  number = link.number;
  name = def.name;
  disabled = props.disabled;
  processors = min props.processors level;
  locks = props.locks;
  shared = shared_by props;
  serial = props.serial;
  rules = rules_of props;
  needs = needs_of_groups props.groups;
  before = link.before;
  setups = link.setups;
  rank = link.rank;
  fixed = fixed;
  labels = props.labels;
}

-- the test is made of these links and of its definition and properties, with the cause that keeps it from
-- running where these resources are lent
pub record IsLinked
    (resources : Option (List Resource)) (level : ℕ) (defs : List TestDef) (props : List Props)
    (links : Links) (test : PlanTest) : Type 0 where
  pub def : TestDef
  pub own : Props
  pub def_is : at_number defs links.number ≡ Some def
  pub own_is : at_number props links.number ≡ Some own
  pub fixed : IsFixed resources def own test.fixed
  pub is : test ≡ test_from level links def own test.fixed

-- these tests are made of these links, one for each, in order
abbrev pub AreLinked : Option (List Resource)
    → ℕ → List TestDef → List Props → List Links → List PlanTest → Type 0
AreLinked resources level defs props [] [] = ⊤
AreLinked resources level defs props [] (test ∷ tests) = ⊥
AreLinked resources level defs props (link ∷ links) [] = ⊥
AreLinked resources level defs props (link ∷ links) (test ∷ tests) =
    IsLinked resources level defs props link test × AreLinked resources level defs props links tests

-- the standing of the test with this number, if it is there
abbrev pub standing_in : List TestDef → List Props → CostData → ℕ → Option Standing
standing_in defs props costs number =
    standing_there costs number (at_number defs number) (at_number props number)

-- the fault of planning for a fault of ordering
abbrev pub plan_fault : GraphFault → PlanFault
plan_fault (Graph.Cycle tests) = Cycle tests
plan_fault Graph.TooManyEdges = TooManyEdges
plan_fault Graph.NoMemory = NoMemory
