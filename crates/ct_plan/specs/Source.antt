-- What a plan is made of: the tests of a folder with their properties, what is wanted of the run, the
-- resources that are lent, and what earlier runs cost. Source: CMake manual, ctest(1), Run Tests;
-- cmake-properties(7), Properties on Tests.
use Rattle.std.specs.Prelude.{ℕ, ⊤, List, [], ◌∷◌, Option}
use Rattle.ct_base.specs.declared.defs.Resource.{Resource}
use Rattle.ct_base.specs.declared.defs.TestDef.{TestDef}
use Rattle.ct_props.specs.declared.props.Props.{Props}
use Rattle.ct_props.specs.declared.wanted.Choice.{Choice}
use Rattle.ct_props.specs.declared.wanted.Wanted.{Wanted}
use Rattle.ct_props.specs.PropsOf.{HasProps}
use Rattle.ct_select.specs.Chosen.{chosen_tests}
use Rattle.ct_fixture.specs.Drawing.{members_of}
use Rattle.ct_graph.specs.Before.{before_of, setups_of}
use Rattle.ct_graph.specs.Order.{edges_of}
use Rattle.ct_cost.specs.declared.cost_data.CostData.{CostData}

-- what a plan is made of
pub record Source : Type 0 where
  pub defs : List TestDef
  pub props : List Props
  pub wanted : Wanted
  pub resources : Option (List Resource)
  pub costs : CostData

-- these are the properties of these tests, one for each, in order
abbrev pub HaveProps : List TestDef → List Props → Type 0
HaveProps [] [] = ⊤
HaveProps [] (own ∷ owns) = ⊥
HaveProps (def ∷ defs) [] = ⊥
HaveProps (def ∷ defs) (own ∷ owns) = HasProps def own × HaveProps defs owns

-- the numbers of the members among tests, which ascend: the chosen tests, and those that fixtures draw in
abbrev pub members_in : Choice → List TestDef → List Props → List ℕ
members_in choice defs props = members_of choice props (chosen_tests defs props choice)

-- the numbers of the tests of the run
abbrev pub run_members : Source → List ℕ
run_members s = members_in s.wanted.choice s.defs s.props

-- the members that come before a test, in order
abbrev pub members_before : Source → ℕ → List ℕ
members_before s number = before_of s.defs s.props (run_members s) number

-- the members that set up what a test requires, in order
abbrev pub setup_members : Source → ℕ → List ℕ
setup_members s number = setups_of s.props (run_members s) number

-- how many tests come before the members, counted for each member
abbrev pub edge_count : Source → ℕ
edge_count s = edges_of s.defs s.props (run_members s)

-- the source of a plan: tests, their properties, what is wanted, the resources of a specification, if one is
-- given, and the cost data
abbrev pub source : List TestDef → List Props → Wanted → Option (List Resource) → CostData → Source
source defs props wanted resources costs = record {
  defs = defs;
  props = props;
  wanted = wanted;
  resources = resources;
  costs = costs;
}
