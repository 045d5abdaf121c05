-- A run over several trees that can be made is completed, unless the files or the sink fail or memory runs
-- out. This project's own.
use Rattle.std.specs.Prelude.{◌≡◌, ◌⊎◌, ⊤, ℕ, ◌+◌, ◌≤◌, false, List, [], ◌∷◌, length, Option, Some}
use Rattle.ct_base.specs.declared.defs.Resource.{Resource}
use Rattle.ct_base.specs.declared.defs.TestDef.{TestDef}
use Rattle.ct_base.specs.Outside.{Held, Rose}
use Rattle.ct_props.specs.declared.props.Props.{Props}
use Rattle.ct_graph.specs.Cycle.{is_cycle}
use Rattle.ct_graph.specs.Order.{most_edges}
use Rattle.ct_args.specs.declared.invocation.Invocation.{Invocation}
use Rattle.ct_plan.specs.Source.{Source, edge_count, members_before}
use Rattle.ct_app.specs.declared.outcome.Outcome.{Outcome}
use Rattle.ct_app.specs.declared.outcome.Outcome.TheVariants.{Completed, Memory}
use Rattle.ct_app.specs.Reading.{AreRead}
use Rattle.ct_app.specs.RunFiles.{last_costs}
use Rattle.ct_app.specs.SpecFile.{AreLent}
use Rattle.ct_trees.specs.Trees.{AskForTrees, invocation_for, most_tree_tests, source_for}
use Rattle.ct_trees.specs.TreeRuns.{RunSides}

-- what the plan of the tree in this folder is made of, with the cost data that the files hold there
abbrev pub source_held : Held
    → Invocation → Option (List Resource) → List ℕ → List TestDef → List Props → Source
source_held held invocation lent dir defs props =
    source_for invocation lent dir defs props (last_costs dir held)

-- the tree in this folder defines these tests, and they can be planned:
-- - the tests and their properties are read without refusal;
-- - there are not too many edges, and no cycle
pub record IsPlannable
    (held : Held) (invocation : Invocation) (lent : Option (List Resource)) (dir : List ℕ)
    (defs : List TestDef) : Type 0 where
  pub props : List Props
  pub read : AreRead (Some held) (invocation_for invocation dir) defs props
  pub few : edge_count (source_held held invocation lent dir defs props) ≤ most_edges
  pub no_cycle :
      (tests : List ℕ)
      → is_cycle (members_before (source_held held invocation lent dir defs props)) tests ≡ false

-- the trees in these folders define these tests, one list for each tree, and they can be planned
abbrev pub ArePlannable : Held
    → Invocation → Option (List Resource) → List (List ℕ) → List (List TestDef) → Type 0
ArePlannable held invocation lent [] [] = ⊤
ArePlannable held invocation lent [] (defs ∷ tests) = ⊥
ArePlannable held invocation lent (dir ∷ dirs) [] = ⊥
ArePlannable held invocation lent (dir ∷ dirs) (defs ∷ tests) =
    IsPlannable held invocation lent dir defs × ArePlannable held invocation lent dirs tests

-- how many tests these lists have together
abbrev pub count_together : List (List TestDef) → ℕ
count_together [] = 0
count_together (defs ∷ tests) = length defs + count_together tests

-- a run over trees can be made:
-- - the words are accepted, and the files tell what they hold;
-- - the specification is read without refusal;
-- - each tree can be planned, and all of them together do not define too many tests
pub record AreRunnable (words : List (List ℕ)) (told : Option Held) : Type 0 where
  pub dirs : List (List ℕ)
  pub invocation : Invocation
  pub asked : AskForTrees words dirs invocation
  pub held : Held
  pub told_is : told ≡ Some held
  pub lent : Option (List Resource)
  pub declared : AreLent (Some held) invocation.spec_file lent
  pub tests : List (List TestDef)
  pub plannable : ArePlannable held invocation lent dirs tests
  pub few : count_together tests ≤ most_tree_tests

-- the fault counts of the files and of the sink did not rise; a count at its greatest value counts as risen
pub record AreUnfailed (s : RunSides) : Type 0 where
  pub files : Rose s.files.before.faults s.files.after.faults → ⊥
  pub sink : Rose s.sink.before.faults s.sink.after.faults → ⊥

-- a run over trees that can be made is completed where no fault was counted, unless memory ran out
abbrev pub CompletesTrees : List (List ℕ) → RunSides → Outcome → Type 0
CompletesTrees words s outcome =
    AreRunnable words s.files.before.held → AreUnfailed s → (outcome ≡ Completed) ⊎ (outcome ≡ Memory)
