-- What the words of a call ask for, what is read for it, and what is refused.
-- Source: CMake manual, ctest(1), Options, Run Tests. What is refused is this project's choice.
use Rattle.std.specs.Prelude.{◌≡◌, ◌⊎◌, ℕ, ◌<◌, ◌≤◌, Bool, true, false, List, Option, Some, Result, Ok, Err, IfSome}
use Rattle.ct_base.specs.declared.defs.Resource.{Resource}
use Rattle.ct_base.specs.declared.defs.TestDef.{TestDef}
use Rattle.ct_base.specs.Outside.{Held}
use Rattle.ct_testfile.specs.declared.fault.ReadFault.TheVariants as Read
use Rattle.ct_testfile.specs.Asks.{TreeAsks}
use Rattle.ct_testfile.specs.Tree.{tree_of}
use Rattle.ct_props.specs.declared.props.Props.{Props}
use Rattle.ct_graph.specs.Cycle.{is_cycle}
use Rattle.ct_graph.specs.Order.{most_edges}
use Rattle.ct_args.specs.declared.usage.UsageFault.{UsageFault}
use Rattle.ct_args.specs.declared.invocation.Invocation.{Invocation}
use Rattle.ct_args.specs.declared.invocation.Task.{Task}
use Rattle.ct_args.specs.declared.invocation.Task.TheVariants.{Run, ListTests, ListLabels, ListJson}
use Rattle.ct_args.specs.Invocation.{InvocationValue, invocation_in, invocation_seen}
use Rattle.ct_plan.specs.Source.{HaveProps, Source, edge_count, members_before}
use Rattle.ct_app.specs.declared.outcome.Refusal.{Refusal}
use Rattle.ct_app.specs.declared.outcome.Refusal.TheVariants.{TestFile, Prop, Spec, Cycle, TooManyEdges}
use Rattle.ct_app.specs.Outcome.{names_at}
use Rattle.ct_app.specs.Rerun.{AreOnly, wanted_of}
use Rattle.ct_app.specs.RunFiles.{costs_path, last_costs, log_path}
use Rattle.ct_app.specs.SpecFile.{AreLent, RefusesFile}
use Rattle.ct_app.specs.Tests.{RefusesFirst}

-- the task is a list: of tests, of labels or as JSON
abbrev pub is_list : Task → Bool
is_list Run = false
is_list ListTests = true
is_list ListLabels = true
is_list ListJson = true

-- the words were read without a fault, and their task is a list
abbrev pub reads_list : Result InvocationValue UsageFault → Bool
reads_list (Ok invocation) = is_list invocation.task
reads_list (Err fault) = false

-- the words ask for a list
abbrev pub ask_for_list : List (List ℕ) → Bool
ask_for_list words = reads_list (invocation_in words)

-- the words ask for this invocation
abbrev pub AskFor : List (List ℕ) → Invocation → Type 0
AskFor words invocation = invocation_in words ≡ Ok (invocation_seen invocation)

-- these are the tests of the folder in the configuration, with their properties
pub record AreRead (told : Option Held) (invocation : Invocation) (defs : List TestDef) (props : List Props)
    : Type 0 where
  pub tree : IfSome told (λ held. tree_of held invocation.wanted.dir invocation.config ≡ Ok defs)
  pub have : HaveProps defs props

-- the source of a plan: these tests, what the words want, the resources that are lent, and the cost data of
-- the last run. With --rerun-failed the choice is limited to the names in the log.
pub record IsSource (told : Option Held) (invocation : Invocation) (source : Source) : Type 0 where
  pub tests : AreRead told invocation source.defs source.props
  pub only : AreOnly told invocation.rerun invocation.wanted.dir source.wanted.choice.only
  pub wanted : source.wanted ≡ wanted_of invocation source.wanted.choice.only
  pub resources : AreLent told invocation.spec_file source.resources
  pub costs : IfSome told (λ held. source.costs ≡ last_costs invocation.wanted.dir held)

-- the tests of the folder are read, with their properties
abbrev pub AreTestsRead : Option Held → Invocation → Type 0
AreTestsRead told invocation =
    (defs : List TestDef) × (props : List Props) × AreRead told invocation defs props

-- the specification that is named is accepted, or none is named
abbrev pub IsSpecAccepted : Option Held → Invocation → Type 0
IsSpecAccepted told invocation = (lent : Option (List Resource)) × AreLent told invocation.spec_file lent

-- reading for a list may fail at this path: in the tree of test files; or, where the tests are read, at the
-- log for --rerun-failed
abbrev pub ListFailsAt : Option Held → Invocation → List ℕ → Type 0
ListFailsAt told invocation path =
    IfSome told (λ held. TreeAsks held invocation.wanted.dir invocation.config path)
    ⊎ (AreTestsRead told invocation × (invocation.rerun ≡ true) × (path ≡ log_path invocation.wanted.dir))

-- reading the inputs of a plan beside the tests may fail at this path: at the specification that is named;
-- or, where it is accepted, at the cost data, or at the log for --rerun-failed
abbrev pub InputsFailAt : Option Held → Invocation → List ℕ → Type 0
InputsFailAt told invocation path =
    (invocation.spec_file ≡ Some path)
    ⊎ (IsSpecAccepted told invocation
    × ((path ≡ costs_path invocation.wanted.dir)
    ⊎ ((invocation.rerun ≡ true) × (path ≡ log_path invocation.wanted.dir))))

-- reading for a run may fail at this path: in the tree of test files; or, where the tests are read, at an
-- input of the plan beside them
abbrev pub RunFailsAt : Option Held → Invocation → List ℕ → Type 0
RunFailsAt told invocation path =
    IfSome told (λ held. TreeAsks held invocation.wanted.dir invocation.config path)
    ⊎ (AreTestsRead told invocation × InputsFailAt told invocation path)

-- a test file is refused; or all test files are read, and the first test with a bad property is refused
abbrev pub RefusesReading : Option Held → Invocation → Refusal → Type 0
RefusesReading told invocation (TestFile file line kind) =
    IfSome told (λ held. tree_of held invocation.wanted.dir invocation.config ≡ Err (Read.At file line kind))
RefusesReading told invocation (Prop test key kind) =
    (defs : List TestDef)
    × IfSome told (λ held. tree_of held invocation.wanted.dir invocation.config ≡ Ok defs)
    × RefusesFirst defs test key kind
RefusesReading told invocation refusal = ⊥

-- the file that declares the resources is refused
abbrev pub RefusesSpec : Option Held → Invocation → Refusal → Type 0
RefusesSpec told invocation (Spec why) = RefusesFile told invocation.spec_file why
RefusesSpec told invocation refusal = ⊥

-- the tests have no plan: some of them make a cycle and have these names, or the edge count is too great
abbrev pub RefusesPlan : Source → Refusal → List (List ℕ) → Type 0
RefusesPlan source (Cycle tests) names =
    (edge_count source ≤ most_edges)
    × (is_cycle (members_before source) tests ≡ true)
    × (names ≡ names_at source.defs tests)
RefusesPlan source TooManyEdges names = most_edges < edge_count source
RefusesPlan source refusal names = ⊥
