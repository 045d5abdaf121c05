-- A run over several trees that can be made is completed where no fault was counted, since nothing that is read
-- for it is refused.
use Rattle.std.proofs.Common.{◌≡◌, ◌∙◌, sym, ap, subst, ℕ, ◌+◌, ◌≤◌, List, [], ◌∷◌, ◌++◌, length, map, refl, arith, inl, inr}
use Rattle.std.specs.Prelude.{◌⊎◌, ⊤, Option, Some, None, Result, Ok, Err, IfSome, slice_get}
use Rattle.std.proofs.lemmas.Option.{same_Some}
use Rattle.ct_base.specs.declared.defs.Pair.{Pair}
use Rattle.ct_base.specs.declared.defs.Resource.{Resource}
use Rattle.ct_base.specs.declared.defs.TestDef.{TestDef}
use Rattle.ct_base.specs.Outside.{FilesTell, Held, Rose, SinkTell}
use Rattle.ct_testfile.specs.declared.fault.ReadFault.{ReadFault}
use Rattle.ct_testfile.specs.declared.fault.ReadFault.TheVariants.{At}
use Rattle.ct_testfile.specs.Tree.{tree_of}
use Rattle.ct_props.specs.declared.props.Props.{Props}
use Rattle.ct_graph.specs.Cycle.{is_cycle}
use Rattle.ct_history.specs.declared.plan.PlanParts.{PlanParts}
use Rattle.ct_history.specs.declared.history.Entry.{Entry}
use Rattle.ct_args.specs.declared.invocation.Invocation.{Invocation}
use Rattle.ct_args.specs.declared.usage.UsageFault.{UsageFault}
use Rattle.ct_args.specs.declared.usage.UsageFault.TheVariants as Usages
use Rattle.ct_args.specs.Invocation.{InvocationValue, invocation_seen}
use Rattle.ct_args.specs.Read.{IsFirstFault}
use Rattle.ct_plan.specs.declared.whole.Tree.{Tree}
use Rattle.ct_plan.specs.Source.{HaveProps, edge_count, members_before}
use Rattle.ct_plan.specs.Whole.{defined_in}
use Rattle.ct_app.specs.declared.outcome.Outcome.{Outcome}
use Rattle.ct_app.specs.declared.outcome.Outcome.TheVariants.{Completed, Listed, Usage, Refused, FilesFault, OutputFault, Memory}
use Rattle.ct_app.specs.declared.outcome.Refusal.{Refusal}
use Rattle.ct_app.specs.declared.outcome.Refusal.TheVariants.{TestFile, Prop, Spec, Cycle, TooManyEdges}
use Rattle.ct_app.specs.Ends.{PutsFault, ReportsFault, ReportsEnd}
use Rattle.ct_app.specs.Outcome.{outcome_of_usage}
use Rattle.ct_app.specs.Reading.{AreRead, RefusesPlan, RefusesReading, RefusesSpec}
use Rattle.ct_app.specs.SpecFile.{RefusesFile}
use Rattle.ct_app.specs.Tests.{RefusesFirst}
use Rattle.ct_app.proofs.CompleteLemmas.{lent_unrefused, none_refused_first, not_both, same_choice}
use Rattle.ct_app.proofs.SourceLemmas.{IsSameChoice, before_same, edges_same, same_ok}
use Rattle.ct_trees.specs.declared.tree_run.RunTerms.{RunTerms}
use Rattle.ct_trees.specs.Planning.{LackPlans, LackSpec}
use Rattle.ct_trees.specs.TreeAnswers.{AnswersTrees, EndsForDirs, EndsTrees, TreesMade}
use Rattle.ct_trees.specs.TreeComplete.{ArePlannable, AreRunnable, CompletesTrees, IsPlannable, count_together, source_held}
use Rattle.ct_trees.specs.TreeEnds.{EndsWithTrees}
use Rattle.ct_trees.specs.TreeReports.{rest_of}
use Rattle.ct_trees.specs.TreeRuns.{RunSides, RunsTrees}
use Rattle.ct_trees.specs.TreeStops.{TreesEnd}
use Rattle.ct_trees.specs.TreeWords.{TreesValue, trees_in}
use Rattle.ct_trees.specs.Trees.{AreTrees, AskForTrees, IsUnplannedTree, RefusesTree, StopsReading, invocation_for, most_tree_tests, source_for}

-- choices of invocations that are seen alike are the same
pub choices_alike : (one other : Invocation) → invocation_seen one ≡ invocation_seen other → IsSameChoice one.wanted.choice other.wanted.choice
choices_alike one other same = same_choice one other one.wanted.choice.only other.wanted.choice.only same (ap (λ (v : InvocationValue). v.only) same)

-- these folders and what is seen of this invocation
abbrev value_of : List (List ℕ) → Invocation → TreesValue
value_of dirs invocation = record { dirs = dirs; invocation = invocation_seen invocation }

-- the tree in this folder can be planned, behind so many tests of other trees
record IsNextTree (held : Held) (invocation : Invocation) (lent : Option (List Resource)) (dir : List ℕ) (count all : ℕ) : Type 0 where
  pub defs : List TestDef
  pub can : IsPlannable held invocation lent dir defs
  pub fits : count + length defs ≤ all

-- a run that can be made, and an invocation for its words
module _ (words : List (List ℕ)) (told : Option Held) (can : AreRunnable words told) (dirs : List (List ℕ)) (invocation : Invocation) (asked : AskForTrees words dirs invocation) where
  same_value : value_of dirs invocation ≡ value_of can.dirs can.invocation
  same_value = same_ok (trees_in words) (value_of dirs invocation) (value_of can.dirs can.invocation) asked can.asked

  same_dirs : dirs ≡ can.dirs
  same_dirs = ap (λ (v : TreesValue). v.dirs) same_value

  same_seen : invocation_seen invocation ≡ invocation_seen can.invocation
  same_seen = ap (λ (v : TreesValue). v.invocation) same_value

  same_config : invocation.config ≡ can.invocation.config
  same_config = ap (λ (v : InvocationValue). v.config) same_seen

  undeclared_never : (refusal : Refusal) → RefusesSpec told invocation refusal → ⊥
  undeclared_never (TestFile file line kind) refused = refused
  undeclared_never (Prop test key kind) refused = refused
  undeclared_never (Spec why) refused =
      let here = subst (λ (t : Option Held). RefusesFile t invocation.spec_file why) can.told_is refused in
      lent_unrefused can.held can.invocation.spec_file can.lent why can.declared (subst (λ (file : Option (List ℕ)). RefusesFile (Some can.held) file why) (ap (λ (v : InvocationValue). v.spec_file) same_seen) here)
  undeclared_never (Cycle tests) refused = refused
  undeclared_never TooManyEdges refused = refused

  -- a folder whose tests can be planned
  module _ (dir : List ℕ) (defs : List TestDef) (plans : IsPlannable can.held can.invocation can.lent dir defs) where
    -- each reading of the test files for the words has these definitions
    files_same : (result : Result (List TestDef) ReadFault) → IfSome told (λ held. tree_of held dir invocation.config ≡ result) → result ≡ Ok defs
    files_same result read =
        let here : tree_of can.held dir invocation.config ≡ result =
        subst (λ (is : Option Held). IfSome is (λ held. tree_of held dir invocation.config ≡ result)) can.told_is read in
        sym here ∙ ap (tree_of can.held dir) same_config ∙ plans.read.tree

    defs_same : (others : List TestDef) (props : List Props) → AreRead told (invocation_for invocation dir) others props → others ≡ defs
    defs_same others props read = same_ok (Ok others) others defs refl (files_same (Ok others) read.tree)

    reading_never : (refusal : Refusal) → RefusesReading told (invocation_for invocation dir) refusal → ⊥
    reading_never (TestFile file line kind) refused = let same = files_same (Err (At file line kind)) refused in absurd (cc)
    reading_never (Prop test key kind) (others, read, first) =
        let same = same_ok (Ok others) others defs refl (files_same (Ok others) read) in
        none_refused_first defs plans.props test key kind plans.read.have (subst (λ (ds : List TestDef). RefusesFirst ds test key kind) same first)
    reading_never (Spec why) refused = refused
    reading_never (Cycle tests) refused = refused
    reading_never TooManyEdges refused = refused

    -- a source that is read for the words has the same links as the source that can be planned
    module _ (lent : Option (List Resource)) (count : ℕ) (refusal : Refusal) (names : List (List ℕ)) (bad : IsUnplannedTree told invocation lent count dir refusal names) where
      bad_defs : bad.defs ≡ defs
      bad_defs = defs_same bad.defs bad.props bad.read.tests

      bad_have : HaveProps defs bad.props
      bad_have = subst (λ (ds : List TestDef). HaveProps ds bad.props) bad_defs bad.read.tests.have

      links_same : members_before (source_for invocation lent dir bad.defs bad.props bad.costs) ≡ members_before (source_held can.held can.invocation can.lent dir defs plans.props)
      links_same =
          ap (λ (ds : List TestDef). members_before (source_for invocation lent dir ds bad.props bad.costs)) bad_defs
          ∙ before_same defs bad.props plans.props bad_have plans.read.have invocation.wanted.choice can.invocation.wanted.choice (choices_alike invocation can.invocation same_seen)

      count_same : edge_count (source_for invocation lent dir bad.defs bad.props bad.costs) ≡ edge_count (source_held can.held can.invocation can.lent dir defs plans.props)
      count_same =
          ap (λ (ds : List TestDef). edge_count (source_for invocation lent dir ds bad.props bad.costs)) bad_defs
          ∙ edges_same defs bad.props plans.props bad_have plans.read.have invocation.wanted.choice can.invocation.wanted.choice (choices_alike invocation can.invocation same_seen)

      unplanned_never : (why : Refusal) → RefusesPlan (source_for invocation lent dir bad.defs bad.props bad.costs) why names → ⊥
      unplanned_never (TestFile file line kind) refused = refused
      unplanned_never (Prop test key kind) refused = refused
      unplanned_never (Spec why) refused = refused
      unplanned_never (Cycle tests) refused =
          let same = ap (λ (before : ℕ → List ℕ). is_cycle before tests) links_same in
          let cycle = refused.1 in
          let none = plans.no_cycle tests in
          absurd (cc)
      unplanned_never TooManyEdges refused =
          let same = count_same in
          let few = plans.few in
          absurd (omega (arith, same, refused, few))

    tree_never : (lent : Option (List Resource)) (count : ℕ) (refusal : Refusal) (names : List (List ℕ)) → count + length defs ≤ most_tree_tests → RefusesTree told invocation lent count dir refusal names → ⊥
    tree_never lent count refusal names fits (inl (inl refused)) = reading_never refusal refused
    tree_never lent count refusal names fits (inl (inr over)) =
        let long : length over.defs ≡ length defs = ap (λ (ds : List TestDef). length ds) (defs_same over.defs over.props over.read) in
        absurd (omega (arith, long, fits, over.over))
    tree_never lent count refusal names fits (inr bad) = unplanned_never lent count refusal names bad refusal bad.refused

  -- behind the trees that were read stands one that can be planned
  next_tree : (lent : Option (List Resource)) (before behind : List (List ℕ)) (trees : List Tree) (tests : List (List TestDef)) (dir : List ℕ) → ArePlannable can.held can.invocation can.lent (before ++ behind) tests → AreTrees told invocation lent before trees → slice_get (before ++ behind) (length trees) ≡ Some dir → IsNextTree can.held can.invocation can.lent dir (defined_in trees) (count_together tests)
  next_tree lent [] [] [] tests dir plans are there = absurd (cc)
  next_tree lent [] (d ∷ ds) [] [] dir plans are there = absurd plans
  next_tree lent [] (d ∷ ds) [] (defs ∷ tests) dir plans are there = record {
    defs = defs;
    can = subst (λ (x : List ℕ). IsPlannable can.held can.invocation can.lent x defs) (same_Some d dir there) plans.0;
    fits = omega arith;
  }
  next_tree lent [] behind (t ∷ ts) tests dir plans are there = absurd are
  next_tree lent (b ∷ bs) behind [] tests dir plans are there = absurd are
  next_tree lent (b ∷ bs) behind (t ∷ ts) [] dir plans are there = absurd plans
  next_tree lent (b ∷ bs) behind (t ∷ ts) (defs ∷ tests) dir plans are there =
      let long : length t.defs ≡ length defs = ap (λ (ds : List TestDef). length ds) (defs_same b defs plans.0 t.defs t.props are.0.read.tests) in
      let next = next_tree lent bs behind ts tests dir plans.1 are.1 there in
      record { defs = next.defs; can = next.can; fits = omega (arith, long, next.fits) }

  refused_never : (plans : List PlanParts) (place : ℕ) (refusal : Refusal) (names : List (List ℕ)) → StopsReading told invocation dirs plans place (λ lent count dir. RefusesTree told invocation lent count dir refusal names) → ⊥
  refused_never plans place refusal names stop =
      let at = stop.stops in
      let front = at.front in
      let can_plan = subst (λ (ds : List (List ℕ)). ArePlannable can.held can.invocation can.lent ds can.tests) (sym same_dirs ∙ front.split) can.plannable in
      let there = ap (λ (ds : List (List ℕ)). slice_get ds (length at.trees)) (sym front.split) ∙ ap (slice_get dirs) (sym at.place_is) ∙ at.there in
      let next = next_tree stop.lent front.before front.behind at.trees can.tests at.dir can_plan front.are there in
      let all = can.few in
      let fits = next.fits in
      tree_never at.dir next.defs next.can stop.lent (defined_in at.trees) refusal names (omega (arith, fits, all)) at.stops

  -- where trees are not planned and the files did not fail, memory ran out
  module _ (before now : FilesTell) (same : before.held ≡ told) (calm : Rose before.faults now.faults → ⊥) where
    lack_memory : (plans : List PlanParts) (place : Option ℕ) (names : List (List ℕ)) (outcome : Outcome) → LackPlans invocation dirs before now plans place names outcome → outcome ≡ Memory
    lack_memory plans None names outcome lack = by_spec outcome lack.1
      where
        by_spec : (o : Outcome) → LackSpec invocation before now o → o ≡ Memory
        by_spec Completed lack = absurd lack
        by_spec Listed lack = absurd lack
        by_spec (Usage word kind) lack = absurd lack
        by_spec (Refused refusal) lack =
            absurd (undeclared_never refusal (subst (λ (t : Option Held). RefusesSpec t invocation refusal) same lack.0))
        by_spec (FilesFault path) lack = absurd (calm lack.1.rose)
        by_spec OutputFault lack = absurd lack
        by_spec Memory lack = refl
    lack_memory plans (Some place) names Completed lack = absurd lack
    lack_memory plans (Some place) names Listed lack = absurd lack
    lack_memory plans (Some place) names (Usage word kind) lack = absurd lack
    lack_memory plans (Some place) names (Refused refusal) lack =
        absurd (refused_never plans place refusal names (subst (λ (t : Option Held). StopsReading t invocation dirs plans place (λ lent count dir. RefusesTree t invocation lent count dir refusal names)) same lack.0))
    lack_memory plans (Some place) names (FilesFault path) lack = absurd (calm lack.1.rose)
    lack_memory plans (Some place) names OutputFault lack = absurd lack
    lack_memory plans (Some place) names Memory lack = refl

-- a call ended with a complete run, or out of memory
abbrev EndsWell : Result ℕ Outcome → Type 0
EndsWell (Ok status) = ⊤
EndsWell (Err outcome) = outcome ≡ Memory

-- such an end is told as Completed or as Memory
told_well : (names : List (List ℕ)) (ended : Result ℕ Outcome) (outcome : Outcome) (status : ℕ) (before now : SinkTell) → ReportsEnd names ended outcome status before now → EndsWell ended → (outcome ≡ Completed) ⊎ (outcome ≡ Memory)
told_well names (Ok done) outcome status before now told well = inl told.0
told_well names (Err fault) outcome status before now told well = inr (by_line (subst (λ (o : Outcome). ReportsFault names o outcome before now) well told.0))
  where
    by_line : PutsFault names Memory outcome before now → outcome ≡ Memory
    by_line (inl put) = put.0
    by_line (inr short) = short.0

-- a fault of the sink is told without a line
told_quiet : (names : List (List ℕ)) (ended : Result ℕ Outcome) (outcome : Outcome) (status : ℕ) (before now : SinkTell) → ReportsEnd names ended outcome status before now → ended ≡ Err OutputFault → now ≡ before
told_quiet names ended outcome status before now told is = (subst (λ (e : Result ℕ Outcome). ReportsEnd names e outcome status before now) is told).0.1

-- a run in which neither the files nor the sink failed
module _ (s : RunSides) (ended : Result ℕ Outcome) (calm : Rose s.files.before.faults s.files.after.faults → ⊥) (quiet : ended ≡ Err OutputFault → Rose s.sink.before.faults s.sink.after.faults → ⊥) where
  module _ (run : RunTerms) (trees : List Tree) (whole : PlanParts) (es : List Entry) where
    stopped : (outcome : Outcome) → ended ≡ Err outcome → TreesEnd (map rest_of trees) whole es s.sink.before s.sink.after (Err outcome) → outcome ≡ Memory
    stopped Completed is ends = absurd ends
    stopped Listed is ends = absurd ends
    stopped (Usage word kind) is ends = absurd ends
    stopped (Refused refusal) is ends = absurd ends
    stopped (FilesFault path) is ends = absurd ends
    stopped OutputFault is ends = absurd (quiet is (ends.put.bytes.cause.failed refl))
    stopped Memory is ends = refl

    left_well : (place : Option ℕ) (left : Result ℕ Outcome) → EndsWithTrees run.empty_is_error (map rest_of trees) es s.files.before s.files.after (Ok tt) place left → EndsWell left
    left_well place (Ok status) leaves = tt
    left_well place (Err Completed) leaves = absurd leaves
    left_well place (Err Listed) leaves = absurd leaves
    left_well place (Err (Usage word kind)) leaves = absurd leaves
    left_well place (Err (Refused refusal)) leaves = absurd leaves
    left_well None (Err (FilesFault path)) leaves = absurd leaves
    left_well (Some place) (Err (FilesFault path)) leaves = absurd (calm leaves.1.rose)
    left_well place (Err OutputFault) leaves = absurd leaves
    left_well place (Err Memory) leaves = refl

    run_well : (place : Option ℕ) (tests : Result (Unit {0}) Outcome) → TreesEnd (map rest_of trees) whole es s.sink.before s.sink.after tests → EndsWithTrees run.empty_is_error (map rest_of trees) es s.files.before s.files.after tests place ended → EndsWell ended
    run_well place (Ok done) ends leaves = left_well place ended leaves
    run_well place (Err outcome) ends leaves = subst (λ (e : Result ℕ Outcome). EndsWell e) (sym leaves.0) (stopped outcome leaves.0 ends)

  runs_well : (run : RunTerms) (trees : List Tree) (plans : List PlanParts) (whole : Option PlanParts) (history : Option (List Entry)) (place : Option ℕ) → RunsTrees s run trees plans whole history place ended → EndsWell ended
  runs_well run trees plans None history place runs = subst (λ (e : Result ℕ Outcome). EndsWell e) (sym runs.1.memory) refl
  runs_well run trees plans (Some whole) None place runs = absurd runs.1
  runs_well run trees plans (Some whole) (Some es) place runs = run_well run trees whole es place runs.1.tests runs.1.reported runs.1.left

-- a call for words of a run that can be made, in which neither the files nor the sink failed
module _ (words : List (List ℕ)) (own : List Pair) (s : RunSides) (can : AreRunnable words s.files.before.held) (calm : Rose s.files.before.faults s.files.after.faults → ⊥) (made : TreesMade) (names : List (List ℕ)) (ended : Result ℕ Outcome) (quiet : ended ≡ Err OutputFault → Rose s.sink.before.faults s.sink.after.faults → ⊥) where
  refused_well : (fault : UsageFault) → IsFirstFault (trees_in words) fault → ended ≡ Err (outcome_of_usage fault) → EndsWell ended
  refused_well Usages.NoMemory first is = subst (λ (e : Result ℕ Outcome). EndsWell e) (sym is) refl
  refused_well (Usages.At word kind) first is =
      absurd (not_both (trees_in words) (record { dirs = can.dirs; invocation = invocation_seen can.invocation }) (Usages.At word kind) can.asked first)

  dirs_well : (dirs : List (List ℕ)) (invocation : Invocation) → AskForTrees words dirs invocation → EndsForDirs dirs invocation own s made names ended → EndsWell ended
  dirs_well dirs invocation asked (inl bad) =
      subst (λ (e : Result ℕ Outcome). EndsWell e) (sym bad.is)
      (lack_memory words s.files.before.held can dirs invocation asked s.files.before s.files.after refl calm made.plans made.tree names bad.outcome bad.lack)
  dirs_well dirs invocation asked (inr ran) =
      runs_well (record { files = record { before = ran.between; after = s.files.after }; gates = s.gates; sink = s.sink }) ended
      (λ rose. calm (subst (λ (n : ℕ). Rose n s.files.after.faults) ran.stay.unfailed rose)) quiet ran.run ran.trees made.plans made.whole made.history made.tree ran.ran

  ends_well : EndsTrees words own s made names ended → EndsWell ended
  ends_well (inl refused) = refused_well refused.fault refused.first refused.is
  ends_well (inr call) = dirs_well call.dirs call.invocation call.words_are call.ends

-- a run over trees that can be made is completed where no fault was counted, unless memory ran out
pub trees_complete : {words : List (List ℕ)} {own : List Pair} {s : RunSides} {made : TreesMade} {outcome : Outcome} {status : ℕ} → AnswersTrees words own s made outcome status → CompletesTrees words s outcome
trees_complete {words} {own} {s} {made} {outcome} {status} answer can calm =
    told_well answer.names answer.ended outcome status answer.middle s.sink.after answer.reported
    (ends_well words own (record { files = s.files; gates = s.gates; sink = record { before = s.sink.before; after = answer.middle } }) can calm.files
    (record { tree = answer.place; plans = made.plans; whole = made.whole; history = made.history }) answer.names answer.ended quiet answer.ends)
  where
    quiet : answer.ended ≡ Err OutputFault → Rose s.sink.before.faults answer.middle.faults → ⊥
    quiet is rose =
        calm.sink
        (subst (λ (t : SinkTell). Rose s.sink.before.faults t.faults) (sym (told_quiet answer.names answer.ended outcome status answer.middle s.sink.after answer.reported is)) rose)
