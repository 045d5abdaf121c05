-- A run or a list that can be made is carried out where no fault was counted,
-- since nothing that is read for it is refused.
use Rattle.std.proofs.Common.{◌≡◌, ◌∙◌, sym, ap, subst, Bool, ℕ, zero, suc, List, [], ◌∷◌, refl, arith, inl, inr}
use Rattle.std.specs.Prelude.{Option, Some, None, Result, Ok, Err, IfSome, ◌⊎◌, slice_get}
use Rattle.std.proofs.lemmas.Option.{same_Some}
use Rattle.ct_base.specs.declared.defs.Resource.{Resource}
use Rattle.ct_base.specs.declared.defs.TestDef.{TestDef}
use Rattle.ct_base.specs.Outside.{FilesTell, Held, Rose}
use Rattle.ct_testfile.specs.declared.fault.ReadFault.{ReadFault}
use Rattle.ct_testfile.specs.declared.fault.ReadFault.TheVariants.{At}
use Rattle.ct_testfile.specs.Tree.{tree_of}
use Rattle.ct_props.specs.declared.fault.PropKind.{PropKind}
use Rattle.ct_props.specs.declared.props.Props.{Props}
use Rattle.ct_props.specs.declared.wanted.Wanted.{Wanted}
use Rattle.ct_props.specs.PropsOf.{HasProps}
use Rattle.ct_props.specs.Refusal.{refused_as}
use Rattle.ct_props.proofs.RefusalLemmas.{none_refused}
use Rattle.ct_graph.specs.Cycle.{is_cycle}
use Rattle.ct_history.specs.declared.plan.PlanParts.{PlanParts}
use Rattle.ct_history.specs.declared.history.Entry.{Entry}
use Rattle.ct_args.specs.declared.usage.UsageKind.{UsageKind}
use Rattle.ct_args.specs.declared.invocation.Invocation.{Invocation}
use Rattle.ct_args.specs.Invocation.{InvocationValue, invocation_in, invocation_seen}
use Rattle.ct_plan.specs.Source.{HaveProps, Source, edge_count, members_before}
use Rattle.ct_app.specs.declared.outcome.Outcome.{Outcome}
use Rattle.ct_app.specs.declared.outcome.Outcome.TheVariants.{Completed, Listed, Usage, Refused, FilesFault, OutputFault, Memory}
use Rattle.ct_app.specs.declared.outcome.Refusal.{Refusal}
use Rattle.ct_app.specs.declared.outcome.Refusal.TheVariants.{TestFile, Prop, Spec, Cycle, TooManyEdges}
use Rattle.ct_app.specs.declared.outcome.SpecRefusal.{SpecRefusal}
use Rattle.ct_app.specs.Answers.{Answers}
use Rattle.ct_app.specs.Calls.{IsReadFault, IsUndeclared, IsUnreadable, IsUsage, Sides, list_sides}
use Rattle.ct_app.specs.Complete.{Completes, CompletesList, CompletesPlan, CompletesRun, IsListable, IsRunnable, IsUnfailed}
use Rattle.ct_app.specs.Ends.{EndsUnrun}
use Rattle.ct_app.specs.Lists.{AnswersList}
use Rattle.ct_app.specs.Planning.{HasNoPlan}
use Rattle.ct_app.specs.Reading.{AskFor, IsSource, ListFailsAt, RefusesReading, RunFailsAt}
use Rattle.ct_app.specs.Rerun.{AreOnly, choice_for}
use Rattle.ct_app.specs.RunFiles.{FilesStay}
use Rattle.ct_app.specs.Runs.{AnswersRun, HasRunWith, IsCutOff, IsRefusal, IsUnplannable, IsUnwritten, RanWith}
use Rattle.ct_app.specs.SpecFile.{AreLent, RefusesFile, declared_in}
use Rattle.ct_app.specs.Tests.{RefusesFirst}
use Rattle.ct_app.proofs.AnswerLemmas.{run_none}
use Rattle.ct_app.proofs.RerunLemmas.{only_same}
use Rattle.ct_app.proofs.SourceLemmas.{IsSameChoice, before_same, edges_same, same_ok}

-- a result is not both Ok and Err
pub not_both : {T E : Type 0} (result : Result T E) (value : T) (fault : E) → result ≡ Ok value → result ≡ Err fault → ⊥
not_both result value fault is but = absurd (cc)

-- each of the tests that have properties has properties of its own
props_there : (defs : List TestDef) (props : List Props) (place : ℕ) (def : TestDef) → HaveProps defs props → slice_get defs place ≡ Some def → (own : Props) × HasProps def own
props_there [] props place def have there = absurd (cc)
props_there (d ∷ ds) [] place def have there = absurd have
props_there (d ∷ ds) (own ∷ owns) zero def have there = (own, subst (λ (x : TestDef). HasProps x own) (same_Some d def there) have.0)
props_there (d ∷ ds) (own ∷ owns) (suc place) def have there = props_there ds owns place def have.1 there

-- no key of a test that has its properties is refused
pub own_unrefused : (def : TestDef) (own : Props) → HasProps def own → (key : List ℕ) → refused_as def.props key ≡ None
own_unrefused def own has =
    none_refused def.props
    (record { processors = own.processors; fail = own.fail; pass = own.pass; skip = own.skip; skip_code = own.skip_code; timeout = own.timeout; cost = own.cost; groups = own.groups })
    (record { processors = has.processors; fail = has.fail; pass = has.pass; skip = has.skip; skip_code = has.skip_code; timeout = has.timeout; cost = has.cost; groups = has.groups })

-- no test is refused where all tests have properties
pub none_refused_first : (defs : List TestDef) (props : List Props) (test : ℕ) (key : List ℕ) (kind : PropKind) → HaveProps defs props → RefusesFirst defs test key kind → ⊥
none_refused_first defs props zero key kind have refused = let there = refused.there in absurd (cc)
none_refused_first defs props (suc place) key kind have refused =
    let own = props_there defs props place refused.def have refused.there in
    let none = own_unrefused refused.def own.0 own.1 key in
    let some = refused.least.refused in
    absurd (cc)

-- a specification that lends resources is not refused
pub lent_unrefused : (held : Held) (file : Option (List ℕ)) (lent : Option (List Resource)) (why : SpecRefusal) → AreLent (Some held) file lent → RefusesFile (Some held) file why → ⊥
lent_unrefused held None lent why is refused = refused
lent_unrefused held (Some path) None why is refused = is
lent_unrefused held (Some path) (Some resources) why is refused = not_both (declared_in (held path)) resources why is refused

-- the same words ask for the same invocation
pub same_asked : (words : List (List ℕ)) (one other : Invocation) → AskFor words one → AskFor words other → invocation_seen one ≡ invocation_seen other
same_asked words one other is also = same_ok (invocation_in words) (invocation_seen one) (invocation_seen other) is also

pub same_choice : (one other : Invocation) (names others : Option (List (List ℕ))) → invocation_seen one ≡ invocation_seen other → names ≡ others → IsSameChoice (choice_for one names) (choice_for other others)
same_choice one other names others same limited = record {
  name = ap (λ (v : InvocationValue). v.name) same;
  not_name = ap (λ (v : InvocationValue). v.not_name) same;
  labels = ap (λ (v : InvocationValue). v.labels) same;
  not_labels = ap (λ (v : InvocationValue). v.not_labels) same;
  numbers = ap (λ (v : InvocationValue). v.numbers) same;
  union = ap (λ (v : InvocationValue). v.union) same;
  keep_any = ap (λ (v : InvocationValue). v.keep_any) same;
  keep_setup = ap (λ (v : InvocationValue). v.keep_setup) same;
  keep_cleanup = ap (λ (v : InvocationValue). v.keep_cleanup) same;
  only = limited;
}

-- a list that can be made
module _ (s : Sides) (can : IsListable s) where
  usage_never : (word : ℕ) (kind : UsageKind) → IsUsage s word kind → ⊥
  usage_never word kind usage = let is = can.words in let but = usage.words in absurd (cc)

  -- each reading of the test files for the words is Ok, with the same definitions
  tree_same : (invocation : Invocation) → AskFor s.words invocation → (result : Result (List TestDef) ReadFault) → IfSome s.files.before.held (λ held. tree_of held invocation.wanted.dir invocation.config ≡ result) → result ≡ Ok can.defs
  tree_same invocation words result read =
      let same = same_asked s.words can.invocation invocation can.words words in
      let dir = ap (λ (v : InvocationValue). v.dir) same in
      let config = ap (λ (v : InvocationValue). v.config) same in
      let here : tree_of can.held invocation.wanted.dir invocation.config ≡ result =
      subst (λ (told : Option Held). IfSome told (λ held. tree_of held invocation.wanted.dir invocation.config ≡ result)) can.told read in
      sym here ∙ ap (λ (dir : List ℕ). tree_of can.held dir invocation.config) (sym dir) ∙ ap (tree_of can.held can.invocation.wanted.dir) (sym config) ∙ can.read.tree

  reading_never : (invocation : Invocation) → AskFor s.words invocation → (refusal : Refusal) → RefusesReading s.files.before.held invocation refusal → ⊥
  reading_never invocation words (TestFile file line kind) refused = let same = tree_same invocation words (Err (At file line kind)) refused in absurd (cc)
  reading_never invocation words (Prop test key kind) (defs, read, first) =
      let same = same_ok (Ok defs) defs can.defs refl (tree_same invocation words (Ok defs) read) in
      none_refused_first can.defs can.props test key kind can.read.have (subst (λ (ds : List TestDef). RefusesFirst ds test key kind) same first)
  reading_never invocation words (Spec why) refused = refused
  reading_never invocation words (Cycle tests) refused = refused
  reading_never invocation words TooManyEdges refused = refused

  unreadable_never : (refusal : Refusal) → IsUnreadable s refusal → ⊥
  unreadable_never refusal was = reading_never was.invocation was.words refusal was.refused

  read_fault_never : IsUnfailed s → (asks : Option Held → Invocation → List ℕ → Type 0) (path : List ℕ) → IsReadFault s asks path → ⊥
  read_fault_never calm asks path fault = calm.files fault.files.rose

  pub list_by : (outcome : Outcome) (status : ℕ) → AnswersList s outcome status → IsUnfailed s → (outcome ≡ Listed) ⊎ (outcome ≡ Memory)
  list_by Completed status answer calm = absurd answer
  list_by Listed status answer calm = inl refl
  list_by (Usage word kind) status answer calm = absurd (usage_never word kind answer.0)
  list_by (Refused refusal) status answer calm = absurd (unreadable_never refusal answer.0)
  list_by (FilesFault path) status answer calm = absurd (read_fault_never calm ListFailsAt path answer.0)
  list_by OutputFault status answer calm = absurd (calm.sink (answer.0.holds.bytes.cause.failed refl))
  list_by Memory status answer calm = inr refl

-- a run that can be made
module _ (s : Sides) (can : IsRunnable s) where
  abbrev listable : IsListable s
  listable = record {
    invocation = can.invocation;
    words = can.words;
    held = can.held;
    told = can.told;
    defs = can.source.defs;
    props = can.source.props;
    read = can.read.tests;
  }

  undeclared_never : (refusal : Refusal) → IsUndeclared s refusal → ⊥
  undeclared_never (TestFile file line kind) was = was.refused
  undeclared_never (Prop test key kind) was = was.refused
  undeclared_never (Spec why) was =
      let same = same_asked s.words was.invocation can.invocation was.words can.words in
      let refused = subst (λ (told : Option Held). RefusesFile told was.invocation.spec_file why) can.told was.refused in
      lent_unrefused can.held can.invocation.spec_file can.source.resources why can.read.resources (subst (λ (file : Option (List ℕ)). RefusesFile (Some can.held) file why) (ap (λ (v : InvocationValue). v.spec_file) same) refused)
  undeclared_never (Cycle tests) was = was.refused
  undeclared_never TooManyEdges was = was.refused

  -- each source that is read for the words has the same links as the source with which the run can be made
  module _ (invocation : Invocation) (words : AskFor s.words invocation) (source : Source) (read : IsSource s.files.before.held invocation source) where
    defs_same : source.defs ≡ can.source.defs
    defs_same = same_ok (Ok source.defs) source.defs can.source.defs refl (tree_same s listable invocation words (Ok source.defs) read.tests.tree)

    same : invocation_seen invocation ≡ invocation_seen can.invocation
    same = same_asked s.words invocation can.invocation words can.words

    names_same : source.wanted.choice.only ≡ can.source.wanted.choice.only
    names_same =
        only_same can.held can.invocation.rerun can.invocation.wanted.dir source.wanted.choice.only can.source.wanted.choice.only
        (subst (λ (dir : List ℕ). AreOnly (Some can.held) can.invocation.rerun dir source.wanted.choice.only) (ap (λ (v : InvocationValue). v.dir) same)
        (subst (λ (rerun : Bool). AreOnly (Some can.held) rerun invocation.wanted.dir source.wanted.choice.only) (ap (λ (v : InvocationValue). v.rerun) same)
        (subst (λ (told : Option Held). AreOnly told invocation.rerun invocation.wanted.dir source.wanted.choice.only) can.told read.only)))
        can.read.only

    choice_same : IsSameChoice source.wanted.choice can.source.wanted.choice
    choice_same =
        subst (λ (w : Wanted). IsSameChoice w.choice can.source.wanted.choice) (sym read.wanted)
        (subst (λ (w : Wanted). IsSameChoice (choice_for invocation source.wanted.choice.only) w.choice) (sym can.read.wanted) (same_choice invocation can.invocation source.wanted.choice.only can.source.wanted.choice.only same names_same))

    have : HaveProps can.source.defs source.props
    have = subst (λ (ds : List TestDef). HaveProps ds source.props) defs_same read.tests.have

    links_same : members_before source ≡ members_before can.source
    links_same =
        ap (λ (ds : List TestDef). members_before (record source { defs = ds })) defs_same
        ∙ before_same can.source.defs source.props can.source.props have can.read.tests.have source.wanted.choice can.source.wanted.choice choice_same

    count_same : edge_count source ≡ edge_count can.source
    count_same =
        ap (λ (ds : List TestDef). edge_count (record source { defs = ds })) defs_same
        ∙ edges_same can.source.defs source.props can.source.props have can.read.tests.have source.wanted.choice can.source.wanted.choice choice_same

  unplannable_never : (refusal : Refusal) (names : List (List ℕ)) → IsUnplannable s refusal names → ⊥
  unplannable_never (TestFile file line kind) names was = was.refused
  unplannable_never (Prop test key kind) names was = was.refused
  unplannable_never (Spec why) names was = was.refused
  unplannable_never (Cycle tests) names was =
      let same = ap (λ (before : ℕ → List ℕ). is_cycle before tests) (links_same was.invocation was.words was.source was.read) in
      let cycle = was.refused.1 in
      let none = can.no_cycle tests in
      absurd (cc)
  unplannable_never TooManyEdges names was =
      let same = count_same was.invocation was.words was.source was.read in
      let over = was.refused in
      let few = can.few in
      absurd (omega (arith, same, over, few))

  pub words_never : (word : ℕ) (kind : UsageKind) → IsUsage s word kind → ⊥
  words_never word kind usage = usage_never s listable word kind usage

  pub refusal_never : (refusal : Refusal) (names : List (List ℕ)) → IsRefusal s refusal names → ⊥
  refusal_never refusal names (inl was) = unreadable_never s listable refusal was
  refusal_never refusal names (inr (inl was)) = undeclared_never refusal was
  refusal_never refusal names (inr (inr was)) = unplannable_never refusal names was

  ran_never : (P : Invocation → PlanParts → List Entry → Type 0) → ((i : Invocation) (p : PlanParts) (es : List Entry) → P i p es → ⊥) → HasRunWith s P → ⊥
  ran_never P never run = run_none s.plan s.history (RanWith s P) (λ p es was. never was.invocation p es was.holds) run

  files_fault_never : IsUnfailed s → (path : List ℕ) (status : ℕ) → AnswersRun s (FilesFault path) status → ⊥
  files_fault_never calm path status (inl fault, is) = read_fault_never s listable calm RunFailsAt path fault.0
  files_fault_never calm path status (inr run, is) = ran_never (λ i. IsUnwritten s path) (λ i p es was. calm.files was.0.1.rose) run

  run_by : (outcome : Outcome) (status : ℕ) → AnswersRun s outcome status → IsUnfailed s → (outcome ≡ Completed) ⊎ (outcome ≡ Memory)
  run_by Completed status answer calm = inl refl
  run_by Listed status answer calm = absurd answer
  run_by (Usage word kind) status answer calm = absurd (usage_never s listable word kind answer.0)
  run_by (Refused refusal) status answer calm = absurd (refusal_never refusal answer.0.names answer.0.refused)
  run_by (FilesFault path) status answer calm = absurd (files_fault_never calm path status answer)
  run_by OutputFault status answer calm =
      absurd (ran_never (λ i p es. IsCutOff p es s.sink.before s.sink.after × FilesStay s.files.before s.files.after) (λ i p es was. calm.sink (was.0.put.bytes.cause.failed refl)) answer.0)
  run_by Memory status answer calm = inr refl

  plan_by : (names : List (List ℕ)) (outcome : Outcome) → EndsUnrun s names (Err outcome) → (Rose s.files.before.faults s.files.after.faults → ⊥) → outcome ≡ Memory
  plan_by names Completed ends calm = absurd ends
  plan_by names Listed ends calm = absurd ends
  plan_by names (Usage word kind) ends calm = absurd (usage_never s listable word kind ends)
  plan_by names (Refused refusal) ends calm = absurd (refusal_never refusal names ends)
  plan_by names (FilesFault path) ends calm = absurd (calm ends.files.rose)
  plan_by names OutputFault ends calm = absurd ends
  plan_by names Memory ends calm = refl

-- where a run can be made, its plan is made
pub plan_completes : (words : List (List ℕ)) (before now : FilesTell) (names : List (List ℕ)) (outcome : Outcome) → HasNoPlan words before now names outcome → CompletesPlan words before now outcome
plan_completes words before now names outcome none sink can calm =
    plan_by (list_sides words before now sink sink) can names outcome (none sink) calm

-- a list that can be made is put
pub list_completes : (s : Sides) (outcome : Outcome) (status : ℕ) → AnswersList s outcome status → CompletesList s outcome
list_completes s outcome status answer can calm = list_by s can outcome status answer calm

-- a run that can be made is completed
pub run_completes : (s : Sides) (outcome : Outcome) (status : ℕ) → AnswersRun s outcome status → CompletesRun s outcome
run_completes s outcome status answer can calm = run_by s can outcome status answer calm

-- what the words ask for is carried out where it can be made
pub call_completes : {s : Sides} {outcome : Outcome} {status : ℕ} → Answers s outcome status → Completes s outcome
call_completes {s} {outcome} {status} answer = record {
  run = λ runs can calm. run_by s can outcome status (answer.run runs) calm;
  list = λ lists. list_completes s outcome status (answer.list lists);
}
