-- In a complete run over several trees without --stop-on-failure, the part of each tree is as meant for the tree
-- alone.
use Rattle.std.proofs.Common.{◌≡◌, ◌∙◌, sym, ap, subst, Bool, true, false, ℕ, ◌+◌, min, List, [], ◌∷◌, length, map, refl, arith, inl, inr}
use Rattle.std.specs.Prelude.{All, Option, Some, None, Result, Ok, Err, IsSomeAnd}
use Rattle.std.proofs.lemmas.List.Elements.{All-cons, All-head, All-nil, All-tail}
use Rattle.ct_base.specs.declared.defs.Pair.{Pair}
use Rattle.ct_base.specs.declared.defs.Resource.{Resource}
use Rattle.ct_base.specs.Outside.{FilesTell, Held, SinkTell}
use Rattle.ct_props.specs.declared.props.Props.{Props}
use Rattle.ct_verdict.specs.declared.attempt.Seen.{Seen}
use Rattle.ct_history.specs.declared.plan.PlanParts.{PlanParts}
use Rattle.ct_history.specs.declared.history.Entry.{Entry}
use Rattle.ct_history.specs.Legal.{IsComplete, is_legal}
use Rattle.ct_history.specs.Parts.{IsPartOfPlan, part_of, without_stop}
use Rattle.ct_history.specs.Plan.{IsSound}
use Rattle.ct_history.proofs.PartLegalLemmas.{complete_in_part, legal_in_part}
use Rattle.ct_core.specs.declared.gate.Told.{Told}
use Rattle.ct_args.specs.declared.invocation.Invocation.{Invocation}
use Rattle.ct_args.specs.Invocation.{invocation_seen}
use Rattle.ct_args.specs.declared.usage.UsageFault.{UsageFault}
use Rattle.ct_args.specs.declared.usage.UsageFault.TheVariants as Usages
use Rattle.ct_plan.specs.declared.whole.Tree.{Tree}
use Rattle.ct_plan.specs.Whole.{AreTreeParts, RunsLike}
use Rattle.ct_plan.proofs.CallerLemmas.{length-have_props}
use Rattle.ct_plan.proofs.WholeLemmas.{AreSound, whole_parts}
use Rattle.ct_app.specs.declared.outcome.Outcome.{Outcome}
use Rattle.ct_app.specs.declared.outcome.Outcome.TheVariants.{Completed, Listed, Usage, Refused, FilesFault, OutputFault, Memory}
use Rattle.ct_app.specs.Ends.{PutsFault, ReportsEnd}
use Rattle.ct_app.specs.Meant.{AreSeen}
use Rattle.ct_app.specs.MeantTold.{AllTell, seen_in_world}
use Rattle.ct_app.specs.Outcome.{outcome_of_usage}
use Rattle.ct_app.proofs.MeantLemmas.{IsRanked}
use Rattle.ct_app.proofs.MeantRunLemmas.{are_meant}
use Rattle.ct_trees.specs.declared.tree_run.RunTerms.{RunTerms}
use Rattle.ct_trees.specs.Joining.{props_of_trees}
use Rattle.ct_trees.specs.Planning.{LackPlans, LackSpec}
use Rattle.ct_trees.specs.TreeAnswers.{AnswersTrees, EndsForDirs, EndsTrees, TreesMade}
use Rattle.ct_trees.specs.TreeEnds.{EndsWithTrees}
use Rattle.ct_trees.specs.TreeMeant.{AnswersTreesAsMeant, IsTreeFor, IsTreeRun, PartIsMeant, PartsAreMeant, PartsAreRuns, RanTreesAsMeant, seen_by, told_behind}
use Rattle.ct_trees.specs.TreeReports.{rest_of}
use Rattle.ct_trees.specs.TreeRuns.{IsRunOfTrees, RunSides, RunsTrees, terms_for}
use Rattle.ct_trees.specs.TreeStops.{AreReported, TreesEnd}
use Rattle.ct_trees.specs.Trees.{AreTrees, AskForTrees, HaveTrees, IsTreeIn, plans_of}
use Rattle.ct_trees.proofs.TreeAlikeLemmas.{trees_repeat, trees_seen, trees_stop, trees_tests}
use Rattle.ct_app.proofs.MeantAnswerLemmas.{seen_entries, told_by}
use Rattle.ct_trees.proofs.TreePartLemmas.{StandBehind, own_props, part_seen, stand_first, stand_next}
use Rattle.ct_trees.proofs.TreeSummaryLemmas.{summaries_same}
use Rattle.ct_trees.proofs.WholeTreeLemmas.{trees_planned}

-- a plan that does not stop on failure is read as it is
no_stop : (plan : PlanParts) → plan.stop_on_failure ≡ false → without_stop plan ≡ plan
no_stop plan off = ap (λ (b : Bool). record plan { stop_on_failure = b }) (sym off)

sound_ranked : (plan : PlanParts) → IsSound plan → IsRanked plan
sound_ranked plan sound = record { numbers = sound.numbers; links = sound.links; times = sound.times }

all_sound : (told : Option Held) (invocation : Invocation) (lent : Option (List Resource)) (dirs : List (List ℕ)) (trees : List Tree) → AreTrees told invocation lent dirs trees → AreSound trees
all_sound told invocation lent [] [] are = All-nil (λ (tree : Tree). IsSound tree.plan)
all_sound told invocation lent [] (t ∷ ts) are = absurd are
all_sound told invocation lent (d ∷ ds) [] are = absurd are
all_sound told invocation lent (d ∷ ds) (t ∷ ts) are = All-cons (λ (tree : Tree). IsSound tree.plan) t ts are.0.sound (all_sound told invocation lent ds ts are.1)

-- a complete run of a whole plan whose trees were planned without --stop-on-failure
module _ (invocation : Invocation) (told : Option Held) (lent : Option (List Resource)) (stop_off : invocation.wanted.stop_on_failure ≡ false) (whole : PlanParts) (entries : List Entry) (legal : is_legal whole entries ≡ true) (complete : IsComplete whole entries) where
  -- the part of one of the trees
  module _ (offset : ℕ) (dir : List ℕ) (tree : Tree) (is : IsTreeIn told invocation lent dir tree) (belongs : IsPartOfPlan whole offset (length tree.defs) tree.plan) (like : RunsLike whole tree) where
    abbrev part : List Entry
    part = part_of offset (length tree.defs) entries

    off : tree.plan.stop_on_failure ≡ false
    off = is.planned.stop ∙ stop_off

    part_run : IsTreeRun tree part
    part_run = record {
      legal =
          subst (λ (p : PlanParts). is_legal p part ≡ true) (no_stop tree.plan off)
          (legal_in_part whole offset (length tree.defs) tree.plan belongs is.sound (sym like.stop ∙ off) entries legal);
      complete = subst (λ (p : PlanParts). IsComplete p part) (no_stop tree.plan off) (complete_in_part whole offset (length tree.defs) tree.plan belongs entries complete);
    }

    -- where this was seen of the tests of all trees, and these trees stand behind
    module _ (world : List Told) (all : List Props) (seen : AreSeen (seen_in_world all world) entries) (trees : List Tree) (stand : StandBehind all offset (tree ∷ trees)) where
      abbrev answers : ℕ → ℕ → Told
      answers = told_behind world offset

      paired : length tree.props ≡ length tree.defs
      paired = length-have_props tree.defs tree.props is.read.tests.have

      part_told : AreSeen (seen_by tree.props answers) part
      part_told = part_seen offset (length tree.defs) all tree.props world (own_props all offset tree trees paired stand) entries seen

      here : IsTreeFor (invocation_seen invocation) lent tree.defs tree
      here = record { invocation = invocation; asks = refl; held = told; dir = dir; is = is; defines = refl }

      one_meant : PartIsMeant (invocation_seen invocation) lent tree answers part
      one_meant = record {
        seen = part_told;
        verdicts = are_meant tree.plan (sound_ranked tree.plan is.sound) (seen_by tree.props answers) part part_run.legal part_run.complete.final part_told;
        summary = λ other fs also ran saw.
            summaries_same other.plan tree.plan (trees_tests (invocation_seen invocation) lent tree.defs other tree also here) (trees_repeat (invocation_seen invocation) lent tree.defs other tree also here) (seen_by tree.props answers) (sound_ranked other.plan also.is.sound) (sound_ranked tree.plan is.sound)
            (trees_stop (invocation_seen invocation) lent tree.defs other tree also here ∙ off) off fs part ran.legal ran.complete.final (subst (λ (f : ℕ → ℕ → Seen). AreSeen f fs) (trees_seen (invocation_seen invocation) lent tree.defs other tree also here answers) saw)
            part_run.legal part_run.complete.final part_told;
      }

      next_stand : StandBehind all (offset + length tree.defs) trees
      next_stand = stand_next all offset tree trees paired stand

  parts_run : (offset : ℕ) (folders : List (List ℕ)) (trees : List Tree) → AreTrees told invocation lent folders trees → AreTreeParts whole offset trees → All (RunsLike whole) trees → PartsAreRuns entries offset trees
  parts_run offset [] [] are parts alike = tt
  parts_run offset [] (t ∷ ts) are parts alike = absurd are
  parts_run offset (d ∷ ds) [] are parts alike = absurd are
  parts_run offset (d ∷ ds) (t ∷ ts) are parts alike = (
    part_run offset d t are.0 parts.0 (All-head (RunsLike whole) t ts alike),
    parts_run (offset + length t.defs) ds ts are.1 parts.1 (All-tail (RunsLike whole) t ts alike),
  )

  module _ (world : List Told) (all : List Props) (seen : AreSeen (seen_in_world all world) entries) where
    parts_meant : (offset : ℕ) (folders : List (List ℕ)) (trees : List Tree) → AreTrees told invocation lent folders trees → AreTreeParts whole offset trees → All (RunsLike whole) trees → StandBehind all offset trees → PartsAreMeant (invocation_seen invocation) lent world entries offset trees
    parts_meant offset [] [] are parts alike stand = tt
    parts_meant offset [] (t ∷ ts) are parts alike stand = absurd are
    parts_meant offset (d ∷ ds) [] are parts alike stand = absurd are
    parts_meant offset (d ∷ ds) (t ∷ ts) are parts alike stand =
        let like : RunsLike whole t = All-head (RunsLike whole) t ts alike in (
          one_meant offset d t are.0 parts.0 like world all seen ts stand,
          parts_meant (offset + length t.defs) ds ts are.1 parts.1 (All-tail (RunsLike whole) t ts alike) (next_stand offset d t are.0 parts.0 like world all seen ts stand),
        )

-- the trees that were read for the words ran to the end
module _ (words : List (List ℕ)) (s : RunSides) (dirs : List (List ℕ)) (invocation : Invocation) (asked : AskForTrees words dirs invocation) (run : RunTerms) (trees : List Tree) (read : HaveTrees s.files.before.held invocation dirs trees) (plans : List PlanParts) (plans_are : plans ≡ plans_of trees) (whole : PlanParts) (entries : List Entry) (ran : IsRunOfTrees (terms_for run trees whole) trees s.gates.before s.gates.after whole entries) (reported : AreReported (map rest_of trees) whole entries s.sink.before s.sink.after) where
  seen_all : (world : List Told) → AllTell world s.gates.before → AreSeen (seen_in_world (props_of_trees trees) world) entries
  seen_all world all =
      seen_entries (props_of_trees trees) world (min whole.level (length s.gates.before)) entries ran.ran.workers reported.memory
      (λ worker less. told_by (terms_for run trees whole) world entries 0 s.gates.before s.gates.after ran.ran.asked all worker (omega arith) (omega (arith, less)))

  tree_parts : AreTreeParts whole 0 trees
  tree_parts =
      whole_parts whole trees (trees_planned s.files.before.held invocation read.lent dirs trees read.are) (all_sound s.files.before.held invocation read.lent dirs trees read.are) ran.joined.alike ran.joined.tests

  ran_meant : RanTreesAsMeant words s plans whole entries
  ran_meant = record {
    dirs = dirs;
    invocation = invocation;
    asked = asked;
    trees = trees;
    read = read;
    plans_are = plans_are;
    whole_is = ran.joined;
    reported = reported;
    parts = λ off. parts_run invocation s.files.before.held read.lent off whole entries ran.ran.legal reported.complete 0 dirs trees read.are tree_parts ran.joined.alike;
    meant = λ off world all.
        parts_meant invocation s.files.before.held read.lent off whole entries ran.ran.legal reported.complete world (props_of_trees trees) (seen_all world all) 0 dirs trees read.are tree_parts ran.joined.alike (stand_first trees);
  }

-- an outcome other than Completed is not told as Completed
not_told : (names : List (List ℕ)) (outcome : Outcome) (before now : SinkTell) → (outcome ≡ Completed → ⊥) → PutsFault names outcome Completed before now → ⊥
not_told names outcome before now never (inl put) = never (sym put.0)
not_told names outcome before now never (inr short) = let is : Completed ≡ Memory = short.0 in absurd (cc)

not_completed : (names : List (List ℕ)) (outcome : Outcome) (status : ℕ) (before now : SinkTell) → (outcome ≡ Completed → ⊥) → ReportsEnd names (Err outcome) Completed status before now → ⊥
not_completed names Completed status before now never told = never refl
not_completed names Listed status before now never told = let is : Completed ≡ Listed = told.0.0 in absurd (cc)
not_completed names (Usage word kind) status before now never told = not_told names (Usage word kind) before now never told.0
not_completed names (Refused refusal) status before now never told = not_told names (Refused refusal) before now never told.0
not_completed names (FilesFault path) status before now never told = not_told names (FilesFault path) before now never told.0
not_completed names OutputFault status before now never told = let is : Completed ≡ OutputFault = told.0.0 in absurd (cc)
not_completed names Memory status before now never told = not_told names Memory before now never told.0

-- a call that is told as Completed
module _ (words : List (List ℕ)) (own : List Pair) (s : RunSides) (middle : SinkTell) (made : TreesMade) (names : List (List ℕ)) (ended : Result ℕ Outcome) (status : ℕ) (told : ReportsEnd names ended Completed status middle s.sink.after) where
  abbrev inner : RunSides
  inner = record { files = s.files; gates = s.gates; sink = record { before = s.sink.before; after = middle } }

  -- the call did not end with another outcome
  never_ended : (outcome : Outcome) → ended ≡ Err outcome → (outcome ≡ Completed → ⊥) → ⊥
  never_ended outcome is never = not_completed names outcome status middle s.sink.after never (subst (λ (e : Result ℕ Outcome). ReportsEnd names e Completed status middle s.sink.after) is told)

  usage_never : (fault : UsageFault) → ended ≡ Err (outcome_of_usage fault) → ⊥
  usage_never (Usages.At word kind) is = never_ended (Usage word kind) is (λ same. absurd (cc))
  usage_never Usages.NoMemory is = never_ended Memory is (λ same. absurd (cc))

  module _ (dirs : List (List ℕ)) (invocation : Invocation) (asked : AskForTrees words dirs invocation) where
    lack_never : (plans : List PlanParts) (place : Option ℕ) (others : List (List ℕ)) (outcome : Outcome) → LackPlans invocation dirs s.files.before s.files.after plans place others outcome → ended ≡ Err outcome → ⊥
    lack_never plans None others outcome lack is =
        never_ended outcome is (λ same. subst (λ (o : Outcome). LackSpec invocation s.files.before s.files.after o) same lack.1)
    lack_never plans (Some place) others outcome lack is =
        never_ended outcome is (λ same. subst (λ (o : Outcome). LackPlans invocation dirs s.files.before s.files.after plans (Some place) others o) same lack)

    -- the trees ran, and so to the end
    module _ (between : FilesTell) (run : RunTerms) (trees : List Tree) (read : HaveTrees s.files.before.held invocation dirs trees) (plans : List PlanParts) (plans_are : plans ≡ plans_of trees) (whole : PlanParts) (entries : List Entry) (place : Option ℕ) where
      quiet : (e : Result ℕ Outcome) → ended ≡ e → EndsWithTrees run.empty_is_error (map rest_of trees) entries between s.files.after (Ok tt) place e → middle ≡ s.sink.after
      quiet (Ok left) is leaves = sym (subst (λ (e : Result ℕ Outcome). ReportsEnd names e Completed status middle s.sink.after) is told).2
      quiet (Err outcome) is leaves =
          absurd (never_ended outcome is (λ same. absurd (subst (λ (o : Outcome). EndsWithTrees run.empty_is_error (map rest_of trees) entries between s.files.after (Ok tt) place (Err o)) same leaves)))

      by_tests : (tests : Result (Unit {0}) Outcome) → IsRunOfTrees (terms_for run trees whole) trees s.gates.before s.gates.after whole entries → TreesEnd (map rest_of trees) whole entries s.sink.before middle tests → EndsWithTrees run.empty_is_error (map rest_of trees) entries between s.files.after tests place ended → RanTreesAsMeant words s plans whole entries
      by_tests (Ok done) ran reported leaves =
          ran_meant words s dirs invocation asked run trees read plans plans_are whole entries ran
          (subst (λ (t : SinkTell). AreReported (map rest_of trees) whole entries s.sink.before t) (quiet ended refl leaves) reported)
      by_tests (Err outcome) ran ends leaves =
          absurd (never_ended outcome leaves.0 (λ same. subst (λ (o : Outcome). TreesEnd (map rest_of trees) whole entries s.sink.before middle (Err o)) same ends))

    by_plan : (between : FilesTell) (run : RunTerms) (trees : List Tree) → HaveTrees s.files.before.held invocation dirs trees → (plans : List PlanParts) (whole : Option PlanParts) (history : Option (List Entry)) (place : Option ℕ)
        → RunsTrees (record { files = record { before = between; after = s.files.after }; gates = s.gates; sink = record { before = s.sink.before; after = middle } }) run trees plans whole history place ended
        → IsSomeAnd whole (λ w. IsSomeAnd history (λ es. RanTreesAsMeant words s plans w es))
    by_plan between run trees read plans None history place runs = absurd (never_ended Memory runs.1.memory (λ same. absurd (cc)))
    by_plan between run trees read plans (Some whole) None place runs = absurd runs.1
    by_plan between run trees read plans (Some whole) (Some es) place runs =
        by_tests between run trees read plans runs.0 whole es place runs.1.tests runs.1.ran runs.1.reported runs.1.left

    by_dirs : (place : Option ℕ) → EndsForDirs dirs invocation own inner (record { tree = place; plans = made.plans; whole = made.whole; history = made.history }) names ended → IsSomeAnd made.whole (λ w. IsSomeAnd made.history (λ es. RanTreesAsMeant words s made.plans w es))
    by_dirs place (inl bad) = absurd (lack_never made.plans place names bad.outcome bad.lack bad.is)
    by_dirs place (inr call) = by_plan call.between call.run call.trees call.read made.plans made.whole made.history place call.ran

  by_ends : (place : Option ℕ) → EndsTrees words own inner (record { tree = place; plans = made.plans; whole = made.whole; history = made.history }) names ended → IsSomeAnd made.whole (λ w. IsSomeAnd made.history (λ es. RanTreesAsMeant words s made.plans w es))
  by_ends place (inl refused) = absurd (usage_never refused.fault refused.is)
  by_ends place (inr call) = by_dirs call.dirs call.invocation call.words_are place call.ends

-- a call that returns Completed had a run whose parts are as meant
pub trees_as_meant : {words : List (List ℕ)} {own : List Pair} {s : RunSides} {made : TreesMade} {outcome : Outcome} {status : ℕ} → AnswersTrees words own s made outcome status → AnswersTreesAsMeant words s made outcome
trees_as_meant {words} {own} {s} {made} {outcome} {status} answer is =
    by_ends words own s answer.middle made answer.names answer.ended status
    (subst (λ (o : Outcome). ReportsEnd answer.names answer.ended o status answer.middle s.sink.after) is answer.reported) answer.place answer.ends
