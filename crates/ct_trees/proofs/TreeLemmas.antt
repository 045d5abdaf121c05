-- What is read and planned for trees one after the other, and why some tree has no plan.
use Rattle.std.proofs.Common.{◌≡◌, sym, subst, refl, ℕ, ◌+◌, ◌≤◌, List, length, inl, inr}
use Rattle.std.specs.Prelude.{Option, Some, None, Ok, Err, IfSome}
use mathlib.Core.Path.{fun_ext}
use Rattle.ct_base.specs.declared.defs.Resource.{Resource}
use Rattle.ct_base.specs.Outside.{Becomes, FilesTell, Held, SameHeld}
use Rattle.ct_history.specs.declared.plan.PlanParts.{PlanParts}
use Rattle.ct_history.specs.Plan.{IsSound}
use Rattle.ct_graph.specs.Order.{most_edges}
use Rattle.ct_args.specs.declared.invocation.Invocation.{Invocation}
use Rattle.ct_plan.specs.declared.fault.PlanFault.{PlanFault}
use Rattle.ct_plan.specs.declared.fault.PlanFault.TheVariants as Plans
use Rattle.ct_plan.specs.PlanOf.{IsPlanAnswer}
use Rattle.ct_plan.specs.Source.{source}
use Rattle.ct_app.specs.declared.outcome.Outcome.{Outcome}
use Rattle.ct_app.specs.declared.outcome.Outcome.TheVariants.{Completed, Listed, Usage, Refused, FilesFault, OutputFault, Memory}
use Rattle.ct_app.specs.declared.outcome.Refusal.TheVariants.{Cycle, TooManyEdges}
use Rattle.ct_app.specs.declared.props.Tests.{Tests}
use Rattle.ct_app.specs.declared.run_files.RunFileFault.{RunFileFault}
use Rattle.ct_app.specs.declared.run_files.RunFileFault.TheVariants as Fault
use Rattle.ct_app.specs.Ends.{HasTests, IsUnplanned, IsUnread}
use Rattle.ct_app.specs.Outcome.{outcome_of_file}
use Rattle.ct_app.specs.RunFiles.{FilesFail, FilesStay, ReadsCosts, last_costs}
use Rattle.ct_app.proofs.ChangeLemmas.{fails_then, same_then_same}
use Rattle.ct_app.proofs.ReadLemmas.{then_stay}
use Rattle.ct_trees.specs.declared.planning.TreeFolder.{TreeFolder}
use Rattle.ct_trees.specs.Planning.{HasNoTree, HasTree, IsTreeFolder, IsUnreadTree, RefusesNumber}
use Rattle.ct_trees.specs.Trees.{IsReadTree, most_tree_tests}

-- what holds of what files hold now held of what they held before, if they stayed
pub same_told : (P : Held → Type 0) (before between : Option Held) → Becomes before between SameHeld → IfSome between P → IfSome before P
same_told P None between same holds = tt
same_told P (Some x) None same holds = absurd same
same_told P (Some x) (Some y) same holds = subst P (fun_ext same) holds

-- files that stayed, and then failed at a path, failed at it
pub then_fail : (path : List ℕ) (before between now : FilesTell) → FilesStay before between → FilesFail path SameHeld between now → FilesFail path SameHeld before now
then_fail path before between now = fails_then SameHeld SameHeld SameHeld same_then_same path before between now

-- the tests of the tree were not read
pub unread_folder : (invocation : Invocation) (before now : FilesTell) (count : ℕ) (outcome : Outcome) → IsUnread invocation before now outcome → IsUnreadTree invocation before now count outcome
unread_folder invocation before now count Completed unread = unread
unread_folder invocation before now count Listed unread = unread
unread_folder invocation before now count (Usage word kind) unread = unread
unread_folder invocation before now count (Refused refusal) unread = (inl unread.0, unread.1)
unread_folder invocation before now count (FilesFault path) unread = (inl unread.0, unread.1)
unread_folder invocation before now count OutputFault unread = unread
unread_folder invocation before now count Memory unread = unread

-- the tree has too many tests
pub overfull_folder : (invocation : Invocation) (before now : FilesTell) (count : ℕ) (tests : Tests) (outcome : Outcome) → HasTests invocation before now tests → RefusesNumber (count + length tests.defs) invocation.wanted.dir outcome → IsUnreadTree invocation before now count outcome
overfull_folder invocation before now count tests outcome read (inl over) =
    subst (λ (o : Outcome). IsUnreadTree invocation before now count o) (sym over.1)
    (inr (record { defs = tests.defs; props = tests.props; read = read.read; over = over.0; refused = refl }), read.files)
overfull_folder invocation before now count tests outcome read (inr memory) =
    subst (λ (o : Outcome). IsUnreadTree invocation before now count o) (sym memory) read.files

-- the cost data of the tree was not read
pub uncosted_folder : (invocation : Invocation) (before between now : FilesTell) (count : ℕ) (tests : Tests) (fault : RunFileFault) (outcome : Outcome) → HasTests invocation before between tests → count + length tests.defs ≤ most_tree_tests → outcome ≡ outcome_of_file fault → ReadsCosts invocation.wanted.dir between now (Err fault) → IsUnreadTree invocation before now count outcome
uncosted_folder invocation before between now count tests (Fault.Failed path) outcome read few is fails =
    subst (λ (o : Outcome). IsUnreadTree invocation before now count o) (sym is) (inr ((tests.defs, tests.props, read.read, few), fails.0), then_fail path before between now read.files fails.1)
uncosted_folder invocation before between now count tests Fault.NoMemory outcome read few is stays =
    subst (λ (o : Outcome). IsUnreadTree invocation before now count o) (sym is) (then_stay before between now read.files stays)

-- the tests and the cost data of the tree were read
pub has_folder : (invocation : Invocation) (before between now : FilesTell) (count : ℕ) (folder : TreeFolder) → HasTests invocation before between folder.tests → count + length folder.tests.defs ≤ most_tree_tests → ReadsCosts invocation.wanted.dir between now (Ok folder.costs) → IsTreeFolder invocation before now count folder
has_folder invocation before between now count folder read few costs = record {
  read = record { read = read.read; few = read.few; files = then_stay before between now read.files costs.1 };
  few = few;
  last = same_told (λ (held : Held). folder.costs ≡ last_costs invocation.wanted.dir held) before.held between.held read.files.held costs.0;
}

-- where the folder of a tree was not read, the tree has no plan
pub unread_tree : (invocation : Invocation) (lent : Option (List Resource)) (before now : FilesTell) (count : ℕ) (names : List (List ℕ)) (outcome : Outcome) → IsUnreadTree invocation before now count outcome → HasNoTree invocation lent before now count names outcome
unread_tree invocation lent before now count names Completed unread = unread
unread_tree invocation lent before now count names Listed unread = unread
unread_tree invocation lent before now count names (Usage word kind) unread = unread
unread_tree invocation lent before now count names (Refused refusal) unread = (inl unread.0, unread.1)
unread_tree invocation lent before now count names (FilesFault path) unread = unread
unread_tree invocation lent before now count names OutputFault unread = unread
unread_tree invocation lent before now count names Memory unread = unread

-- what was read for a tree
read_tree : (invocation : Invocation) (before now : FilesTell) (count : ℕ) (folder : TreeFolder) → IsTreeFolder invocation before now count folder → IsReadTree before.held invocation invocation.wanted.dir folder.tests.defs folder.tests.props folder.costs
read_tree invocation before now count folder read = record { tests = read.read.read; last = read.last }

module _ (invocation : Invocation) (lent : Option (List Resource)) (before now : FilesTell) (count : ℕ) (folder : TreeFolder) (read : IsTreeFolder invocation before now count folder) where
  -- the tree has a plan
  pub planned_tree : (plan : PlanParts) → IsSound plan → IsPlanAnswer most_edges (source folder.tests.defs folder.tests.props invocation.wanted lent folder.costs) (Ok plan) → HasTree invocation lent before now count (record { defs = folder.tests.defs; props = folder.tests.props; costs = folder.costs; plan = plan })
  planned_tree plan sound answer = record {
    is = record { read = read_tree invocation before now count folder read; few = answer.0; planned = answer.1; sound = sound };
    few = read.few;
    files = read.read.files;
  }

  -- the tree has no plan
  pub unplanned_tree : (fault : PlanFault) (names : List (List ℕ)) (outcome : Outcome) → IsPlanAnswer most_edges (source folder.tests.defs folder.tests.props invocation.wanted lent folder.costs) (Err fault) → IsUnplanned folder.tests.defs fault names (Err outcome) → HasNoTree invocation lent before now count names outcome
  unplanned_tree (Plans.Cycle tests) names outcome answer (inl why) =
      let is : outcome ≡ Refused (Cycle tests) = cc in
      subst (λ (o : Outcome). HasNoTree invocation lent before now count names o) (sym is)
      (inr (record { defs = folder.tests.defs; props = folder.tests.props; costs = folder.costs; read = read_tree invocation before now count folder read; few = read.few; refused = (answer.0, answer.1, why.1) }), read.read.files)
  unplanned_tree (Plans.Cycle tests) names outcome answer (inr why) =
      let is : outcome ≡ Memory = cc in
      subst (λ (o : Outcome). HasNoTree invocation lent before now count names o) (sym is) read.read.files
  unplanned_tree Plans.TooManyEdges names outcome answer why =
      let is : outcome ≡ Refused TooManyEdges = cc in
      subst (λ (o : Outcome). HasNoTree invocation lent before now count names o) (sym is)
      (inr (record { defs = folder.tests.defs; props = folder.tests.props; costs = folder.costs; read = read_tree invocation before now count folder read; few = read.few; refused = answer }), read.read.files)
  unplanned_tree Plans.NoMemory names outcome answer why =
      let is : outcome ≡ Memory = cc in
      subst (λ (o : Outcome). HasNoTree invocation lent before now count names o) (sym is) read.read.files
