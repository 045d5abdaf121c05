-- What is read for a run or a list, and why it was not read.
use Rattle.std.proofs.Common.{◌≡◌, ◌∙◌, sym, ap, subst, Bool, true, false, ℕ, List, inl, inr}
use Rattle.std.specs.Prelude.{Option, Some, None, Result, Ok, Err, IfSome}
use Rattle.ct_base.specs.declared.defs.Resource.{Resource}
use Rattle.ct_base.specs.declared.defs.TestDef.{TestDef}
use Rattle.ct_base.specs.Outside.{Becomes, FilesTell, Held, SameHeld}
use Rattle.ct_testfile.specs.Asks.{TreeAsks}
use Rattle.ct_testfile.specs.Says.{HasFilesCause, IfFilesFailed, IsRefusalOf}
use Rattle.ct_testfile.specs.Tree.{tree_of}
use Rattle.ct_testfile.specs.declared.fault.ReadFault.{ReadFault}
use Rattle.ct_testfile.specs.declared.fault.ReadFault.TheVariants as Read
use Rattle.ct_cost.specs.declared.cost_data.CostData.{CostData}
use Rattle.ct_args.specs.declared.invocation.Invocation.{Invocation}
use Rattle.ct_app.specs.declared.outcome.Outcome.{Outcome}
use Rattle.ct_app.specs.declared.outcome.Outcome.TheVariants.{Completed, Listed, Usage, Refused, FilesFault, OutputFault, Memory}
use Rattle.ct_app.specs.declared.outcome.Refusal.{Refusal}
use Rattle.ct_app.specs.declared.outcome.Refusal.TheVariants.{TestFile, Prop, Spec, Cycle, TooManyEdges}
use Rattle.ct_app.specs.declared.run_files.RunFileFault.{RunFileFault}
use Rattle.ct_app.specs.declared.run_files.RunFileFault.TheVariants as Fault
use Rattle.ct_app.specs.declared.outcome.SpecRefusal.{SpecRefusal}
use Rattle.ct_app.specs.declared.props.Tests.{Tests}
use Rattle.ct_app.specs.declared.spec_file.SpecFileFault.{SpecFileFault}
use Rattle.ct_app.specs.declared.spec_file.SpecFileFault.TheVariants as Named
use Rattle.ct_app.specs.Ends.{AreReadInputs, HasTests, IsReadFolder, IsReadList, IsUnread, IsUnreadFolder, IsUnreadList}
use Rattle.ct_app.specs.Outcome.{outcome_of, outcome_of_file, outcome_of_spec}
use Rattle.ct_app.specs.Reading.{AreTestsRead, InputsFailAt, RefusesSpec}
use Rattle.ct_app.specs.Rerun.{AreOnly, ReadsOnly, last_failed, names_in_text}
use Rattle.ct_app.specs.RunFiles.{FilesStay, ReadsCosts, costs_of, costs_path, last_costs, log_path}
use Rattle.ct_app.specs.SpecFile.{AreLent, ReadsSpec, RefusesFile, declared_in}
use Rattle.ct_app.specs.Steps.{AreUnreadInputs}
use Rattle.ct_app.specs.Tests.{RefusesTests}
use Rattle.ct_app.proofs.ChangeLemmas.{fails_then, same_then_same, serves_then}

-- the tree of test files was not read
pub unread_tree : (invocation : Invocation) (before now : FilesTell) (fault : ReadFault) (outcome : Outcome) → outcome ≡ outcome_of fault → IfSome before.held (λ held. IsRefusalOf (tree_of held invocation.wanted.dir invocation.config) fault) → IfSome before.held (λ held. IfFilesFailed fault (TreeAsks held invocation.wanted.dir invocation.config)) → HasFilesCause {A = List TestDef} before now (Err fault) → Becomes before.held now.held SameHeld → IsUnread invocation before now outcome
unread_tree invocation before now (Read.At file line kind) outcome is refused asks cause kept =
    subst (λ (o : Outcome). IsUnread invocation before now o) (sym is) (refused, record { held = kept; unrefused = cause.unrefused; unfailed = cause.unfailed })
unread_tree invocation before now (Read.FilesFailed path) outcome is refused asks cause kept =
    subst (λ (o : Outcome). IsUnread invocation before now o) (sym is) (asks, record { held = kept; told = cause.told; last = cause.failed.last; rose = cause.failed.rose })
unread_tree invocation before now Read.NoMemory outcome is refused asks cause kept =
    subst (λ (o : Outcome). IsUnread invocation before now o) (sym is) (record { held = kept; unrefused = cause.unrefused; unfailed = cause.unfailed })

-- a property of one of the tests that were read is refused
pub unread_props : (invocation : Invocation) (before now : FilesTell) (defs : List TestDef) (outcome : Outcome) → RefusesTests defs outcome → IfSome before.held (λ held. tree_of held invocation.wanted.dir invocation.config ≡ Ok defs) → FilesStay before now → IsUnread invocation before now outcome
unread_props invocation before now defs Completed refused read stay = absurd refused
unread_props invocation before now defs Listed refused read stay = absurd refused
unread_props invocation before now defs (Usage word kind) refused read stay = absurd refused
unread_props invocation before now defs (Refused (TestFile file line kind)) refused read stay = absurd refused
unread_props invocation before now defs (Refused (Prop test key kind)) refused read stay = ((defs, read, refused), stay)
unread_props invocation before now defs (Refused (Spec why)) refused read stay = absurd refused
unread_props invocation before now defs (Refused (Cycle tests)) refused read stay = absurd refused
unread_props invocation before now defs (Refused TooManyEdges) refused read stay = absurd refused
unread_props invocation before now defs (FilesFault path) refused read stay = absurd refused
unread_props invocation before now defs OutputFault refused read stay = absurd refused
unread_props invocation before now defs Memory refused read stay = stay

-- the cost data of the last run, read after the files stayed, is the cost data of the last run before too
same_last : (dir : List ℕ) (costs : CostData) (before between : Option Held) → Becomes before between SameHeld → IfSome between (λ held. costs ≡ last_costs dir held) → IfSome before (λ held. costs ≡ last_costs dir held)
same_last dir costs None between same read = tt
same_last dir costs (Some x) None same read = absurd same
same_last dir costs (Some x) (Some y) same read = read ∙ ap costs_of (same (costs_path dir))

same_log : (dir : List ℕ) (names : List (List ℕ)) (before between : Option Held) → Becomes before between SameHeld → IfSome between (λ held. names ≡ last_failed dir held) → IfSome before (λ held. names ≡ last_failed dir held)
same_log dir names None between same read = tt
same_log dir names (Some x) None same read = absurd same
same_log dir names (Some x) (Some y) same read = read ∙ ap names_in_text (same (log_path dir))

same_only : (rerun : Bool) (dir : List ℕ) (only : Option (List (List ℕ))) (before between : Option Held) → Becomes before between SameHeld → AreOnly between rerun dir only → AreOnly before rerun dir only
same_only false dir only before between same is = is
same_only true dir None before between same is = absurd is
same_only true dir (Some names) before between same is = same_log dir names before between same is

same_declared : (path : List ℕ) (result : Result (List Resource) SpecRefusal) (before between : Option Held) → Becomes before between SameHeld → IfSome between (λ held. declared_in (held path) ≡ result) → IfSome before (λ held. declared_in (held path) ≡ result)
same_declared path result None between same read = tt
same_declared path result (Some x) None same read = absurd same
same_declared path result (Some x) (Some y) same read = sym (ap declared_in (same path)) ∙ read

same_lent : (file : Option (List ℕ)) (lent : Option (List Resource)) (before between : Option Held) → Becomes before between SameHeld → AreLent between file lent → AreLent before file lent
same_lent None lent before between same is = is
same_lent (Some path) None before between same is = absurd is
same_lent (Some path) (Some resources) before between same is = same_declared path (Ok resources) before between same is

same_refused : (file : Option (List ℕ)) (why : SpecRefusal) (before between : Option Held) → Becomes before between SameHeld → RefusesFile between file why → RefusesFile before file why
same_refused None why before between same is = absurd is
same_refused (Some path) why before between same is = same_declared path (Err why) before between same is

-- files that stayed twice, one after the other, stayed
pub then_stay : (before between now : FilesTell) → FilesStay before between → FilesStay between now → FilesStay before now
then_stay before between now = serves_then SameHeld SameHeld SameHeld same_then_same before between now

-- what a plan needs beside the tests, read in three steps
module _ (invocation : Invocation) (before : FilesTell) where
  pub read_inputs : (behind beyond now : FilesTell) (lent : Option (List Resource)) (costs : CostData) (only : Option (List (List ℕ))) → ReadsSpec invocation.spec_file before behind (Ok lent) → ReadsCosts invocation.wanted.dir behind beyond (Ok costs) → ReadsOnly invocation.rerun invocation.wanted.dir beyond now (Ok only) → AreReadInputs invocation before now lent costs only
  read_inputs behind beyond now lent costs only named last log =
      let stays = then_stay before behind beyond named.1 last.1 in
      record {
        lent = named.0;
        last = same_last invocation.wanted.dir costs before.held behind.held named.1.held last.0;
        limits = same_only invocation.rerun invocation.wanted.dir only before.held beyond.held stays.held log.0;
        files = then_stay before beyond now stays log.1;
      }

  -- the specification was not read
  pub unread_spec : (now : FilesTell) (fault : SpecFileFault) (outcome : Outcome) → outcome ≡ outcome_of_spec fault → ReadsSpec invocation.spec_file before now (Err fault) → AreUnreadInputs invocation before now outcome
  unread_spec now (Named.Refused why) outcome is refused = subst (λ (o : Outcome). AreUnreadInputs invocation before now o) (sym is) refused
  unread_spec now (Named.Failed path) outcome is fails = subst (λ (o : Outcome). AreUnreadInputs invocation before now o) (sym is) (inl fails.0, fails.1)
  unread_spec now Named.NoMemory outcome is stays = subst (λ (o : Outcome). AreUnreadInputs invocation before now o) (sym is) stays

  -- the cost data was not read
  pub unread_costs : (behind now : FilesTell) (lent : Option (List Resource)) (fault : RunFileFault) (outcome : Outcome) → outcome ≡ outcome_of_file fault → ReadsSpec invocation.spec_file before behind (Ok lent) → ReadsCosts invocation.wanted.dir behind now (Err fault) → AreUnreadInputs invocation before now outcome
  unread_costs behind now lent (Fault.Failed path) outcome is named fails =
      subst (λ (o : Outcome). AreUnreadInputs invocation before now o) (sym is) (inr ((lent, named.0), inl fails.0), fails_then SameHeld SameHeld SameHeld same_then_same path before behind now named.1 fails.1)
  unread_costs behind now lent Fault.NoMemory outcome is named stays =
      subst (λ (o : Outcome). AreUnreadInputs invocation before now o) (sym is) (then_stay before behind now named.1 stays)

  -- the log was not read
  pub unread_log : (behind beyond now : FilesTell) (lent : Option (List Resource)) (costs : CostData) (fault : RunFileFault) (outcome : Outcome) → outcome ≡ outcome_of_file fault → ReadsSpec invocation.spec_file before behind (Ok lent) → ReadsCosts invocation.wanted.dir behind beyond (Ok costs) → ReadsOnly invocation.rerun invocation.wanted.dir beyond now (Err fault) → AreUnreadInputs invocation before now outcome
  unread_log behind beyond now lent costs (Fault.Failed path) outcome is named last fails =
      subst (λ (o : Outcome). AreUnreadInputs invocation before now o) (sym is)
      (inr ((lent, named.0), inr (fails.0, fails.1)), fails_then SameHeld SameHeld SameHeld same_then_same path before beyond now (then_stay before behind beyond named.1 last.1) fails.2)
  unread_log behind beyond now lent costs Fault.NoMemory outcome is named last stays =
      subst (λ (o : Outcome). AreUnreadInputs invocation before now o) (sym is) (then_stay before beyond now (then_stay before behind beyond named.1 last.1) stays)

-- the tests of a folder were read
module _ (invocation : Invocation) (before between : FilesTell) (tests : Tests) (read : HasTests invocation before between tests) where
  pub read_folder : (now : FilesTell) (lent : Option (List Resource)) (costs : CostData) (only : Option (List (List ℕ))) → AreReadInputs invocation between now lent costs only → IsReadFolder invocation before now tests lent costs only
  read_folder now lent costs only beside = record {
    read = record { read = read.read; few = read.few; files = then_stay before between now read.files beside.files };
    inputs = record {
      lent = same_lent invocation.spec_file lent before.held between.held read.files.held beside.lent;
      last = same_last invocation.wanted.dir costs before.held between.held read.files.held beside.last;
      limits = same_only invocation.rerun invocation.wanted.dir only before.held between.held read.files.held beside.limits;
      files = then_stay before between now read.files beside.files;
    };
  }

  -- all that a list needs was read
  pub read_listed : (now : FilesTell) (only : Option (List (List ℕ))) → ReadsOnly invocation.rerun invocation.wanted.dir between now (Ok only) → IsReadList invocation before now tests only
  read_listed now only log = record {
    read = record { read = read.read; few = read.few; files = then_stay before between now read.files log.1 };
    limits = same_only invocation.rerun invocation.wanted.dir only before.held between.held read.files.held log.0;
  }

  are_read : AreTestsRead before.held invocation
  are_read = (tests.defs, tests.props, read.read)

  -- the log was not read, so what the list needs was not
  pub unread_only : (now : FilesTell) (fault : RunFileFault) (outcome : Outcome) → outcome ≡ outcome_of_file fault → ReadsOnly invocation.rerun invocation.wanted.dir between now (Err fault) → IsUnreadList invocation before now outcome
  unread_only now (Fault.Failed path) outcome is fails =
      subst (λ (o : Outcome). IsUnreadList invocation before now o) (sym is) (inr (are_read, fails.0, fails.1), fails_then SameHeld SameHeld SameHeld same_then_same path before between now read.files fails.2)
  unread_only now Fault.NoMemory outcome is stays =
      subst (λ (o : Outcome). IsUnreadList invocation before now o) (sym is) (then_stay before between now read.files stays)

  same_spec_refused : (refusal : Refusal) → RefusesSpec between.held invocation refusal → RefusesSpec before.held invocation refusal
  same_spec_refused (TestFile file line kind) refused = absurd refused
  same_spec_refused (Prop test key kind) refused = absurd refused
  same_spec_refused (Spec why) refused = same_refused invocation.spec_file why before.held between.held read.files.held refused
  same_spec_refused (Cycle tests) refused = absurd refused
  same_spec_refused TooManyEdges refused = absurd refused

  same_inputs : (path : List ℕ) → InputsFailAt between.held invocation path → InputsFailAt before.held invocation path
  same_inputs path (inl named) = inl named
  same_inputs path (inr behind) = inr ((behind.0.0, same_lent invocation.spec_file behind.0.0 before.held between.held read.files.held behind.0.1), behind.1)

  -- what a plan needs beside the tests was not read, so the folder was not, for the same reason
  pub unread_inputs : (now : FilesTell) (outcome : Outcome) → AreUnreadInputs invocation between now outcome → IsUnreadFolder invocation before now outcome
  unread_inputs now Completed unread = absurd unread
  unread_inputs now Listed unread = absurd unread
  unread_inputs now (Usage word kind) unread = absurd unread
  unread_inputs now (Refused refusal) unread =
      inr (record { tests = tests; read = read.read; refused = same_spec_refused refusal unread.0; files = then_stay before between now read.files unread.1 })
  unread_inputs now (FilesFault path) unread =
      (inr (are_read, same_inputs path unread.0), fails_then SameHeld SameHeld SameHeld same_then_same path before between now read.files unread.1)
  unread_inputs now OutputFault unread = absurd unread
  unread_inputs now Memory unread = then_stay before between now read.files unread

-- where the tests of a list were not read, what it needs was not read, for the same reason
pub unread_listed : (invocation : Invocation) (before now : FilesTell) (outcome : Outcome) → IsUnread invocation before now outcome → IsUnreadList invocation before now outcome
unread_listed invocation before now Completed unread = unread
unread_listed invocation before now Listed unread = unread
unread_listed invocation before now (Usage word kind) unread = unread
unread_listed invocation before now (Refused refusal) unread = unread
unread_listed invocation before now (FilesFault path) unread = (inl unread.0, unread.1)
unread_listed invocation before now OutputFault unread = unread
unread_listed invocation before now Memory unread = unread

-- where the tests of a folder were not read, the folder was not read, for the same reason
pub unread_tests : (invocation : Invocation) (before now : FilesTell) (outcome : Outcome) → IsUnread invocation before now outcome → IsUnreadFolder invocation before now outcome
unread_tests invocation before now Completed unread = unread
unread_tests invocation before now Listed unread = unread
unread_tests invocation before now (Usage word kind) unread = unread
unread_tests invocation before now (Refused refusal) unread = inl unread
unread_tests invocation before now (FilesFault path) unread = (inl unread.0, unread.1)
unread_tests invocation before now OutputFault unread = unread
unread_tests invocation before now Memory unread = unread
