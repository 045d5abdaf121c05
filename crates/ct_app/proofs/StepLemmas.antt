-- What the steps of a run did, put together from their parts.
use Rattle.std.proofs.Common.{◌≡◌, ◌∙◌, sym, subst, Bool, true, false, ℕ, List, [], ◌∷◌, length, refl, arith}
use Rattle.std.specs.Prelude.{Option, Result, Ok, Err, IfOk, IfErr, ◌==◌}
use Rattle.std.proofs.lemmas.Bool.{ne_eqb}
use Rattle.ct_base.specs.declared.defs.Resource.{Resource}
use Rattle.ct_base.specs.Outside.{FilesTell, Writes}
use Rattle.ct_history.specs.declared.plan.PlanParts.{PlanParts}
use Rattle.ct_history.specs.declared.history.Entry.{Entry}
use Rattle.ct_history.specs.Legal.{has_failing}
use Rattle.ct_cost.specs.declared.cost_data.CostData.{CostData}
use Rattle.ct_cost.specs.After.{failed_log_text}
use Rattle.ct_graph.specs.Order.{most_edges}
use Rattle.ct_args.specs.declared.invocation.Invocation.{Invocation}
use Rattle.ct_plan.specs.PlanOf.{IsPlanAnswer}
use Rattle.ct_plan.specs.Source.{source}
use Rattle.ct_app.specs.declared.planning.PlannedFolder.{PlannedFolder}
use Rattle.ct_app.specs.declared.planning.Unplanned.{Unplanned}
use Rattle.ct_app.specs.declared.props.Tests.{Tests}
use Rattle.ct_app.specs.declared.run_files.RunFileFault.{RunFileFault}
use Rattle.ct_app.specs.Ends.{IsReadFolder}
use Rattle.ct_app.specs.Planning.{IsPlannedFolder, IsUnplannedFolder}
use Rattle.ct_app.specs.Rerun.{wanted_of}
use Rattle.ct_app.specs.RunFiles.{FilesServe, Leaves, WritesFiles, WritesText, costs_path, done_of, log_path, new_costs}
use Rattle.ct_app.specs.Steps.{IsUnplannedSource, WritesLog}
use Rattle.ct_app.proofs.LeaveLemmas.{unplanned_unrun}
use Rattle.ct_app.proofs.RunFilesLemmas.{due_log, leaves_costs, no_due_log, writes_log}

-- a folder was read, and this is the answer of the plan of its tests
module _ (invocation : Invocation) (before now : FilesTell) (tests : Tests) (lent : Option (List Resource)) (costs : CostData) (only : Option (List (List ℕ))) (read : IsReadFolder invocation before now tests lent costs only) where
  pub planned_folder : (result : Result PlannedFolder Unplanned) → IfOk result (λ planned. planned ≡ record { tests = tests; costs = costs; plan = planned.plan }) → IfOk result (λ planned. IsPlanAnswer most_edges (source tests.defs tests.props (wanted_of invocation only) lent costs) (Ok planned.plan)) → IfOk result (λ planned. IsPlannedFolder invocation before now planned.tests planned.costs planned.plan)
  planned_folder (Ok planned) kept answer =
      subst (λ (p : PlannedFolder). IsPlannedFolder invocation before now p.tests p.costs p.plan) (sym kept) (record { resources = lent; only = only; read = read; answer = answer })
  planned_folder (Err bad) kept answer = tt

  pub unplanned_folder : (result : Result PlannedFolder Unplanned) → IfErr result (λ bad. IsUnplannedSource (source tests.defs tests.props (wanted_of invocation only) lent costs) bad.names bad.outcome) → IfErr result (λ bad. IsUnplannedFolder invocation before now bad.names bad.outcome)
  unplanned_folder (Ok planned) lacks = tt
  unplanned_folder (Err bad) lacks = λ words env gates sink asked. unplanned_unrun words env invocation asked before now now tests lent costs only read gates sink bad.names (Err bad.outcome) lacks.0 lacks.1 lacks.2

-- a text with a byte is not empty
some_bytes : (byte : ℕ) (bytes : List ℕ) → (length (byte ∷ bytes) == 0) ≡ false
some_bytes byte bytes = ne_eqb (length (byte ∷ bytes)) 0 (λ none. omega (arith, none))

-- a log that names no test is not written
pub log_spared : (dir log : List ℕ) (files : FilesTell) → (length log == 0) ≡ true → WritesLog dir log files files (Ok false)
log_spared dir [] files none = (refl, refl)
log_spared dir (byte ∷ bytes) files none = absurd (let no : true ≡ false = sym none ∙ some_bytes byte bytes in cc)

-- a log that names a test was written, or was not for a fault
pub log_written : (dir log : List ℕ) (before now : FilesTell) → (length log == 0) ≡ false → WritesText (log_path dir) log before now (Ok tt) → WritesLog dir log before now (Ok true)
log_written dir [] before now none wrote = absurd (let no : true ≡ false = none in cc)
log_written dir (byte ∷ bytes) before now many wrote = (refl, wrote)

pub log_unwritten : (dir log : List ℕ) (before now : FilesTell) (fault : RunFileFault) → (length log == 0) ≡ false → WritesText (log_path dir) log before now (Err fault) → WritesLog dir log before now (Err fault)
log_unwritten dir [] before now fault none failed = absurd (let no : true ≡ false = none in cc)
log_unwritten dir (byte ∷ bytes) before now fault many failed = failed

-- the cost file was written, and then the log, if it names a test; the result tells whether a test failed
module _ (plan : PlanParts) (entries : List Entry) (costs : CostData) (some : (length plan.tests == 0) ≡ false) where
  pub writes_both : (log : List ℕ) (before between now : FilesTell) (result : Result Bool RunFileFault) → log ≡ failed_log_text plan entries → FilesServe (Writes (costs_path plan.dir) (new_costs plan entries costs)) before between → WritesLog plan.dir log between now result → WritesFiles plan entries costs before now (done_of result) × IfOk result (λ failed. failed ≡ has_failing plan entries)
  writes_both [] before between now result is first spared =
      let passed = no_due_log plan entries [] is refl in
      let left : FilesServe (Leaves plan entries costs) before now = subst (λ (f : FilesTell). FilesServe (Leaves plan entries costs) before f) (sym spared.1) (leaves_costs plan entries costs some before between passed first) in
      subst (λ (r : Result Bool RunFileFault). WritesFiles plan entries costs before now (done_of r) × IfOk r (λ failed. failed ≡ has_failing plan entries)) (sym spared.0) (left, sym passed)
  writes_both (byte ∷ bytes) before between now (Ok logged) is first wrote =
      let failed = due_log plan entries (byte ∷ bytes) is (some_bytes byte bytes) in
      (writes_log plan entries costs some failed before between now (Ok tt) first (subst (λ (l : List ℕ). WritesText (log_path plan.dir) l between now (Ok tt)) is wrote.1), wrote.0 ∙ sym failed)
  writes_both (byte ∷ bytes) before between now (Err fault) is first failed =
      (writes_log plan entries costs some (due_log plan entries (byte ∷ bytes) is (some_bytes byte bytes)) before between now (Err fault) first (subst (λ (l : List ℕ). WritesText (log_path plan.dir) l between now (Err fault)) is failed), tt)
