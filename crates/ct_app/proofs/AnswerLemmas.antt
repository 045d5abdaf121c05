-- The answer of a run, from how the run ended and the line that was put for it.
use Rattle.std.proofs.Common.{◌≡◌, sym, subst, ℕ, List, [], ◌∷◌, refl, inl, inr}
use Rattle.std.specs.Prelude.{Option, Some, None, IsSomeAnd, Result, Ok, Err}
use Rattle.ct_base.specs.declared.defs.Pair.{Pair}
use Rattle.ct_base.specs.declared.sink.SinkFault.TheVariants as Sinks
use Rattle.ct_base.specs.Outside.{FilesTell, SinkTell}
use Rattle.ct_history.specs.declared.plan.PlanParts.{PlanParts}
use Rattle.ct_history.specs.declared.history.Entry.{Entry}
use Rattle.ct_core.specs.Gate.{GateTell}
use Rattle.ct_args.specs.declared.invocation.Invocation.{Invocation}
use Rattle.ct_plan.specs.Source.{Source}
use Rattle.ct_report.specs.PutLines.{PutsLines}
use Rattle.ct_app.specs.declared.outcome.Outcome.{Outcome}
use Rattle.ct_app.specs.declared.outcome.Outcome.TheVariants.{Completed, Listed, Usage, Refused, FilesFault, OutputFault, Memory}
use Rattle.ct_app.specs.declared.outcome.Refusal.{Refusal}
use Rattle.ct_app.specs.Calls.{IsReadFault, IsUnrun, IsUsage, PutsOrFails, Tries, sides}
use Rattle.ct_app.specs.Reading.{RunFailsAt}
use Rattle.ct_app.specs.Runs.{AnswersRun, HasRunWith, IsCompleted, IsCutOff, IsRefusal, IsReported, IsRun, IsShort, IsShortRun, IsUnwritten, RanWith}
use Rattle.ct_app.specs.Ends.{Ends, RunLeaves, ReportsEnd, PutsFault}
use Rattle.ct_app.specs.Outcome.{fault_line, fault_status}
use Rattle.ct_app.specs.RunFiles.{FilesStay}

-- a fact of a plan and a history that are there leads to each fact that follows from it
run_map : (plan : Option PlanParts) (history : Option (List Entry)) (P Q : PlanParts → List Entry → Type 0) → ((p : PlanParts) (es : List Entry) → P p es → Q p es) → IsSomeAnd plan (λ p. IsSomeAnd history (λ es. P p es)) → IsSomeAnd plan (λ p. IsSomeAnd history (λ es. Q p es))
run_map None history P Q each some = some
run_map (Some p) None P Q each some = some
run_map (Some p) (Some es) P Q each some = each p es some

pub run_none : (plan : Option PlanParts) (history : Option (List Entry)) (P : PlanParts → List Entry → Type 0) → ((p : PlanParts) (es : List Entry) → P p es → ⊥) → IsSomeAnd plan (λ p. IsSomeAnd history (λ es. P p es)) → ⊥
run_none None history P never some = some
run_none (Some p) None P never some = some
run_none (Some p) (Some es) P never some = never p es some

pub tried : (line : List ℕ) (before now : SinkTell) → PutsOrFails line before now → Tries line before now
tried line before now (inl put) = (Ok tt, put)
tried line before now (inr put) = (Err Sinks.Failed, put)

-- the values of a call, before and after the line of its outcome
module _ (words : List (List ℕ)) (env : List Pair) (files files_now : FilesTell) (gates gates_now : List GateTell) (sink mid now : SinkTell) (plan : Option PlanParts) (history : Option (List Entry)) (names : List (List ℕ)) where
  unrun_late : IsUnrun (sides words env files files_now gates gates_now sink mid plan history) → IsUnrun (sides words env files files_now gates gates_now sink now plan history)
  unrun_late unrun = record { no_plan = unrun.no_plan; no_history = unrun.no_history; unasked = unrun.unasked }

  run_late : (invocation : Invocation) (source : Source) (p : PlanParts) (es : List Entry) → IsRun (sides words env files files_now gates gates_now sink mid plan history) invocation source p es → IsRun (sides words env files files_now gates gates_now sink now plan history) invocation source p es
  run_late invocation source p es run = record {
    words = run.words;
    read = run.read;
    ran = run.ran;
  }

  ran_late : (P Q : Invocation → PlanParts → List Entry → Type 0) → ((i : Invocation) (p : PlanParts) (es : List Entry) → P i p es → Q i p es) → HasRunWith (sides words env files files_now gates gates_now sink mid plan history) P → HasRunWith (sides words env files files_now gates gates_now sink now plan history) Q
  ran_late P Q each run =
      run_map plan history (RanWith (sides words env files files_now gates gates_now sink mid plan history) P) (RanWith (sides words env files files_now gates gates_now sink now plan history) Q)
      (λ p es was. record { invocation = was.invocation; source = was.source; run = run_late was.invocation was.source p es was.run; holds = each was.invocation p es was.holds }) run

  none_ran : (P : Invocation → PlanParts → List Entry → Type 0) → ((i : Invocation) (p : PlanParts) (es : List Entry) → P i p es → ⊥) → HasRunWith (sides words env files files_now gates gates_now sink mid plan history) P → ⊥
  none_ran P never run = run_none plan history (RanWith (sides words env files files_now gates gates_now sink mid plan history) P) (λ p es was. never was.invocation p es was.holds) run

  at : (o outcome : Outcome) (status : ℕ) → outcome ≡ o → status ≡ fault_status outcome → AnswersRun (sides words env files files_now gates gates_now sink now plan history) o (fault_status o) → AnswersRun (sides words env files files_now gates gates_now sink now plan history) outcome status
  at o outcome status is status_is answer =
      subst (λ (n : ℕ). AnswersRun (sides words env files files_now gates gates_now sink now plan history) outcome n) (sym status_is) (subst (λ (x : Outcome). AnswersRun (sides words env files files_now gates gates_now sink now plan history) x (fault_status x)) (sym is) answer)

  -- an outcome whose line is put at once, without a report before it
  line_told : (line : List ℕ) (o outcome : Outcome) (status : ℕ) → line ≡ fault_line names o → mid ≡ sink → PutsFault names o outcome mid now → status ≡ fault_status outcome → (PutsOrFails line sink now → AnswersRun (sides words env files files_now gates gates_now sink now plan history) o (fault_status o)) → (PutsLines (line ∷ []) sink now (Err Sinks.NoMemory) → IsShort (sides words env files files_now gates gates_now sink now plan history) o) → AnswersRun (sides words env files files_now gates gates_now sink now plan history) outcome status
  line_told line o outcome status line_is unput (inl (is, puts)) status_is answers short = at o outcome status is status_is (answers (subst (λ (l : List ℕ). PutsOrFails l sink now) (sym line_is) (subst (λ (t : SinkTell). PutsOrFails (fault_line names o) t now) unput puts)))
  line_told line o outcome status line_is unput (inr (is, puts)) status_is answers short = at Memory outcome status is status_is ((o, inl (short (subst (λ (l : List ℕ). PutsLines (l ∷ []) sink now (Err Sinks.NoMemory)) (sym line_is) (subst (λ (t : SinkTell). PutsLines (fault_line names o ∷ []) t now (Err Sinks.NoMemory)) unput puts)))), refl)

  memory_tried : (outcome : Outcome) → PutsFault names Memory outcome mid now → (outcome ≡ Memory) × Tries (fault_line [] Memory) mid now
  memory_tried outcome (inl (is, puts)) = (is, tried (fault_line [] Memory) mid now puts)
  memory_tried outcome (inr (is, puts)) = (is, (Err Sinks.NoMemory, puts))

  refusal_late : (refusal : Refusal) → IsRefusal (sides words env files files_now gates gates_now sink mid plan history) refusal names → IsRefusal (sides words env files files_now gates gates_now sink now plan history) refusal names
  refusal_late refusal (inl was) = inl (record { invocation = was.invocation; words = was.words; refused = was.refused; files = was.files; unrun = unrun_late was.unrun })
  refusal_late refusal (inr (inl was)) =
      inr (inl (record { invocation = was.invocation; words = was.words; defs = was.defs; props = was.props; read = was.read; refused = was.refused; files = was.files; unrun = unrun_late was.unrun }))
  refusal_late refusal (inr (inr was)) =
      inr (inr (record { invocation = was.invocation; words = was.words; source = was.source; read = was.read; refused = was.refused; files = was.files; unrun = unrun_late was.unrun }))

  -- a write failed after the report
  write_fault_told : (path : List ℕ) (outcome : Outcome) (status : ℕ) → HasRunWith (sides words env files files_now gates gates_now sink mid plan history) (λ i p es. RunLeaves (sides words env files files_now gates gates_now sink mid plan history) i p es (Err (FilesFault path))) → PutsFault names (FilesFault path) outcome mid now → status ≡ fault_status outcome → AnswersRun (sides words env files files_now gates gates_now sink now plan history) outcome status
  write_fault_told path outcome status run (inl (is, puts)) status_is =
      at (FilesFault path) outcome status is status_is (inr (ran_late (λ i p es. RunLeaves (sides words env files files_now gates gates_now sink mid plan history) i p es (Err (FilesFault path))) (λ i. IsUnwritten (sides words env files files_now gates gates_now sink now plan history) path) (λ i p es was. (was.0, record { middle = mid; first = was.1; line = puts })) run), refl)
  write_fault_told path outcome status run (inr (is, puts)) status_is =
      at Memory outcome status is status_is ((FilesFault path, inr (ran_late (λ i p es. RunLeaves (sides words env files files_now gates gates_now sink mid plan history) i p es (Err (FilesFault path))) (λ i. IsShortRun (sides words env files files_now gates gates_now sink now plan history) (FilesFault path)) (λ i p es was. (was.0, record { middle = mid; first = was.1; line = puts })) run)), refl)

  pub told_answer : (ended : Result ℕ Outcome) (outcome : Outcome) (status : ℕ) → Ends (sides words env files files_now gates gates_now sink mid plan history) names ended → ReportsEnd names ended outcome status mid now → AnswersRun (sides words env files files_now gates gates_now sink now plan history) outcome status
  told_answer (Ok st) outcome status (inl run) (is, status_is, unput) =
      let reports = ran_late (λ i p es. RunLeaves (sides words env files files_now gates gates_now sink mid plan history) i p es (Ok st)) (IsCompleted (sides words env files files_now gates gates_now sink now plan history) st) (λ i p es was. record { reported = subst (λ (t : SinkTell). IsReported p es sink t) (sym unput) was.reported; left = was.left; is = was.is }) run in
      subst (λ (n : ℕ). AnswersRun (sides words env files files_now gates gates_now sink now plan history) outcome n) (sym status_is) (subst (λ (x : Outcome). AnswersRun (sides words env files files_now gates gates_now sink now plan history) x st) (sym is) reports)
  told_answer (Ok st) outcome status (inr (never, unput)) told = absurd never
  told_answer (Err Completed) outcome status (inl run) told = absurd (none_ran (λ i p es. RunLeaves (sides words env files files_now gates gates_now sink mid plan history) i p es (Err Completed)) (λ i p es none. none) run)
  told_answer (Err Completed) outcome status (inr (never, unput)) told = absurd never
  told_answer (Err Listed) outcome status (inl run) told = absurd (none_ran (λ i p es. RunLeaves (sides words env files files_now gates gates_now sink mid plan history) i p es (Err Listed)) (λ i p es none. none) run)
  told_answer (Err Listed) outcome status (inr (never, unput)) told = absurd never
  told_answer (Err (Usage word kind)) outcome status (inl run) told = absurd (none_ran (λ i p es. RunLeaves (sides words env files files_now gates gates_now sink mid plan history) i p es (Err (Usage word kind))) (λ i p es none. none) run)
  told_answer (Err (Usage word kind)) outcome status (inr (usage, unput)) told =
      let late_usage : IsUsage (sides words env files files_now gates gates_now sink now plan history) word kind = record { words = usage.words; files = usage.files; unrun = unrun_late usage.unrun } in
      line_told (fault_line [] (Usage word kind)) (Usage word kind) outcome status refl unput told.0 told.1 (λ puts. (late_usage, puts, refl)) (λ puts. (late_usage, puts))
  told_answer (Err (Refused refusal)) outcome status (inl run) told = absurd (none_ran (λ i p es. RunLeaves (sides words env files files_now gates gates_now sink mid plan history) i p es (Err (Refused refusal))) (λ i p es none. none) run)
  told_answer (Err (Refused refusal)) outcome status (inr (refused, unput)) told =
      let late = refusal_late refusal refused in
      line_told (fault_line names (Refused refusal)) (Refused refusal) outcome status refl unput told.0 told.1 (λ puts. (record { names = names; refused = late; line = puts }, refl)) (λ puts. record { names = names; refused = late; line = puts })
  told_answer (Err (FilesFault path)) outcome status (inl run) told = write_fault_told path outcome status run told.0 told.1
  told_answer (Err (FilesFault path)) outcome status (inr (fault, unput)) told =
      let late_fault : IsReadFault (sides words env files files_now gates gates_now sink now plan history) RunFailsAt path = record { invocation = fault.invocation; words = fault.words; due = fault.due; files = fault.files; unrun = unrun_late fault.unrun } in
      line_told (fault_line [] (FilesFault path)) (FilesFault path) outcome status refl unput told.0 told.1 (λ puts. (inl (late_fault, puts), refl)) (λ puts. (late_fault, puts))
  told_answer (Err OutputFault) outcome status (inl run) told =
      let cut = ran_late (λ i p es. RunLeaves (sides words env files files_now gates gates_now sink mid plan history) i p es (Err OutputFault)) (λ i p es. IsCutOff p es sink now × FilesStay files files_now) (λ i p es was. (subst (λ (t : SinkTell). IsCutOff p es sink t) (sym told.0.1) was.0, was.1)) run in
      at OutputFault outcome status told.0.0 told.1 (cut, refl)
  told_answer (Err OutputFault) outcome status (inr (never, unput)) told = absurd never
  told_answer (Err Memory) outcome status (inl run) told =
      let tries = memory_tried outcome told.0 in
      let short = ran_late (λ i p es. RunLeaves (sides words env files files_now gates gates_now sink mid plan history) i p es (Err Memory)) (λ i. IsShortRun (sides words env files files_now gates gates_now sink now plan history) Memory) (λ i p es was. record { middle = mid; first = was; line = tries.1 }) run in
      at Memory outcome status tries.0 told.1 ((Memory, inr short), refl)
  told_answer (Err Memory) outcome status (inr (unrun, unput)) told =
      let tries = memory_tried outcome told.0 in
      at Memory outcome status tries.0 told.1 ((Memory, inl (unrun_late unrun.0, unrun.1, subst (λ (t : SinkTell). Tries (fault_line [] Memory) t now) unput tries.1)), refl)
