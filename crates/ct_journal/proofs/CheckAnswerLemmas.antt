-- The answer of a check, from what its words led to and the line that was put for it.
use Rattle.std.proofs.Common.{◌≡◌, ◌∙◌, ap, sym, subst, ℕ, List, [], ◌∷◌, inl, inr, refl}
use Rattle.std.specs.Prelude.{◌⊎◌, Option, None, Result, Ok, Err}
use Rattle.ct_base.specs.declared.sink.SinkFault.TheVariants as Sinks
use Rattle.ct_base.specs.Outside.{FilesTell, SinkTell}
use Rattle.ct_history.specs.declared.plan.PlanParts.{PlanParts}
use Rattle.ct_args.specs.declared.usage.UsageKind.TheVariants.{NoValue}
use Rattle.ct_report.specs.PutLines.{PutsLines}
use Rattle.ct_app.specs.declared.outcome.Outcome.{Outcome}
use Rattle.ct_app.specs.declared.outcome.Outcome.TheVariants as Ends
use Rattle.ct_app.specs.declared.planning.Unplanned.{Unplanned}
use Rattle.ct_app.specs.Calls.{PutsOrFails, Sides, list_sides}
use Rattle.ct_app.specs.Complete.{IsRunnable, IsUnfailed}
use Rattle.ct_app.specs.Ends.{ReportsFault, PutsFault}
use Rattle.ct_app.specs.Outcome.{fault_status}
use Rattle.ct_app.specs.Runs.{AnswersRun, HasRunWith, IsShort, IsShortRun}
use Rattle.ct_app.proofs.AnswerLemmas.{told_answer}
use Rattle.ct_app.proofs.CompleteLemmas.{run_completes}
use Rattle.ct_journal.specs.declared.check.CheckOutcome.{CheckOutcome}
use Rattle.ct_journal.specs.declared.check.CheckOutcome.TheVariants.{Yes, No, TooLong, Usage, Refused, FilesFault, OutputFault, Memory}
use Rattle.ct_journal.specs.declared.check_find.Finding.{Finding}
use Rattle.ct_journal.specs.declared.check_find.Finding.TheVariants as Found
use Rattle.ct_journal.specs.File.{too_long_line}
use Rattle.ct_journal.specs.CheckFound.{IsBadJournal, IsGoodJournal, IsLongJournal, accepted_line, refused_line}
use Rattle.ct_journal.specs.Check.{AnswersCheck, AnswersFor, AnswersNoPath, CompletesCheck, IsJournalFault, IsJudged, IsPrinted, IsShortCheck, IsShortEnough, IsUnprinted, SaysYesOrNo}
use Rattle.ct_journal.specs.CheckSteps.{IsCheckOf, IsFoundFor, IsUnfoundFor, LacksPath, LeadsTo, SaysFinding, ReportsCheck, ReportsWhy}
use Rattle.ct_journal.proofs.CheckFoundLemmas.{never_long}

module _ (path : List ℕ) (words : List (List ℕ)) (files files_now : FilesTell) (sink sink_now : SinkTell) where
  abbrev s : Sides
  s = list_sides words files files_now sink sink_now

  answer_as : (o outcome : CheckOutcome) (n status : ℕ) → outcome ≡ o → status ≡ n → AnswersFor path s o n → AnswersFor path s outcome status
  answer_as o outcome n status is status_is answer = subst (λ (k : ℕ). AnswersFor path s outcome k) (sym status_is) (subst (λ (x : CheckOutcome). AnswersFor path s x n) (sym is) answer)

  judged : (finding : Finding) (P : PlanParts → Option (List ℕ) → Type 0) (found : IsFoundFor path words files files_now finding) → P found.plan found.found → IsJudged path s P
  judged finding P found holds = record { plan = found.plan; planned = found.planned; found = found.found; read = found.read; holds = holds }

  -- what was found was told
  found_answer : (finding : Finding) (outcome : CheckOutcome) (status : ℕ) → IsFoundFor path words files files_now finding → SaysFinding finding outcome status sink sink_now → AnswersFor path s outcome status
  found_answer Found.Accepted outcome status found (inl (is, put)) =
      answer_as Yes outcome 0 status is.0 is.1 (judged Found.Accepted (λ plan read. IsGoodJournal plan read × PutsLines (accepted_line ∷ []) sink sink_now (Ok tt)) found (found.is, put), refl)
  found_answer Found.Accepted outcome status found (inr (inl (is, put))) =
      answer_as OutputFault outcome 4 status is.0 is.1 (judged Found.Accepted (λ plan read. (line : List ℕ) × IsPrinted plan read line × PutsLines (line ∷ []) sink sink_now (Err Sinks.Failed)) found (accepted_line, inl (found.is, refl), put), refl)
  found_answer Found.Accepted outcome status found (inr (inr (is, status_is, short))) =
      answer_as Memory outcome 5 status is status_is
      ((Yes, judged Found.Accepted (λ plan read. IsGoodJournal plan read × IsUnprinted accepted_line s) found (found.is, record { middle = short.middle; first = short.first; line = short.line })), refl)
  found_answer (Found.Refused line) outcome status found (inl (is, put)) =
      answer_as (No line) outcome 9 status is.0 is.1 (judged (Found.Refused line) (λ plan read. IsBadJournal plan read line × PutsLines (refused_line line ∷ []) sink sink_now (Ok tt)) found (found.is, put), refl)
  found_answer (Found.Refused line) outcome status found (inr (inl (is, put))) =
      answer_as OutputFault outcome 4 status is.0 is.1
      (judged (Found.Refused line) (λ plan read. (text : List ℕ) × IsPrinted plan read text × PutsLines (text ∷ []) sink sink_now (Err Sinks.Failed)) found (refused_line line, inr (line, found.is, refl), put), refl)
  found_answer (Found.Refused line) outcome status found (inr (inr (is, status_is, short))) =
      answer_as Memory outcome 5 status is status_is
      ((No line, judged (Found.Refused line) (λ plan read. IsBadJournal plan read line × IsUnprinted (refused_line line) s) found (found.is, record { middle = short.middle; first = short.first; line = short.line })), refl)
  found_answer Found.TooLong outcome status found (inl (is, put)) =
      answer_as TooLong outcome 2 status is.0 is.1 (judged Found.TooLong (λ plan read. IsLongJournal read × PutsOrFails too_long_line sink sink_now) found (found.is, inl put), refl)
  found_answer Found.TooLong outcome status found (inr (inl (is, put))) =
      answer_as TooLong outcome 2 status is.0 is.1 (judged Found.TooLong (λ plan read. IsLongJournal read × PutsOrFails too_long_line sink sink_now) found (found.is, inr put), refl)
  found_answer Found.TooLong outcome status found (inr (inr (is, status_is, short))) =
      answer_as Memory outcome 5 status is status_is
      ((TooLong, judged Found.TooLong (λ plan read. IsLongJournal read × PutsLines (too_long_line ∷ []) sink sink_now (Err Sinks.NoMemory)) found (found.is, subst (λ (t : SinkTell). PutsLines (too_long_line ∷ []) sink t (Err Sinks.NoMemory)) (sym short.line) short.first)), refl)

  -- memory ran out before a plan was made, or for the line that says why there is none
  short_of : (o : Outcome) → IsShort s o ⊎ HasRunWith s (λ invocation. IsShortRun s o) → (outcome : CheckOutcome) × IsShortCheck path s outcome
  short_of o (inr ran) = absurd ran
  short_of Ends.Completed (inl short) = absurd short
  short_of Ends.Listed (inl short) = absurd short
  short_of (Ends.Usage word kind) (inl short) = (Usage word kind, short)
  short_of (Ends.Refused refusal) (inl short) = (Refused refusal, short)
  short_of (Ends.FilesFault failed) (inl short) = (FilesFault failed, inl short)
  short_of Ends.OutputFault (inl short) = absurd short
  short_of Ends.Memory (inl short) = (Memory, short)

  -- the answer of a run without a plan is the answer of the check
  of_run : (told : Outcome) (outcome : CheckOutcome) (status : ℕ) → IsCheckOf told outcome → AnswersRun s told status → AnswersFor path s outcome status
  of_run Ends.Completed outcome status is run = absurd is
  of_run Ends.Listed outcome status is run = absurd is
  of_run (Ends.Usage word kind) outcome status is run = answer_as (Usage word kind) outcome status status is refl run
  of_run (Ends.Refused refusal) outcome status is run = answer_as (Refused refusal) outcome status status is refl run
  of_run (Ends.FilesFault failed) outcome status is run = answer_as (FilesFault failed) outcome status status is refl (inl run)
  of_run Ends.OutputFault outcome status is run = absurd run.0
  of_run Ends.Memory outcome status is run = answer_as Memory outcome status status is refl (short_of run.0.0 run.0.1, run.1)

  -- the failed read of the journal was told
  fault_told : (told : Outcome) (outcome : CheckOutcome) (status : ℕ) → IsJournalFault path s → IsCheckOf told outcome → status ≡ fault_status told → PutsFault [] (Ends.FilesFault path) told sink sink_now → AnswersFor path s outcome status
  fault_told told outcome status fault of status_is (inl (is, puts)) =
      answer_as (FilesFault path) outcome 3 status (subst (λ (o : Outcome). IsCheckOf o outcome) is of) (status_is ∙ ap fault_status is) (inr (refl, fault, puts, refl))
  fault_told told outcome status fault of status_is (inr (is, puts)) =
      answer_as Memory outcome 5 status (subst (λ (o : Outcome). IsCheckOf o outcome) is of) (status_is ∙ ap fault_status is) ((FilesFault path, inr (refl, fault, puts)), refl)

  -- why nothing was found was told
  why_answer : (why : Unplanned) (outcome : CheckOutcome) (status : ℕ) → IsUnfoundFor path words files files_now why → ReportsWhy why outcome status sink sink_now → AnswersFor path s outcome status
  why_answer why outcome status (inl none) reports =
      of_run reports.reported outcome status reports.is (told_answer words [] files files_now [] [] sink sink sink_now None None why.names (Err why.outcome) reports.reported status (inr (none sink, refl)) (reports.reports, reports.status_is))
  why_answer why outcome status (inr (is, names, unread)) reports =
      fault_told reports.reported outcome status (record { plan = unread.plan; middle = unread.middle; planned = unread.planned; files = unread.files }) reports.is reports.status_is
      (subst (λ (ns : List (List ℕ)). ReportsFault ns (Ends.FilesFault path) reports.reported sink sink_now) names (subst (λ (o : Outcome). ReportsFault why.names o reports.reported sink sink_now) is reports.reports))

-- that there is no path was told
module _ (files files_now : FilesTell) (sink sink_now : SinkTell) where
  no_path_as : (o outcome : CheckOutcome) (n status : ℕ) → outcome ≡ o → status ≡ n → AnswersNoPath files files_now sink sink_now o n → AnswersNoPath files files_now sink sink_now outcome status
  no_path_as o outcome n status is status_is answer = subst (λ (k : ℕ). AnswersNoPath files files_now sink sink_now outcome k) (sym status_is) (subst (λ (x : CheckOutcome). AnswersNoPath files files_now sink sink_now x n) (sym is) answer)

  no_path_told : (told : Outcome) (outcome : CheckOutcome) (status : ℕ) → files_now ≡ files → IsCheckOf told outcome → status ≡ fault_status told → PutsFault [] (Ends.Usage 1 NoValue) told sink sink_now → AnswersNoPath files files_now sink sink_now outcome status
  no_path_told told outcome status kept of status_is (inl (is, puts)) =
      no_path_as (Usage 1 NoValue) outcome 1 status (subst (λ (o : Outcome). IsCheckOf o outcome) is of) (status_is ∙ ap fault_status is) (refl, refl, kept, puts, refl)
  no_path_told told outcome status kept of status_is (inr (is, puts)) =
      no_path_as Memory outcome 5 status (subst (λ (o : Outcome). IsCheckOf o outcome) is of) (status_is ∙ ap fault_status is) (kept, puts, refl)

  no_path_answer : (why : Unplanned) (outcome : CheckOutcome) (status : ℕ) → LacksPath files files_now why → ReportsWhy why outcome status sink sink_now → AnswersNoPath files files_now sink sink_now outcome status
  no_path_answer why outcome status lacks reports =
      no_path_told reports.reported outcome status lacks.files reports.is reports.status_is
      (subst (λ (ns : List (List ℕ)). ReportsFault ns (Ends.Usage 1 NoValue) reports.reported sink sink_now) lacks.names (subst (λ (o : Outcome). ReportsFault why.names o reports.reported sink sink_now) lacks.outcome reports.reports))

pub check_answer : (words : List (List ℕ)) (files files_now : FilesTell) (sink sink_now : SinkTell) (found : Result Finding Unplanned) (outcome : CheckOutcome) (status : ℕ) → LeadsTo words files files_now found → ReportsCheck found outcome status sink sink_now → AnswersCheck words files files_now sink sink_now outcome status
check_answer [] files files_now sink sink_now (Ok finding) outcome status leads reports = absurd leads
check_answer [] files files_now sink sink_now (Err why) outcome status leads reports = no_path_answer files files_now sink sink_now why outcome status leads reports
check_answer (path ∷ words) files files_now sink sink_now (Ok finding) outcome status leads reports = found_answer path words files files_now sink sink_now finding outcome status leads reports
check_answer (path ∷ words) files files_now sink sink_now (Err why) outcome status leads reports = why_answer path words files files_now sink sink_now why outcome status leads reports

-- a check of words of which a run can be made says yes or no
module _ (path : List ℕ) (s : Sides) (can : IsRunnable s) (calm : IsUnfailed s) where
  neither : (o : Outcome) → (o ≡ Ends.Completed → ⊥) → (o ≡ Ends.Memory → ⊥) → (o ≡ Ends.Completed) ⊎ (o ≡ Ends.Memory) → ⊥
  neither o one other (inl is) = one is
  neither o one other (inr is) = other is

  says : IsShortEnough path s → (outcome : CheckOutcome) (status : ℕ) → AnswersFor path s outcome status → SaysYesOrNo outcome
  says short Yes status answer = tt
  says short (No line) status answer = tt
  says short TooLong status answer = never_long path s.files.before.held can.held answer.0.found can.told answer.0.read short answer.0.holds.0
  says short (Usage word kind) status answer = neither (Ends.Usage word kind) (λ e. cc) (λ e. cc) (run_completes s (Ends.Usage word kind) status answer can calm)
  says short (Refused refusal) status answer = neither (Ends.Refused refusal) (λ e. cc) (λ e. cc) (run_completes s (Ends.Refused refusal) status answer can calm)
  says short (FilesFault failed) status (inl run) = neither (Ends.FilesFault failed) (λ e. cc) (λ e. cc) (run_completes s (Ends.FilesFault failed) status run can calm)
  says short (FilesFault failed) status (inr (is, fault, puts, status_is)) = calm.files fault.files.rose
  says short OutputFault status answer = calm.sink (answer.0.holds.2.bytes.cause.failed refl)
  says short Memory status answer = tt

pub check_completes : (words : List (List ℕ)) (files files_now : FilesTell) (sink sink_now : SinkTell) (outcome : CheckOutcome) (status : ℕ) → AnswersCheck words files files_now sink sink_now outcome status → CompletesCheck words files files_now sink sink_now outcome
check_completes [] files files_now sink sink_now outcome status answer = tt
check_completes (path ∷ words) files files_now sink sink_now outcome status answer = λ can calm short. says path (list_sides words files files_now sink sink_now) can calm short outcome status answer
