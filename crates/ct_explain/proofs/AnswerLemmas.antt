-- The answer of an explanation, from what its words led to and the lines that were put for it.
use Rattle.std.proofs.Common.{◌≡◌, ◌∙◌, ap, sym, subst, Bool, ℕ, List, [], ◌∷◌, inl, inr, refl}
use Rattle.std.specs.Prelude.{◌⊎◌, Option, None, Result, Ok, Err}
use Rattle.ct_base.specs.declared.sink.SinkFault.TheVariants as Sinks
use Rattle.ct_base.specs.Outside.{FilesTell, SinkTell}
use Rattle.ct_history.specs.declared.plan.PlanParts.{PlanParts}
use Rattle.ct_args.specs.declared.usage.UsageKind.TheVariants.{NoValue}
use Rattle.ct_report.specs.PutLines.{PutsLines}
use Rattle.ct_app.specs.declared.outcome.Outcome.{Outcome}
use Rattle.ct_app.specs.declared.outcome.Outcome.TheVariants as Ends
use Rattle.ct_app.specs.declared.planning.Unplanned.{Unplanned}
use Rattle.ct_app.specs.Calls.{PutsOrFails, Sides, list_sides}
use Rattle.ct_app.specs.Complete.{IsRunnable, IsUnfailed}
use Rattle.ct_app.specs.Ends.{ReportsFault, PutsFault}
use Rattle.ct_app.specs.Outcome.{fault_status}
use Rattle.ct_app.specs.Runs.{AnswersRun, HasRunWith, IsShort, IsShortRun}
use Rattle.ct_app.proofs.AnswerLemmas.{told_answer}
use Rattle.ct_app.proofs.CompleteLemmas.{run_completes}
use Rattle.ct_journal.specs.File.{too_long_line}
use Rattle.ct_journal.specs.Check.{IsJournalFault, IsJudged, IsShortEnough}
use Rattle.ct_journal.specs.CheckFound.{IsLongJournal}
use Rattle.ct_journal.specs.CheckSteps.{IsUnfoundFor, LacksPath}
use Rattle.ct_journal.proofs.CheckFoundLemmas.{never_long}
use Rattle.ct_explain.specs.declared.explain.ExplainOutcome.{ExplainOutcome}
use Rattle.ct_explain.specs.declared.explain.ExplainOutcome.TheVariants.{Explained, No, TooLong, Usage, Refused, FilesFault, OutputFault, Memory}
use Rattle.ct_explain.specs.declared.find.Finding.{Finding}
use Rattle.ct_explain.specs.declared.find.Finding.TheVariants as Is
use Rattle.ct_explain.specs.declared.find.Found.{Found}
use Rattle.ct_explain.specs.Words.{asks_picture, journal_words}
use Rattle.ct_explain.specs.Explain.{AnswersExplain, ExplainsFor, AnswersFrom, ExplainsNoPath, CompletesExplain, CompletesFrom, ExplainsOrRefuses, FailsToPut, IsShortExplain, LacksToPut, PutsAll, TellsStory, TellsWhy}
use Rattle.ct_explain.specs.Steps.{IsExplainOf, FindsFor, ExplainLeadsTo, ReportsFound, ReportsNone, SaysFound}

module _ (picture : Bool) (path : List ℕ) (words : List (List ℕ)) (files files_now : FilesTell) (sink sink_now : SinkTell) where
  abbrev s : Sides
  s = list_sides words files files_now sink sink_now

  answer_as : (o outcome : ExplainOutcome) (n status : ℕ) → outcome ≡ o → status ≡ n → ExplainsFor picture path s o n → ExplainsFor picture path s outcome status
  answer_as o outcome n status is status_is answer = subst (λ (k : ℕ). ExplainsFor picture path s outcome k) (sym status_is) (subst (λ (x : ExplainOutcome). ExplainsFor picture path s x n) (sym is) answer)

  judged : (it : Found) (P : PlanParts → Option (List ℕ) → Type 0) (found : FindsFor path words files files_now it) → P it.plan found.found → IsJudged path s P
  judged it P found holds = record { plan = it.plan; planned = found.planned; found = found.found; read = found.read; holds = holds }

  abbrev tells : (Sides → List (List ℕ) → Type 0) → PlanParts → Option (List ℕ) → Type 0
  tells P plan read = TellsStory picture plan read (P s)

  abbrev refuses : ℕ → (Sides → List (List ℕ) → Type 0) → PlanParts → Option (List ℕ) → Type 0
  refuses line P plan read = TellsWhy plan read line (P s)

  abbrev fails : PlanParts → Option (List ℕ) → Type 0
  fails plan read = tells FailsToPut plan read ⊎ ((line : ℕ) × refuses line FailsToPut plan read)

  abbrev long : (SinkTell → SinkTell → Type 0) → PlanParts → Option (List ℕ) → Type 0
  long P plan read = IsLongJournal read × P sink sink_now

  -- what was found was told
  found_answer : (plan : PlanParts) (finding : Finding) (outcome : ExplainOutcome) (status : ℕ) → FindsFor path words files files_now (record { plan = plan; finding = finding }) → SaysFound picture plan finding outcome status sink sink_now → ExplainsFor picture path s outcome status
  found_answer plan (Is.Told story) outcome status found (inl (is, put)) =
      answer_as Explained outcome 0 status is.0 is.1 (judged (record { plan = plan; finding = Is.Told story }) (tells PutsAll) found (story, found.is.0, found.is.1, put), refl)
  found_answer plan (Is.Told story) outcome status found (inr (inl (is, put))) =
      answer_as OutputFault outcome 4 status is.0 is.1 (judged (record { plan = plan; finding = Is.Told story }) fails found (inl (story, found.is.0, found.is.1, put)), refl)
  found_answer plan (Is.Told story) outcome status found (inr (inr (is, status_is, short))) =
      answer_as Memory outcome 5 status is status_is
      ((Explained, judged (record { plan = plan; finding = Is.Told story }) (tells LacksToPut) found (story, found.is.0, found.is.1, record { middle = short.middle; first = short.first; line = short.line })), refl)
  found_answer plan (Is.Refused line why) outcome status found (inl (is, put)) =
      answer_as (No line) outcome 9 status is.0 is.1 (judged (record { plan = plan; finding = Is.Refused line why }) (refuses line PutsAll) found (why, found.is.0, found.is.1, put), refl)
  found_answer plan (Is.Refused line why) outcome status found (inr (inl (is, put))) =
      answer_as OutputFault outcome 4 status is.0 is.1 (judged (record { plan = plan; finding = Is.Refused line why }) fails found (inr (line, (why, found.is.0, found.is.1, put))), refl)
  found_answer plan (Is.Refused line why) outcome status found (inr (inr (is, status_is, short))) =
      answer_as Memory outcome 5 status is status_is
      ((No line, judged (record { plan = plan; finding = Is.Refused line why }) (refuses line LacksToPut) found (why, found.is.0, found.is.1, record { middle = short.middle; first = short.first; line = short.line })), refl)
  found_answer plan Is.TooLong outcome status found (inl (is, put)) =
      answer_as TooLong outcome 2 status is.0 is.1 (judged (record { plan = plan; finding = Is.TooLong }) (long (PutsOrFails too_long_line)) found (found.is, inl put), refl)
  found_answer plan Is.TooLong outcome status found (inr (inl (is, put))) =
      answer_as TooLong outcome 2 status is.0 is.1 (judged (record { plan = plan; finding = Is.TooLong }) (long (PutsOrFails too_long_line)) found (found.is, inr put), refl)
  found_answer plan Is.TooLong outcome status found (inr (inr (is, status_is, short))) =
      answer_as Memory outcome 5 status is status_is
      ((TooLong, judged (record { plan = plan; finding = Is.TooLong }) (long (λ before now. PutsLines (too_long_line ∷ []) before now (Err Sinks.NoMemory))) found (found.is, subst (λ (t : SinkTell). PutsLines (too_long_line ∷ []) sink t (Err Sinks.NoMemory)) (sym short.line) short.first)), refl)

  -- memory ran out before a plan was made, or for the line that says why there is none
  short_of : (o : Outcome) → IsShort s o ⊎ HasRunWith s (λ invocation. IsShortRun s o) → (outcome : ExplainOutcome) × IsShortExplain picture path s outcome
  short_of o (inr ran) = absurd ran
  short_of Ends.Completed (inl short) = absurd short
  short_of Ends.Listed (inl short) = absurd short
  short_of (Ends.Usage word kind) (inl short) = (Usage word kind, short)
  short_of (Ends.Refused refusal) (inl short) = (Refused refusal, short)
  short_of (Ends.FilesFault failed) (inl short) = (FilesFault failed, inl short)
  short_of Ends.OutputFault (inl short) = absurd short
  short_of Ends.Memory (inl short) = (Memory, short)

  -- the answer of a run without a plan is the answer of the explanation
  of_run : (told : Outcome) (outcome : ExplainOutcome) (status : ℕ) → IsExplainOf told outcome → AnswersRun s told status → ExplainsFor picture path s outcome status
  of_run Ends.Completed outcome status is run = absurd is
  of_run Ends.Listed outcome status is run = absurd is
  of_run (Ends.Usage word kind) outcome status is run = answer_as (Usage word kind) outcome status status is refl run
  of_run (Ends.Refused refusal) outcome status is run = answer_as (Refused refusal) outcome status status is refl run
  of_run (Ends.FilesFault failed) outcome status is run = answer_as (FilesFault failed) outcome status status is refl (inl run)
  of_run Ends.OutputFault outcome status is run = absurd run.0
  of_run Ends.Memory outcome status is run = answer_as Memory outcome status status is refl (short_of run.0.0 run.0.1, run.1)

  -- the failed read of the journal was told
  fault_told : (told : Outcome) (outcome : ExplainOutcome) (status : ℕ) → IsJournalFault path s → IsExplainOf told outcome → status ≡ fault_status told → PutsFault [] (Ends.FilesFault path) told sink sink_now → ExplainsFor picture path s outcome status
  fault_told told outcome status fault of status_is (inl (is, puts)) =
      answer_as (FilesFault path) outcome 3 status (subst (λ (o : Outcome). IsExplainOf o outcome) is of) (status_is ∙ ap fault_status is) (inr (refl, fault, puts, refl))
  fault_told told outcome status fault of status_is (inr (is, puts)) =
      answer_as Memory outcome 5 status (subst (λ (o : Outcome). IsExplainOf o outcome) is of) (status_is ∙ ap fault_status is) ((FilesFault path, inr (refl, fault, puts)), refl)

  -- why nothing was found was told
  why_answer : (why : Unplanned) (outcome : ExplainOutcome) (status : ℕ) → IsUnfoundFor path words files files_now why → ReportsNone why outcome status sink sink_now → ExplainsFor picture path s outcome status
  why_answer why outcome status (inl none) reports =
      of_run reports.reported outcome status reports.is (told_answer words [] files files_now [] [] sink sink sink_now None None why.names (Err why.outcome) reports.reported status (inr (none sink, refl)) (reports.reports, reports.status_is))
  why_answer why outcome status (inr (is, names, unread)) reports =
      fault_told reports.reported outcome status (record { plan = unread.plan; middle = unread.middle; planned = unread.planned; files = unread.files }) reports.is reports.status_is
      (subst (λ (ns : List (List ℕ)). ReportsFault ns (Ends.FilesFault path) reports.reported sink sink_now) names (subst (λ (o : Outcome). ReportsFault why.names o reports.reported sink sink_now) is reports.reports))

-- that there is no path was told
module _ (files files_now : FilesTell) (sink sink_now : SinkTell) where
  no_path_as : (o outcome : ExplainOutcome) (n status : ℕ) → outcome ≡ o → status ≡ n → ExplainsNoPath files files_now sink sink_now o n → ExplainsNoPath files files_now sink sink_now outcome status
  no_path_as o outcome n status is status_is answer = subst (λ (k : ℕ). ExplainsNoPath files files_now sink sink_now outcome k) (sym status_is) (subst (λ (x : ExplainOutcome). ExplainsNoPath files files_now sink sink_now x n) (sym is) answer)

  no_path_told : (told : Outcome) (outcome : ExplainOutcome) (status : ℕ) → files_now ≡ files → IsExplainOf told outcome → status ≡ fault_status told → PutsFault [] (Ends.Usage 1 NoValue) told sink sink_now → ExplainsNoPath files files_now sink sink_now outcome status
  no_path_told told outcome status kept of status_is (inl (is, puts)) =
      no_path_as (Usage 1 NoValue) outcome 1 status (subst (λ (o : Outcome). IsExplainOf o outcome) is of) (status_is ∙ ap fault_status is) (refl, refl, kept, puts, refl)
  no_path_told told outcome status kept of status_is (inr (is, puts)) =
      no_path_as Memory outcome 5 status (subst (λ (o : Outcome). IsExplainOf o outcome) is of) (status_is ∙ ap fault_status is) (kept, puts, refl)

  no_path_answer : (why : Unplanned) (outcome : ExplainOutcome) (status : ℕ) → LacksPath files files_now why → ReportsNone why outcome status sink sink_now → ExplainsNoPath files files_now sink sink_now outcome status
  no_path_answer why outcome status lacks reports =
      no_path_told reports.reported outcome status lacks.files reports.is reports.status_is
      (subst (λ (ns : List (List ℕ)). ReportsFault ns (Ends.Usage 1 NoValue) reports.reported sink sink_now) lacks.names (subst (λ (o : Outcome). ReportsFault why.names o reports.reported sink sink_now) lacks.outcome reports.reports))

answer_from : (picture : Bool) (words : List (List ℕ)) (files files_now : FilesTell) (sink sink_now : SinkTell) (found : Result Found Unplanned) (outcome : ExplainOutcome) (status : ℕ) → ExplainLeadsTo words files files_now found → ReportsFound picture found outcome status sink sink_now → AnswersFrom picture words files files_now sink sink_now outcome status
answer_from picture [] files files_now sink sink_now (Ok it) outcome status leads reports = absurd leads
answer_from picture [] files files_now sink sink_now (Err why) outcome status leads reports = no_path_answer files files_now sink sink_now why outcome status leads reports
answer_from picture (path ∷ words) files files_now sink sink_now (Ok it) outcome status leads reports = found_answer picture path words files files_now sink sink_now it.plan it.finding outcome status leads reports
answer_from picture (path ∷ words) files files_now sink sink_now (Err why) outcome status leads reports = why_answer picture path words files files_now sink sink_now why outcome status leads reports

pub explain_answer : (words picked : List (List ℕ)) (picture : Bool) (files files_now : FilesTell) (sink sink_now : SinkTell) (found : Result Found Unplanned) (outcome : ExplainOutcome) (status : ℕ) → picked ≡ journal_words words → picture ≡ asks_picture words → ExplainLeadsTo picked files files_now found → ReportsFound picture found outcome status sink sink_now → AnswersExplain words files files_now sink sink_now outcome status
explain_answer words picked picture files files_now sink sink_now found outcome status picked_is picture_is leads reports =
    subst (λ (ws : List (List ℕ)). AnswersFrom (asks_picture words) ws files files_now sink sink_now outcome status) picked_is
    (subst (λ (p : Bool). AnswersFrom p picked files files_now sink sink_now outcome status) picture_is
    (answer_from picture picked files files_now sink sink_now found outcome status leads reports))

-- an explanation for words of which a run can be made explains or refuses
module _ (picture : Bool) (path : List ℕ) (s : Sides) (can : IsRunnable s) (calm : IsUnfailed s) where
  neither : (o : Outcome) → (o ≡ Ends.Completed → ⊥) → (o ≡ Ends.Memory → ⊥) → (o ≡ Ends.Completed) ⊎ (o ≡ Ends.Memory) → ⊥
  neither o one other (inl is) = one is
  neither o one other (inr is) = other is

  unfailed : (plan : PlanParts) (read : Option (List ℕ)) → TellsStory picture plan read (FailsToPut s) ⊎ ((line : ℕ) × TellsWhy plan read line (FailsToPut s)) → ⊥
  unfailed plan read (inl (story, good, told, put)) = calm.sink (put.bytes.cause.failed refl)
  unfailed plan read (inr (line, refused)) = calm.sink (refused.3.bytes.cause.failed refl)

  explains : IsShortEnough path s → (outcome : ExplainOutcome) (status : ℕ) → ExplainsFor picture path s outcome status → ExplainsOrRefuses outcome
  explains short Explained status answer = tt
  explains short (No line) status answer = tt
  explains short TooLong status answer = never_long path s.files.before.held can.held answer.0.found can.told answer.0.read short answer.0.holds.0
  explains short (Usage word kind) status answer = neither (Ends.Usage word kind) (λ e. cc) (λ e. cc) (run_completes s (Ends.Usage word kind) status answer can calm)
  explains short (Refused refusal) status answer = neither (Ends.Refused refusal) (λ e. cc) (λ e. cc) (run_completes s (Ends.Refused refusal) status answer can calm)
  explains short (FilesFault failed) status (inl run) = neither (Ends.FilesFault failed) (λ e. cc) (λ e. cc) (run_completes s (Ends.FilesFault failed) status run can calm)
  explains short (FilesFault failed) status (inr (is, fault, puts, status_is)) = calm.files fault.files.rose
  explains short OutputFault status answer = unfailed answer.0.plan answer.0.found answer.0.holds
  explains short Memory status answer = tt

completes_from : (picture : Bool) (words : List (List ℕ)) (files files_now : FilesTell) (sink sink_now : SinkTell) (outcome : ExplainOutcome) (status : ℕ) → AnswersFrom picture words files files_now sink sink_now outcome status → CompletesFrom words files files_now sink sink_now outcome
completes_from picture [] files files_now sink sink_now outcome status answer = tt
completes_from picture (path ∷ words) files files_now sink sink_now outcome status answer = λ can calm short. explains picture path (list_sides words files files_now sink sink_now) can calm short outcome status answer

pub explain_completes : (words : List (List ℕ)) (files files_now : FilesTell) (sink sink_now : SinkTell) (outcome : ExplainOutcome) (status : ℕ) → AnswersExplain words files files_now sink sink_now outcome status → CompletesExplain words files files_now sink sink_now outcome
explain_completes words files files_now sink sink_now outcome status answer = completes_from (asks_picture words) (journal_words words) files files_now sink sink_now outcome status answer
