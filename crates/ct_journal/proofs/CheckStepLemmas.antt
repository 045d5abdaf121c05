-- The steps of a check, one behind the other.
use Rattle.std.proofs.Common.{◌≡◌, ◌∙◌, sym, ap, subst, ℕ, ◌+◌, List, [], ◌∷◌, take, inl, inr, refl}
use Rattle.std.specs.Prelude.{Option, None, Result, Ok, Err, IfErr, IfSome, option_map}
use Rattle.ct_base.specs.declared.files.FilesFault.TheVariants as Files
use Rattle.ct_base.specs.declared.sink.SinkFault.TheVariants as Sinks
use Rattle.ct_base.specs.Outside.{Becomes, FilesTell, LooksAt, SameHeld, SinkTell}
use Rattle.ct_history.specs.declared.plan.PlanParts.{PlanParts}
use Rattle.ct_app.specs.declared.outcome.Outcome.{Outcome}
use Rattle.ct_app.specs.declared.outcome.Outcome.TheVariants as Ends
use Rattle.ct_app.specs.declared.planning.Unplanned.{Unplanned}
use Rattle.ct_report.specs.PutLines.{PutsLines}
use Rattle.ct_app.specs.Calls.{Tries, list_sides}
use Rattle.ct_app.specs.Outcome.{fault_line}
use Rattle.ct_app.proofs.AnswerLemmas.{tried}
use Rattle.ct_journal.specs.declared.check.CheckOutcome.{CheckOutcome}
use Rattle.ct_journal.specs.declared.check.CheckOutcome.TheVariants as Says
use Rattle.ct_app.specs.Ends.{EndsUnrun, ReportsFault, PutsFault}
use Rattle.ct_app.specs.Planning.{HasNoPlan, HasPlan}
use Rattle.ct_app.specs.RunFiles.{FilesFail, FilesStay}
use Rattle.ct_app.specs.Runs.{IsRefusal}
use Rattle.ct_app.specs.declared.outcome.Refusal.{Refusal}
use Rattle.ct_app.proofs.ChangeLemmas.{fails_then, same_then_same, stays}
use Rattle.ct_journal.specs.declared.check_find.Finding.{Finding}
use Rattle.ct_app.proofs.RunFilesLemmas.{look_failed, look_lacked, looked}
use Rattle.ct_journal.specs.File.{most_journal_bytes}
use Rattle.ct_journal.specs.CheckFound.{IsFinding, IsReadOf}
use Rattle.ct_journal.specs.CheckSteps.{IsCutShortBehind, IsFoundAt, IsFoundFor, IsSaid, IsUnended, IsUnfound, IsUnfoundFor, IsUnsaid, LeadsTo, SaysFinding, finding_line}
use Rattle.ct_journal.proofs.CheckFoundLemmas.{read_at, read_before}
use Rattle.ct_app.proofs.ReadLemmas.{then_stay}

-- the journal was read, and this was found of it
pub found_at : (path named : List ℕ) (plan : PlanParts) (before now : FilesTell) (got : Option (List ℕ)) (finding : Finding) → named ≡ path → IfSome before.held (λ held. got ≡ option_map (take (most_journal_bytes + 1)) (held named)) → LooksAt named before now (Ok got) → IsFinding plan got finding → IsFoundAt path plan before now finding
found_at path named plan before now got finding is read looks finds = record {
  found = got;
  read = subst (λ (p : List ℕ). IfSome before.held (λ held. IsReadOf (held p) got)) is (read_at named before.held got read);
  is = finds;
  files = looked named before now got looks;
}

-- the journal was not read: the read failed, or memory ran out before it, in it or behind it
pub unread_at : {T : Type 0} (path named : List ℕ) (before now : FilesTell) (outcome : Outcome) → outcome ≡ Ends.FilesFault named → named ≡ path → LooksAt {T = T} named before now (Err Files.Failed) → IsUnfound path before now outcome
unread_at path named before now outcome fault is looks =
    inl (fault ∙ ap Ends.FilesFault is, subst (λ (p : List ℕ). FilesFail p SameHeld before now) is (look_failed named before now looks))

pub short_before : (path : List ℕ) (before : FilesTell) (outcome : Outcome) → outcome ≡ Ends.Memory → IsUnfound path before before outcome
short_before path before outcome is = inr (is, stays before)

pub short_in : {T : Type 0} (path named : List ℕ) (before now : FilesTell) (outcome : Outcome) → outcome ≡ Ends.Memory → LooksAt {T = T} named before now (Err Files.NoMemory) → IsUnfound path before now outcome
short_in path named before now outcome is looks = inr (is, look_lacked named before now looks)

pub short_behind : (path named : List ℕ) (before now : FilesTell) (got : Option (List ℕ)) (outcome : Outcome) → outcome ≡ Ends.Memory → LooksAt named before now (Ok got) → IsUnfound path before now outcome
short_behind path named before now got outcome is looks = inr (is, looked named before now got looks)

-- a plan was made, and then the journal was read
module _ (path : List ℕ) (words : List (List ℕ)) (before middle now : FilesTell) (plan : PlanParts) (planned : HasPlan words before middle plan) where
  still_planned : FilesStay middle now → HasPlan words before now plan
  still_planned stay = record {
    invocation = planned.invocation;
    words_are = planned.words_are;
    source = planned.source;
    read = planned.read;
    few = planned.few;
    planned = planned.planned;
    sound = planned.sound;
    files = then_stay before middle now planned.files stay;
  }

  pub found_then : (finding : Finding) → IsFoundAt path plan middle now finding → IsFoundFor path words before now finding
  found_then finding at = record {
    plan = plan;
    planned = still_planned at.files;
    found = at.found;
    read = read_before path at.found before.held middle.held planned.files.held at.read;
    is = at.is;
  }

  memory_then : FilesStay middle now → HasNoPlan words before now [] Ends.Memory
  memory_then stay sink = (record { no_plan = refl; no_history = refl; unasked = refl }, then_stay before middle now planned.files stay)

  pub unfound_then : (why : Unplanned) (outcome : Outcome) → why ≡ record { outcome = outcome; names = [] } → IsUnfound path middle now outcome → IsUnfoundFor path words before now why
  unfound_then why outcome is (inl (fault, fails)) =
      subst (λ (u : Unplanned). IsUnfoundFor path words before now u) (sym is)
      (inr (fault, refl, record { plan = plan; middle = middle; planned = planned; files = fails_then SameHeld SameHeld SameHeld same_then_same path before middle now planned.files fails }))
  unfound_then why outcome is (inr (short, stay)) =
      subst (λ (u : Unplanned). IsUnfoundFor path words before now u) (sym is)
      (inl (subst (λ (o : Outcome). HasNoPlan words before now [] o) (sym short) (memory_then stay)))

-- a call without a plan is not complete and puts no list
unplanned_unended : (words : List (List ℕ)) (before now : FilesTell) (names : List (List ℕ)) (sink : SinkTell) (outcome : Outcome) → EndsUnrun (list_sides words before now sink sink) names (Err outcome) → IsUnended outcome
unplanned_unended words before now names sink Ends.Completed ends = ends
unplanned_unended words before now names sink Ends.Listed ends = ends
unplanned_unended words before now names sink (Ends.Usage word kind) ends = tt
unplanned_unended words before now names sink (Ends.Refused refusal) ends = tt
unplanned_unended words before now names sink (Ends.FilesFault path) ends = tt
unplanned_unended words before now names sink Ends.OutputFault ends = tt
unplanned_unended words before now names sink Ends.Memory ends = tt

some_sink : SinkTell
some_sink = record { written = None; pieces = None; faults = 0 }

why_unended : (path : List ℕ) (words : List (List ℕ)) (before now : FilesTell) (why : Unplanned) → IsUnfoundFor path words before now why → IsUnended why.outcome
why_unended path words before now why (inl none) = unplanned_unended words before now why.names some_sink why.outcome (none some_sink)
why_unended path words before now why (inr (is, names, unread)) = subst IsUnended (sym is) tt

pub leads_unended : (words : List (List ℕ)) (before now : FilesTell) (found : Result Finding Unplanned) → LeadsTo words before now found → IfErr found (λ why. IsUnended why.outcome)
leads_unended words before now (Ok finding) leads = tt
leads_unended [] before now (Err why) leads = subst IsUnended (sym leads.outcome) tt
leads_unended (path ∷ words) before now (Err why) leads = why_unended path words before now why leads

reported_by : (names : List (List ℕ)) (outcome reported : Outcome) (before now : SinkTell) → IsUnended outcome → PutsFault names outcome reported before now → IsUnended reported
reported_by names outcome reported before now fine (inl (is, puts)) = subst IsUnended (sym is) fine
reported_by names outcome reported before now fine (inr (is, puts)) = subst IsUnended (sym is) tt

-- what is reported of a call that is not complete and puts no list is such an outcome too
pub reported_unended : (names : List (List ℕ)) (outcome reported : Outcome) (before now : SinkTell) → IsUnended outcome → ReportsFault names outcome reported before now → IsUnended reported
reported_unended names Ends.Completed reported before now fine reports = absurd fine
reported_unended names Ends.Listed reported before now fine reports = absurd fine
reported_unended names (Ends.Usage word kind) reported before now fine reports = reported_by names (Ends.Usage word kind) reported before now fine reports
reported_unended names (Ends.Refused refusal) reported before now fine reports = reported_by names (Ends.Refused refusal) reported before now fine reports
reported_unended names (Ends.FilesFault path) reported before now fine reports = reported_by names (Ends.FilesFault path) reported before now fine reports
reported_unended names Ends.OutputFault reported before now fine reports = subst IsUnended (sym reports.0) tt
reported_unended names Ends.Memory reported before now fine reports = reported_by names Ends.Memory reported before now fine reports

-- what the files hold stays, whatever the words lead to
refusal_keeps : (words : List (List ℕ)) (before now : FilesTell) (names : List (List ℕ)) (sink : SinkTell) (refusal : Refusal) → IsRefusal (list_sides words before now sink sink) refusal names → FilesStay before now
refusal_keeps words before now names sink refusal (inl was) = was.files
refusal_keeps words before now names sink refusal (inr (inl was)) = was.files
refusal_keeps words before now names sink refusal (inr (inr was)) = was.files

unplanned_keeps : (words : List (List ℕ)) (before now : FilesTell) (names : List (List ℕ)) (sink : SinkTell) (outcome : Outcome) → EndsUnrun (list_sides words before now sink sink) names (Err outcome) → Becomes before.held now.held SameHeld
unplanned_keeps words before now names sink Ends.Completed ends = absurd ends
unplanned_keeps words before now names sink Ends.Listed ends = absurd ends
unplanned_keeps words before now names sink (Ends.Usage word kind) ends = ends.files.held
unplanned_keeps words before now names sink (Ends.Refused refusal) ends = (refusal_keeps words before now names sink refusal ends).held
unplanned_keeps words before now names sink (Ends.FilesFault path) ends = ends.files.held
unplanned_keeps words before now names sink Ends.OutputFault ends = absurd ends
unplanned_keeps words before now names sink Ends.Memory ends = ends.1.held

pub leads_keep : (words : List (List ℕ)) (before now : FilesTell) (found : Result Finding Unplanned) → LeadsTo words before now found → Becomes before.held now.held SameHeld
leads_keep [] before now (Ok finding) leads = absurd leads
leads_keep [] before now (Err why) leads = subst (λ (files : FilesTell). Becomes before.held files.held SameHeld) (sym leads.files) (stays before).held
leads_keep (path ∷ words) before now (Ok finding) leads = leads.planned.files.held
leads_keep (path ∷ words) before now (Err why) (inl none) = unplanned_keeps words before now why.names some_sink why.outcome (none some_sink)
leads_keep (path ∷ words) before now (Err why) (inr (is, names, unread)) = unread.files.held

-- the line of what was found was put, or the put failed, or memory ran out for it
pub said_line : (finding : Finding) (outcome : CheckOutcome) (status : ℕ) (before now : SinkTell) → IsSaid finding outcome status → PutsLines (finding_line finding ∷ []) before now (Ok tt) → SaysFinding finding outcome status before now
said_line finding outcome status before now is put = inl (is, put)

pub unsaid_line : (finding : Finding) (outcome : CheckOutcome) (status : ℕ) (before now : SinkTell) → IsUnsaid finding outcome status → PutsLines (finding_line finding ∷ []) before now (Err Sinks.Failed) → SaysFinding finding outcome status before now
unsaid_line finding outcome status before now is put = inr (inl (is, put))

pub short_line : (finding : Finding) (before middle now : SinkTell) → PutsLines (finding_line finding ∷ []) before middle (Err Sinks.NoMemory) → IsCutShortBehind finding middle now → SaysFinding finding Says.Memory 5 before now
short_line finding before middle now put behind = inr (inr (refl, refl, record { middle = middle; first = put; line = behind }))

-- want of memory was told
pub memory_tries : (told : Outcome) (before now : SinkTell) → ReportsFault [] Ends.Memory told before now → Tries (fault_line [] Ends.Memory) before now
memory_tries told before now (inl (is, puts)) = tried (fault_line [] Ends.Memory) before now puts
memory_tries told before now (inr (is, puts)) = (Err Sinks.NoMemory, puts)
