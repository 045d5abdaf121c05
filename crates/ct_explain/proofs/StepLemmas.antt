-- The steps of an explanation, one behind the other.
use Rattle.std.proofs.Common.{◌≡◌, sym, subst, refl, Bool, ℕ, ◌+◌, ◌^◌, ◌<◌, List, [], ◌∷◌, length, take, inl, inr, arith}
use Rattle.std.specs.Prelude.{Option, Some, None, Result, Ok, Err, IfErr, IfSome, option_map}
use Rattle.ct_base.specs.declared.sink.SinkFault.TheVariants as Sinks
use Rattle.ct_base.specs.Outside.{Becomes, FilesTell, LooksAt, SameHeld, SinkTell}
use Rattle.ct_history.specs.declared.plan.PlanParts.{PlanParts}
use Rattle.ct_history.specs.declared.history.Entry.{Entry}
use Rattle.ct_report.specs.PutLines.{PutsLines}
use Rattle.ct_app.specs.declared.planning.Unplanned.{Unplanned}
use Rattle.ct_app.specs.Planning.{HasPlan}
use Rattle.ct_app.proofs.ReadLemmas.{then_stay}
use Rattle.ct_app.proofs.RunFilesLemmas.{looked}
use Rattle.ct_journal_text.specs.Found.{Finds, IsAccepted}
use Rattle.ct_journal_text.proofs.ExactLemmas.{finds_once}
use Rattle.ct_journal.specs.File.{HasJournalSize, most_journal_bytes}
use Rattle.ct_journal.specs.CheckFound.{IsReadOf}
use Rattle.ct_journal.specs.CheckSteps.{IsUnended}
use Rattle.ct_journal.proofs.CheckFoundLemmas.{read_at, read_before}
use Rattle.ct_journal.proofs.CheckStepLemmas as Check
use Rattle.ct_explain.specs.declared.why.Why.{Why}
use Rattle.ct_explain.specs.declared.story.Story.{Story}
use Rattle.ct_explain.specs.declared.reading.Reading.TheVariants.{Broken}
use Rattle.ct_explain.specs.declared.explain.ExplainOutcome.{ExplainOutcome}
use Rattle.ct_explain.specs.declared.explain.ExplainOutcome.TheVariants as Says
use Rattle.ct_explain.specs.declared.find.Finding.{Finding}
use Rattle.ct_explain.specs.declared.find.Finding.TheVariants.{Told, Refused}
use Rattle.ct_explain.specs.declared.find.Found.{Found}
use Rattle.ct_explain.specs.Reading.{IsJournalOfRun, ReadsAs}
use Rattle.ct_explain.specs.Story.{IsStory}
use Rattle.ct_explain.specs.Found.{IsFoundOf, finding_lines}
use Rattle.ct_explain.specs.Steps.{IsCutBehind, FindsAt, FindsFor, SaysSo, SaysNot, ExplainLeadsTo, SaysFound}

-- a journal fits a memory of 64 bits
fits : (text : List ℕ) → HasJournalSize text → length text < 2 ^ 64
fits text size = omega (arith, size)

-- the text is the journal of a history, which is told
pub told_finding : (plan : PlanParts) (text : List ℕ) (entries : List Entry) (story : Story) → HasJournalSize text → IsJournalOfRun plan text entries → IsStory plan entries story → IsFoundOf plan (Some text) (Told story)
told_finding plan text entries story size run told =
    let accepted : IsAccepted plan text = record { entries = entries; text_is = run.text_is; fit = run.fit; legal = run.legal; complete = run.complete } in
    ((size, accepted, λ other found. finds_once plan text None other (fits text size) accepted found), (subst (IsJournalOfRun plan text) (sym told.entries) run, subst (λ (es : List Entry). IsStory plan es story) (sym told.entries) told))

-- what a text reads as where a line is refused, without the reason
finds_of : (plan : PlanParts) (text : List ℕ) (line : ℕ) (why : Why) → ReadsAs plan text (Broken line why) → Finds plan text (Some line)
finds_of plan text line why (inl (is, reason, lacks)) = inl (is, lacks)
finds_of plan text line why (inr at) = inr (record { rest = at.rest; text_is = at.text_is; behind = at.behind.refused })

-- a line of the text is refused for a reason
pub refused_finding : (plan : PlanParts) (text : List ℕ) (line : ℕ) (why : Why) → HasJournalSize text → ReadsAs plan text (Broken line why) → IsFoundOf plan (Some text) (Refused line why)
refused_finding plan text line why size reads =
    let finds = finds_of plan text line why reads in
    ((size, finds, λ other found. finds_once plan text (Some line) other (fits text size) finds found), reads)

-- the journal was read, and this was found of it
pub found_at : (path named : List ℕ) (plan : PlanParts) (before now : FilesTell) (got : Option (List ℕ)) (finding : Finding) → named ≡ path → IfSome before.held (λ held. got ≡ option_map (take (most_journal_bytes + 1)) (held named)) → LooksAt named before now (Ok got) → IsFoundOf plan got finding → FindsAt path plan before now finding
found_at path named plan before now got finding is read looks finds = record {
  found = got;
  read = subst (λ (p : List ℕ). IfSome before.held (λ held. IsReadOf (held p) got)) is (read_at named before.held got read);
  is = finds;
  files = looked named before now got looks;
}

-- a plan was made, and then this was found of the journal
pub found_then : (path : List ℕ) (words : List (List ℕ)) (before middle now : FilesTell) (plan : PlanParts) → HasPlan words before middle plan → (finding : Finding) → FindsAt path plan middle now finding → FindsFor path words before now (record { plan = plan; finding = finding })
found_then path words before middle now plan planned finding at = record {
  planned = record {
    invocation = planned.invocation;
    words_are = planned.words_are;
    source = planned.source;
    read = planned.read;
    few = planned.few;
    planned = planned.planned;
    sound = planned.sound;
    files = then_stay before middle now planned.files at.files;
  };
  found = at.found;
  read = read_before path at.found before.held middle.held planned.files.held at.read;
  is = at.is;
}

-- a call without a plan is not complete and puts no list
pub leads_unended : (words : List (List ℕ)) (before now : FilesTell) (found : Result Found Unplanned) → ExplainLeadsTo words before now found → IfErr found (λ why. IsUnended why.outcome)
leads_unended words before now (Ok it) leads = tt
leads_unended [] before now (Err why) leads = Check.leads_unended [] before now (Err why) leads
leads_unended (path ∷ words) before now (Err why) leads = Check.leads_unended (path ∷ words) before now (Err why) leads

-- what the files hold stays, whatever the words lead to
pub leads_keep : (words : List (List ℕ)) (before now : FilesTell) (found : Result Found Unplanned) → ExplainLeadsTo words before now found → Becomes before.held now.held SameHeld
leads_keep [] before now (Ok it) leads = absurd leads
leads_keep [] before now (Err why) leads = Check.leads_keep [] before now (Err why) leads
leads_keep (path ∷ words) before now (Ok it) leads = leads.planned.files.held
leads_keep (path ∷ words) before now (Err why) leads = Check.leads_keep (path ∷ words) before now (Err why) leads

-- the lines of what was found were put, or a put failed, or memory ran out for a line
module _ (picture : Bool) (plan : PlanParts) (finding : Finding) where
  pub said_lines : (outcome : ExplainOutcome) (status : ℕ) (before now : SinkTell) → SaysSo finding outcome status → PutsLines (finding_lines picture plan finding) before now (Ok tt) → SaysFound picture plan finding outcome status before now
  said_lines outcome status before now is put = inl (is, put)

  pub unsaid_lines : (outcome : ExplainOutcome) (status : ℕ) (before now : SinkTell) → SaysNot finding outcome status → PutsLines (finding_lines picture plan finding) before now (Err Sinks.Failed) → SaysFound picture plan finding outcome status before now
  unsaid_lines outcome status before now is put = inr (inl (is, put))

  pub short_lines : (before middle now : SinkTell) → PutsLines (finding_lines picture plan finding) before middle (Err Sinks.NoMemory) → IsCutBehind finding middle now → SaysFound picture plan finding Says.Memory 5 before now
  short_lines before middle now put behind = inr (inr (refl, refl, record { middle = middle; first = put; line = behind }))
