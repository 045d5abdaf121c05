-- The check of a journal that a run left refuses nothing, where the files hold the same as when the run began.
use Rattle.std.proofs.Common.{◌≡◌, ◌∙◌, sym, subst, Bool, true, false, ℕ, ◌<◌, ◌≤◌, List, length, refl, arith, inl, inr}
use Rattle.std.specs.Prelude.{IfSome, IsSomeAnd, Option, Some, None, Result}
use Rattle.ct_base.specs.declared.memory.NoMemory.{NoMemory}
use Rattle.ct_base.specs.declared.defs.Resource.{Resource}
use Rattle.ct_base.specs.Outside.{FilesTell, Held, SinkTell}
use Rattle.ct_graph.specs.Order.{most_edges}
use Rattle.ct_history.specs.declared.plan.PlanParts.{PlanParts}
use Rattle.ct_history.specs.declared.history.Entry.{Entry}
use Rattle.ct_journal_text.specs.Journal.{EntriesFit, journal_of}
use Rattle.ct_journal_text.specs.Found.{IsAccepted}
use Rattle.ct_args.specs.declared.invocation.Invocation.{Invocation}
use Rattle.ct_plan.specs.PlanOf.{IsPlanOf}
use Rattle.ct_plan.specs.Source.{Source, edge_count}
use Rattle.ct_app.specs.declared.outcome.Outcome.{Outcome}
use Rattle.ct_app.specs.Calls.{Sides, list_sides}
use Rattle.ct_app.specs.Complete.{IsRunnable}
use Rattle.ct_app.specs.MeantRuns.{AnswersAsMeant, RanAsMeant}
use Rattle.ct_app.specs.Planning.{HasPlan}
use Rattle.ct_app.specs.Reading.{AskFor, IsSource}
use Rattle.ct_app.specs.Rerun.{AreOnly, last_failed}
use Rattle.ct_app.specs.RunFiles.{last_costs}
use Rattle.ct_app.specs.SpecFile.{AreLent, declared_in}
use Rattle.ct_app.proofs.CompleteLemmas.{refusal_never, words_never}
use Rattle.ct_journal.specs.declared.check.CheckOutcome.{CheckOutcome}
use Rattle.ct_journal.specs.declared.check.CheckOutcome.TheVariants as Says
use Rattle.ct_journal.specs.declared.record.JournalEnd.{JournalEnd}
use Rattle.ct_journal.specs.declared.record.JournalEnd.TheVariants.{Written, NoRun, TooLong, FilesFault, Memory}
use Rattle.ct_journal.specs.Check.{AnswersFor}
use Rattle.ct_journal.specs.CheckFound.{IsBadJournal, IsLongJournal, IsReadOf}
use Rattle.ct_journal.specs.File.{HasJournalSize, most_journal_bytes}
use Rattle.ct_journal.specs.Record.{IsJournalEnd, run_end}
use Rattle.ct_journal.specs.RecordAgain.{ChecksAgain, HoldsText, IsNotRefused}
use Rattle.ct_journal.specs.RecordReads.{ReadsAlike}
use Rattle.ct_journal.proofs.AcyclicLemmas.{no_cycle}
use Rattle.ct_journal.proofs.RecordLemmas.{rechecks}
use Rattle.ct_journal.proofs.RecordPathLemmas.{reads_alike}

-- names of the log that were read are read again
only_again : (one other : Held) (rerun : Bool) (dir : List ℕ) (names : Option (List (List ℕ))) → (rerun ≡ true → last_failed dir one ≡ last_failed dir other) → AreOnly (Some one) rerun dir names → AreOnly (Some other) rerun dir names
only_again one other false dir names log is = is
only_again one other true dir None log is = is
only_again one other true dir (Some names) log is = is ∙ log refl

-- resources that were read are read again
lent_again : (one other : Held) (file : Option (List ℕ)) (rs : Option (List Resource)) → IfSome file (λ path. declared_in (one path) ≡ declared_in (other path)) → AreLent (Some one) file rs → AreLent (Some other) file rs
lent_again one other None rs spec is = is
lent_again one other (Some path) None spec is = is
lent_again one other (Some path) (Some rs) spec is = sym spec ∙ is

-- a run can be made again of what a run was made of
runnable_again : (words : List (List ℕ)) (held : Held) (invocation : Invocation) (source : Source) (plan : PlanParts) → AskFor words invocation → IsSource (Some held) invocation source → edge_count source ≤ most_edges → IsPlanOf source plan → (files files_now : FilesTell) (sink sink_now : SinkTell) (retold : Option Held) → files.held ≡ retold → ReadsAlike words (Some held) retold → IsRunnable (list_sides words files files_now sink sink_now)
runnable_again words held invocation source plan asked read few planned files files_now sink sink_now None is reads = absurd reads
runnable_again words held invocation source plan asked read few planned files files_now sink sink_now (Some later) is reads =
    let alike = reads invocation asked in
    record {
      invocation = invocation;
      words = asked;
      held = later;
      told = is;
      source = record source { costs = last_costs invocation.wanted.dir later };
      read = record {
        tests = record { tree = sym alike.tree ∙ read.tests.tree; have = read.tests.have };
        only = only_again held later invocation.rerun invocation.wanted.dir source.wanted.choice.only alike.log read.only;
        wanted = read.wanted;
        resources = lent_again held later invocation.spec_file source.resources alike.spec read.resources;
        costs = refl;
      };
      few = few;
      no_cycle = no_cycle source plan planned;
    }

-- a text that a path holds is read of it, where it has the size of a journal
read_back : (told : Option Held) (path text : List ℕ) (found : Option (List ℕ)) → HoldsText told path text → IfSome told (λ held. IsReadOf (held path) found) → HasJournalSize text → found ≡ Some text
read_back None path text found holds read size = absurd holds
read_back (Some held) path text found holds (inl same) size = same ∙ holds
read_back (Some held) path text found holds (inr (long, also)) size =
    let over : most_journal_bytes < length text = subst IsLongJournal holds long in
    absurd (omega (arith, over, size))

-- the journal of a plan is not bad for it
not_bad : (plan : PlanParts) (found : Option (List ℕ)) (text : List ℕ) (line : ℕ) → found ≡ Some text → IsAccepted plan text → IsBadJournal plan found line → ⊥
not_bad plan None text line is accepted bad = absurd (cc)
not_bad plan (Some other) text line is accepted bad =
    let same : other ≡ text = cc in
    let none : Some line ≡ None = bad.2 None (subst (IsAccepted plan) (sym same) accepted) in
    absurd (cc)

not_long : (found : Option (List ℕ)) (text : List ℕ) → found ≡ Some text → HasJournalSize text → IsLongJournal found → ⊥
not_long found text is size long =
    let over : most_journal_bytes < length text = subst IsLongJournal is long in
    omega (arith, over, size)

-- a check refuses nothing where a run of its words can be made, and the text that the path holds is the
-- journal for each plan of the words
unrefused : (path : List ℕ) (words : List (List ℕ)) (text : List ℕ) (files files_now : FilesTell) (sink sink_now : SinkTell) (outcome : CheckOutcome) (status : ℕ) → IsRunnable (list_sides words files files_now sink sink_now) → HasJournalSize text → HoldsText files.held path text → ((plan : PlanParts) → HasPlan words files files_now plan → IsAccepted plan text) → AnswersFor path (list_sides words files files_now sink sink_now) outcome status → IsNotRefused outcome
unrefused path words text files files_now sink sink_now Says.Yes status can size holds accepts answer = tt
unrefused path words text files files_now sink sink_now (Says.No line) status can size holds accepts answer =
    let was = answer.0 in
    absurd (not_bad was.plan was.found text line (read_back files.held path text was.found holds was.read size) (accepts was.plan was.planned) was.holds.0)
unrefused path words text files files_now sink sink_now Says.TooLong status can size holds accepts answer =
    let was = answer.0 in
    absurd (not_long was.found text (read_back files.held path text was.found holds was.read size) size was.holds.0)
unrefused path words text files files_now sink sink_now (Says.Usage word kind) status can size holds accepts answer =
    absurd (words_never (list_sides words files files_now sink sink_now) can word kind answer.0)
unrefused path words text files files_now sink sink_now (Says.Refused refusal) status can size holds accepts answer =
    absurd (refusal_never (list_sides words files files_now sink sink_now) can refusal answer.0.names answer.0.refused)
unrefused path words text files files_now sink sink_now (Says.FilesFault failed) status can size holds accepts answer = tt
unrefused path words text files files_now sink sink_now Says.OutputFault status can size holds accepts answer = tt
unrefused path words text files files_now sink sink_now Says.Memory status can size holds accepts answer = tt

-- a check refuses nothing where what is read for its words reads as it did for a run
unrefused_alike : (words : List (List ℕ)) (told : Option Held) (invocation : Invocation) (source : Source) (plan : PlanParts) (text : List ℕ) → AskFor words invocation → IsSource told invocation source → edge_count source ≤ most_edges → IsPlanOf source plan → ((before now : FilesTell) (other : PlanParts) → ReadsAlike words told before.held → HasPlan words before now other → IsAccepted other text) → HasJournalSize text → (path : List ℕ) (files files_now : FilesTell) (sink sink_now : SinkTell) (outcome : CheckOutcome) (status : ℕ) → ReadsAlike words told files.held → HoldsText files.held path text → AnswersFor path (list_sides words files files_now sink sink_now) outcome status → IsNotRefused outcome
unrefused_alike words None invocation source plan text asked read few planned accepts size path files files_now sink sink_now outcome status reads holds answer = absurd reads
unrefused_alike words (Some held) invocation source plan text asked read few planned accepts size path files files_now sink sink_now outcome status reads holds answer =
    unrefused path words text files files_now sink sink_now outcome status
    (runnable_again words held invocation source plan asked read few planned files files_now sink sink_now files.held refl reads)
    size holds (λ other has. accepts files files_now other reads has) answer

-- a journal that was written behind a run is not refused again
checks : (s : Sides) (status : ℕ) (plan : Option PlanParts) (history : Option (List Entry)) → IfSome history EntriesFit → IsSomeAnd history (λ entries. HasJournalSize (journal_of entries)) → IsSomeAnd plan (λ plan. IsSomeAnd history (λ entries. RanAsMeant s status plan entries)) → ChecksAgain s.words s.files.before.held history Written
checks s status None history fit size ran = absurd ran
checks s status (Some plan) None fit size ran = absurd ran
checks s status (Some plan) (Some entries) fit size ran =
    λ is path files files_now sink sink_now outcome ended alike holds answer.
    unrefused_alike s.words s.files.before.held ran.invocation ran.source plan (journal_of entries) ran.run.words ran.run.read ran.run.ran.few ran.run.ran.planned
    (rechecks s status (Some plan) (Some entries) fit ran) size path files files_now sink sink_now outcome ended
    (reads_alike s.words s.files.before.held files.held alike) holds answer

-- the journal that was written within a limit of a check has the size of one
sized : (most : ℕ) (history : Option (List Entry)) (Rest : List Entry → Type 0) → most ≤ most_journal_bytes → IsSomeAnd history (λ entries. (length (journal_of entries) ≤ most) × Rest entries) → IsSomeAnd history (λ entries. HasJournalSize (journal_of entries))
sized most None Rest checked has = has
sized most (Some entries) Rest checked has = let within = has.0 in omega (arith, within, checked)

-- a journal that was written behind a run is not refused by a check of the words of the run
pub checks_run : (s : Sides) (outcome : Outcome) (status : ℕ) (most : ℕ) (path : List ℕ) (files_then files_now : FilesTell) (sink_then sink_now : SinkTell) (told : Result (Unit {0}) NoMemory) (end : JournalEnd) → most ≤ most_journal_bytes → AnswersAsMeant s outcome status → IsJournalEnd (run_end most path outcome s.history files_then files_now sink_then sink_now) told end → (end ≡ Written → IfSome s.history EntriesFit) → ChecksAgain s.words s.files.before.held s.history end
checks_run s outcome status most path files_then files_now sink_then sink_now told Written checked meant journal fit =
    checks s status s.plan s.history (fit refl) (sized most s.history _ checked journal.journal) (meant journal.completed)
checks_run s outcome status most path files_then files_now sink_then sink_now told NoRun checked meant journal fit = λ is. absurd (cc)
checks_run s outcome status most path files_then files_now sink_then sink_now told TooLong checked meant journal fit = λ is. absurd (cc)
checks_run s outcome status most path files_then files_now sink_then sink_now told FilesFault checked meant journal fit = λ is. absurd (cc)
checks_run s outcome status most path files_then files_now sink_then sink_now told Memory checked meant journal fit = λ is. absurd (cc)
