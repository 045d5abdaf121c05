-- What is known of a run whose journal is kept, and of the line of its end.
use Rattle.std.proofs.Common.{◌≡◌, ◌∙◌, sym, ℕ, List, [], ◌∷◌, Err, refl, inl, inr}
use Rattle.std.specs.Prelude.{IfSome, IsSomeAnd, Option, Some, None, Result, Ok}
use Rattle.ct_base.specs.declared.memory.NoMemory.{NoMemory}
use Rattle.ct_base.specs.declared.sink.SinkFault.TheVariants as Sinks
use Rattle.ct_base.specs.Outside.{FilesTell, Puts, PutsEach, SinkTell}
use Rattle.ct_report.proofs.PutLemmas.{lines_none, one_line}
use Rattle.ct_history.specs.declared.plan.PlanParts.{PlanParts}
use Rattle.ct_history.specs.declared.history.Entry.{Entry}
use Rattle.ct_journal_text.specs.Journal.{EntriesFit, journal_of}
use Rattle.ct_journal_text.specs.Found.{IsAccepted}
use Rattle.ct_app.specs.declared.outcome.Outcome.{Outcome}
use Rattle.ct_app.specs.declared.outcome.Outcome.TheVariants as Ran
use Rattle.ct_app.specs.Calls.{Sides}
use Rattle.ct_app.specs.Ends.{PutsFault}
use Rattle.ct_app.specs.Outcome.{fault_line}
use Rattle.ct_app.specs.MeantRuns.{AnswersAsMeant, RanAsMeant}
use Rattle.ct_app.specs.Planning.{HasPlan}
use Rattle.ct_journal.specs.declared.record.JournalEnd.{JournalEnd}
use Rattle.ct_journal.specs.declared.record.JournalEnd.TheVariants.{Written, NoRun, TooLong, FilesFault, Memory}
use Rattle.ct_journal.specs.Record.{AcceptsWritten, IsJournalEnd, TellsEnd, TriesLine, WritesJournal, run_end}
use Rattle.ct_journal.specs.RecordPlan.{without_order}
use Rattle.ct_journal.specs.RecordReads.{ReadsAlike, RechecksWritten}
use Rattle.ct_journal.proofs.RecordPlanLemmas.{complete_same, legal_same}
use Rattle.ct_journal.proofs.RecordReadLemmas.{told_alike}

-- the journal of a completed run is accepted for its plan, and for each plan that differs from it in the order of the starts alone
pub is_accepted : (s : Sides) (status : ℕ) (plan : Option PlanParts) (history : Option (List Entry)) → IfSome history EntriesFit → IsSomeAnd plan (λ plan. IsSomeAnd history (λ entries. RanAsMeant s status plan entries)) → IsSomeAnd plan (λ plan. IsSomeAnd history (λ entries. (other : PlanParts) → without_order plan ≡ without_order other → IsAccepted other (journal_of entries)))
is_accepted s status None history fit ran = absurd ran
is_accepted s status (Some plan) None fit ran = absurd ran
is_accepted s status (Some plan) (Some entries) fit ran =
    λ other same.
    record {
      entries = entries;
      text_is = refl;
      fit = fit;
      legal = sym (legal_same plan other entries same) ∙ ran.run.ran.ran.legal;
      complete = complete_same plan other entries same ran.completed.reported.complete;
    }

-- what became of the journal of a completed run, and of its line, is what its end means
pub journal_ends : (most : ℕ) (path : List ℕ) (entries : List Entry) (files_then files_now : FilesTell) (sink_then sink_now : SinkTell) (told : Result (Unit {0}) NoMemory) (end : JournalEnd) → WritesJournal most path (journal_of entries) files_then files_now end → TellsEnd path sink_then sink_now told end → IsJournalEnd (run_end most path Ran.Completed (Some entries) files_then files_now sink_then sink_now) told end
journal_ends most path entries files_then files_now sink_then sink_now told Written writes line = record { completed = refl; journal = writes; line = line }
journal_ends most path entries files_then files_now sink_then sink_now told NoRun writes line = absurd writes
journal_ends most path entries files_then files_now sink_then sink_now told TooLong writes line = record { completed = refl; journal = writes; line = line }
journal_ends most path entries files_then files_now sink_then sink_now told FilesFault writes line = record { completed = refl; journal = writes; line = line }
journal_ends most path entries files_then files_now sink_then sink_now told Memory writes line = record { completed = refl; journal = writes; line = line }

-- a line that was put whole was tried
pub tries_put : (old new : SinkTell) (line : List ℕ) → Puts line old new (Ok tt) → PutsEach (line ∷ []) old new (Ok tt) → TriesLine line old new (Ok tt)
tries_put old new line puts each = inl (one_line old new line (Ok tt) puts each)

-- a line whose put failed was tried
pub tries_failed : (old new : SinkTell) (line : List ℕ) → Puts line old new (Err Sinks.Failed) → PutsEach (line ∷ []) old new (Err Sinks.Failed) → TriesLine line old new (Ok tt)
tries_failed old new line puts each = inr (one_line old new line (Err Sinks.Failed) puts each)

-- of a line for which memory ran out in its put that is told
pub lacks_put : (old new : SinkTell) (line : List ℕ) (wanting : NoMemory) → Puts line old new (Err Sinks.NoMemory) → PutsEach (line ∷ []) old new (Err Sinks.NoMemory) → TriesLine line old new (Err wanting)
lacks_put old new line wanting puts each = one_line old new line (Err Sinks.NoMemory) puts each

-- of a line for which memory ran out at once that is told
pub lacks_line : (sink : SinkTell) (line : List ℕ) (wanting : NoMemory) → TriesLine line sink sink (Err wanting)
lacks_line sink line wanting = lines_none sink (line ∷ [])

-- the line of a path that cannot be used was tried, unless it is answered that memory ran out
pub tries_reported : (path : List ℕ) (answered : Outcome) (old new : SinkTell) → PutsFault [] (Ran.FilesFault path) answered old new → (answered ≡ Ran.Memory → ⊥) → TriesLine (fault_line [] (Ran.FilesFault path)) old new (Ok tt)
tries_reported path answered old new (inl put) other = put.1
tries_reported path answered old new (inr lack) other = absurd (other lack.0)

-- where it is answered that memory ran out, it ran out for the line
pub lacks_reported : (path : List ℕ) (answered : Outcome) (old new : SinkTell) (wanting : NoMemory) → PutsFault [] (Ran.FilesFault path) answered old new → answered ≡ Ran.Memory → TriesLine (fault_line [] (Ran.FilesFault path)) old new (Err wanting)
lacks_reported path answered old new wanting (inl put) is = let other : Ran.FilesFault path ≡ Ran.Memory = sym put.0 ∙ is in absurd (cc)
lacks_reported path answered old new wanting (inr lack) is = lack.1

-- a journal that was written behind a run is accepted
pub accepts_run : (s : Sides) (outcome : Outcome) (status : ℕ) (most : ℕ) (path : List ℕ) (files_then files_now : FilesTell) (sink_then sink_now : SinkTell) (told : Result (Unit {0}) NoMemory) (end : JournalEnd) → AnswersAsMeant s outcome status → IsJournalEnd (run_end most path outcome s.history files_then files_now sink_then sink_now) told end → (end ≡ Written → IfSome s.history EntriesFit) → AcceptsWritten s.plan s.history end
accepts_run s outcome status most path files_then files_now sink_then sink_now told Written meant journal fit = λ is. is_accepted s status s.plan s.history (fit is) (meant journal.completed)
accepts_run s outcome status most path files_then files_now sink_then sink_now told NoRun meant journal fit = λ is. absurd (cc)
accepts_run s outcome status most path files_then files_now sink_then sink_now told TooLong meant journal fit = λ is. absurd (cc)
accepts_run s outcome status most path files_then files_now sink_then sink_now told FilesFault meant journal fit = λ is. absurd (cc)
accepts_run s outcome status most path files_then files_now sink_then sink_now told Memory meant journal fit = λ is. absurd (cc)

-- the journal of a completed run is accepted for each plan that its words have where the files read alike
pub rechecks : (s : Sides) (status : ℕ) (plan : Option PlanParts) (history : Option (List Entry)) → IfSome history EntriesFit → IsSomeAnd plan (λ plan. IsSomeAnd history (λ entries. RanAsMeant s status plan entries)) → IsSomeAnd history (λ entries. (before now : FilesTell) (other : PlanParts) → ReadsAlike s.words s.files.before.held before.held → HasPlan s.words before now other → IsAccepted other (journal_of entries))
rechecks s status None history fit ran = absurd ran
rechecks s status (Some plan) None fit ran = absurd ran
rechecks s status (Some plan) (Some entries) fit ran =
    λ before now other reads has.
    is_accepted s status (Some plan) (Some entries) fit ran other
    (told_alike s.words s.files.before.held before.held ran.invocation has.invocation ran.source has.source plan other reads ran.run.words has.words_are ran.run.read has.read ran.run.ran.planned has.planned)

-- a journal that was written behind a run is accepted for each plan that its words have where the files read alike
pub rechecks_run : (s : Sides) (outcome : Outcome) (status : ℕ) (most : ℕ) (path : List ℕ) (files_then files_now : FilesTell) (sink_then sink_now : SinkTell) (told : Result (Unit {0}) NoMemory) (end : JournalEnd) → AnswersAsMeant s outcome status → IsJournalEnd (run_end most path outcome s.history files_then files_now sink_then sink_now) told end → (end ≡ Written → IfSome s.history EntriesFit) → RechecksWritten s.words s.files.before.held s.history end
rechecks_run s outcome status most path files_then files_now sink_then sink_now told Written meant journal fit = λ is. rechecks s status s.plan s.history (fit is) (meant journal.completed)
rechecks_run s outcome status most path files_then files_now sink_then sink_now told NoRun meant journal fit = λ is. absurd (cc)
rechecks_run s outcome status most path files_then files_now sink_then sink_now told TooLong meant journal fit = λ is. absurd (cc)
rechecks_run s outcome status most path files_then files_now sink_then sink_now told FilesFault meant journal fit = λ is. absurd (cc)
rechecks_run s outcome status most path files_then files_now sink_then sink_now told Memory meant journal fit = λ is. absurd (cc)
