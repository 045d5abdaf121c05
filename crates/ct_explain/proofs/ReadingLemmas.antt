-- A text that is read line by line, with its entries and the reason of a refusal.
use Rattle.std.proofs.Common.{◌≡◌, ◌∙◌, sym, ap, subst, ℕ, ◌+◌, ◌<◌, ◌^◌, Bool, true, not, ◌&&◌, List, [], ◌∷◌, ◌++◌, length, get_or, drop, inl, inr, refl, arith, Some, None}
use Rattle.std.specs.Prelude.{◌==◌}
use Rattle.std.proofs.lemmas.Bool.{and_parts, and_from}
use Rattle.std.proofs.lemmas.Bool.Decides.{nat_tests}
use Rattle.std.proofs.lemmas.List.{drop_all, drop_more, length-drop}
use Rattle.ct_history.specs.declared.plan.PlanParts.{PlanParts}
use Rattle.ct_history.specs.declared.history.Entry.{Entry}
use Rattle.ct_history.specs.Rules.{is_idle}
use Rattle.ct_history.specs.Verdicts.{are_all_final}
use Rattle.ct_history.specs.Legal.{IsComplete, is_allowed_so_far, is_legal, is_stop_due}
use Rattle.ct_history.proofs.ProgressLemmas.{idle_empty}
use Rattle.ct_history.specs.declared.audit.Audit.{Audit}
use Rattle.ct_history.specs.Audited.{IsAuditOf, is_at_end}
use Rattle.ct_journal_text.specs.declared.check.Step.TheVariants as Step
use Rattle.ct_journal_text.specs.declared.lines.EntryLine.{EntryLine}
use Rattle.ct_journal_text.specs.declared.lines.JournalLine.TheVariants as Line
use Rattle.ct_journal_text.specs.Guess.{guess_in}
use Rattle.ct_journal_text.specs.Journal.{EntryFits, Says, entry_lines, full_line, journal_line_text, noted}
use Rattle.ct_journal_text.specs.Checked.{FindsEntry, IsNoEntry, TakesEntry, TakesLine}
use Rattle.ct_journal_text.specs.Found.{IsReading, LacksFirst, StandsAt}
use Rattle.ct_journal_text.proofs.CheckLemmas.{takes_done, takes_entry, takes_found, takes_lost}
use Rattle.ct_journal_text.proofs.LineLemmas.{line_again}
use Rattle.ct_journal_text.proofs.TextLemmas.{reads_entry}
use Rattle.ct_explain.specs.declared.why.Why.{Why}
use Rattle.ct_explain.specs.declared.why.Why.TheVariants.{NoLine}
use Rattle.ct_explain.specs.declared.reading.Reading.{Reading}
use Rattle.ct_explain.specs.declared.reading.Reading.TheVariants.{Whole, Broken}
use Rattle.ct_explain.specs.declared.reading.Taken.{Taken}
use Rattle.ct_explain.specs.declared.reading.Taken.TheVariants.{GoesOn, Ends, IsBad}
use Rattle.ct_explain.specs.Reading.{EndsAs, IsDoneAs, IsRefusedWhy, IsRunBehind, IsWhy, NotesAs, ReadsAs, ReadsBehind, TakesAs, TakesEntryAs, TakesThis}

-- what the line of an entry does, by the entry that was found and whether it was noted
pub reads_found : (plan : PlanParts) (front : List Entry) (line : EntryLine) (e : Entry) (taken : Taken) (audit : Audit) → FindsEntry plan line (Some e) → NotesAs plan front e taken audit → TakesEntryAs plan front line taken audit
reads_found plan front line e (GoesOn entry) audit finds notes = (((finds e).0 refl).0 ∙ ap noted (sym notes.0), notes.1, notes.2)
reads_found plan front line e Ends audit finds notes = notes
reads_found plan front line e IsBad audit finds notes = (takes_found plan front line e Step.IsBad audit finds notes.0, notes.1)

-- the line of an entry that was not found
pub reads_lost : (plan : PlanParts) (front : List Entry) (line : EntryLine) (audit : Audit) → FindsEntry plan line None → IsAuditOf plan front audit → TakesEntryAs plan front line IsBad audit
reads_lost plan front line audit finds told = (takes_lost plan front line audit finds, told)

-- what a text that says the line of an entry does
pub reads_said : (plan : PlanParts) (front : List Entry) (text : List ℕ) (line : EntryLine) (taken : Taken) (audit : Audit) → length front < 2 ^ 64 → Says text (Some (Line.Entry line)) → TakesEntryAs plan front line taken audit → TakesAs plan front text taken audit
reads_said plan front text line (GoesOn entry) audit small says takes = record {
  is = ((says (Line.Entry line)).0 refl).1 ∙ ap (λ (l : EntryLine). journal_line_text (Line.Entry l)) takes.0;
  fits = subst EntryFits takes.0 ((says (Line.Entry line)).0 refl).0;
  allowed = takes.1;
  audited = takes.2;
}
reads_said plan front text line Ends audit small says takes = absurd takes
reads_said plan front text line IsBad audit small says takes = (takes_entry plan front text line Step.IsBad audit small says takes.0, takes.1)

-- what a text that says a number of entries does
pub reads_done : (plan : PlanParts) (front : List Entry) (text : List ℕ) (entries : ℕ) (taken : Taken) (audit : Audit) → length front < 2 ^ 64 → Says text (Some (Line.Done entries)) → IsDoneAs plan front entries taken → IsAuditOf plan front audit → TakesAs plan front text taken audit
reads_done plan front text entries (GoesOn entry) audit small says done told = absurd done
reads_done plan front text entries Ends audit small says done told = (takes_done plan front text entries Step.Ends audit small says done, told)
reads_done plan front text entries IsBad audit small says done told = (takes_done plan front text entries Step.IsBad audit small says done, told)

legal_end : (plan : PlanParts) (entries : List Entry) → is_allowed_so_far plan entries ≡ true → is_at_end plan entries ≡ true → (is_legal plan entries ≡ true) × IsComplete plan entries
legal_end plan entries allowed ended =
    let two = and_parts (are_all_final plan entries && is_idle entries) (not (is_stop_due plan entries)) ended in
    let one = and_parts (are_all_final plan entries) (is_idle entries) two.0 in
    (and_from (is_allowed_so_far plan entries) (not (is_stop_due plan entries)) allowed two.1, record { final = one.0; closed = idle_empty entries one.1 })

no_entry_done : (plan : PlanParts) (entries front : List Entry) (line : List ℕ) → length entries < 2 ^ 64 → line ≡ journal_line_text (Line.Done (length entries)) → IsNoEntry plan front line
no_entry_done plan entries front line small is = λ e fits allowed same. (
    let both : journal_line_text (Line.Done (length entries)) ≡ journal_line_text (Line.Entry (noted e)) = sym is ∙ same in
    let one : Line.Done (length entries) ≡ Line.Entry (noted e) = sym (line_again (Line.Done (length entries)) small) ∙ ap guess_in both ∙ line_again (Line.Entry (noted e)) fits in
    cc)

module _ (plan : PlanParts) (text : List ℕ) (at count byte : ℕ) (old : Audit) (line : List ℕ) (entries : List Entry) (lt : at < length text) (is : byte ≡ get_or text at 0) (feed : byte ≡ 10) (reading : IsReading plan text at old line count entries) where
  rest_is : drop at text ≡ 10 ∷ drop (at + 1) text
  rest_is = drop_more text at 0 lt ∙ ap (λ (b : ℕ). b ∷ drop (at + 1) text) (sym is ∙ feed)

  -- the line of one entry more
  pub reads_more : (e : Entry) (new : Audit) (none : List ℕ) → none ≡ [] → TakesThis plan entries line e new → IsReading plan text (at + 1) new none (count + 1) (entries ++ e ∷ [])
  reads_more e new none empty takes =
      let this : TakesEntry plan entries line new = record { entry = e; is = takes.is; fits = takes.fits; allowed = takes.allowed; audited = takes.audited } in
      reads_entry plan text at count byte old new line none entries lt is feed empty reading this

  -- a line that is not good
  pub reads_bad : (new : Audit) (why : Why) (number : ℕ) → TakesLine plan entries line Step.IsBad new → IsWhy plan entries line why → number ≡ count + 2 → IsRefusedWhy plan text number why
  reads_bad new why number takes reason here = record {
    refused = record {
      entries = entries;
      line = line;
      rest = 10 ∷ drop (at + 1) text;
      stands = subst (λ (r : List ℕ). StandsAt plan text entries line r) rest_is reading.stands;
      bad = (refl, takes.0, λ last ended none. takes.1 last ended);
      number_is = here ∙ ap (λ (n : ℕ). n + 2) reading.count_is;
    };
    reason = reason;
  }

  some_left : at + 1 < length text → drop (at + 1) text ≡ [] → ⊥
  some_left less none = omega (arith, length-drop (at + 1) text, ap length none, less)

  -- the last line, and what stands behind it
  pub reads_last : (new : Audit) (ends : Bool) (found : Reading) → length text < 2 ^ 64 → ends ≡ (at + 1 == length text) → TakesLine plan entries line Step.Ends new → EndsAs plan entries line ends found → ReadsBehind plan text found
  reads_last new ends (Whole others) small whether takes found =
      let whole : length text ≡ at + 1 = grind (arith, nat_tests, whether, found.0) in
      let none : drop (at + 1) text ≡ [] = drop_all (at + 1) text (omega (arith, whole)) in
      let legal = legal_end plan entries reading.stands.allowed takes.1 in
      let run : IsRunBehind plan text entries = record {
        text_is = reading.stands.text_is ∙ ap (λ (r : List ℕ). entry_lines entries ++ (line ++ r)) (rest_is ∙ ap (λ (r : List ℕ). 10 ∷ r) none) ∙ ap (λ (l : List ℕ). entry_lines entries ++ (l ++ 10 ∷ [])) takes.0;
        fit = reading.stands.fit;
        legal = legal.0;
        complete = legal.1;
      } in
      subst (λ (es : List Entry). IsRunBehind plan text es) (sym found.1) run
  reads_last new ends (Broken number why) small whether takes found =
      let more : at + 1 < length text = grind (arith, nat_tests, whether, found.0, lt) in
      let few : length entries < 2 ^ 64 = omega (arith, reading.few, reading.count_is, lt, small) in
      record {
        refused = record {
          entries = entries;
          line = line;
          rest = 10 ∷ drop (at + 1) text;
          stands = subst (λ (r : List ℕ). StandsAt plan text entries line r) rest_is reading.stands;
          bad = (refl, no_entry_done plan entries entries line few takes.0, λ last ended none. some_left more none);
          number_is = found.1;
        };
        reason = found.2;
      }

-- the text ends in its line
pub reads_cut : (plan : PlanParts) (text : List ℕ) (at count number : ℕ) (audit : Audit) (line : List ℕ) (entries : List Entry) → drop at text ≡ [] → number ≡ count + 2 → IsReading plan text at audit line count entries → IsRefusedWhy plan text number NoLine
reads_cut plan text at count number audit line entries none here reading = record {
  refused = record {
    entries = entries;
    line = line;
    rest = [];
    stands = subst (λ (r : List ℕ). StandsAt plan text entries line r) none reading.stands;
    bad = tt;
    number_is = here ∙ ap (λ (n : ℕ). n + 2) reading.count_is;
  };
  reason = refl;
}

-- what is found behind the first line, for the whole text
pub reads_whole : (plan : PlanParts) (text rest : List ℕ) (found : Reading) → text ≡ full_line Line.First ++ rest → ReadsBehind plan rest found → ReadsAs plan text found
reads_whole plan text rest (Whole entries) is run = record {
  text_is = is ∙ ap (λ (r : List ℕ). full_line Line.First ++ r) run.text_is;
  fit = run.fit;
  legal = run.legal;
  complete = run.complete;
}
reads_whole plan text rest (Broken number why) is refused = inr (record { rest = rest; text_is = is; behind = refused })

-- a text without the first line
pub reads_none : (plan : PlanParts) (text : List ℕ) → LacksFirst text → ReadsAs plan text (Broken 1 NoLine)
reads_none plan text lacks = inl (refl, refl, lacks)
