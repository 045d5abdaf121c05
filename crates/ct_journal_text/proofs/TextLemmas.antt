-- A text that is read line by line: what was read so far, and what the last line says of it.
use Rattle.std.proofs.Common.{◌≡◌, ◌∙◌, sym, ap, subst, ℕ, ◌+◌, ◌-◌, ◌≤◌, take, ◌<◌, ◌^◌, Bool, true, false, not, ◌&&◌, List, [], ◌∷◌, ◌++◌, length, get_or, drop, inr, length-append, append_assoc, refl, arith, Option, Some, None}
use Rattle.std.specs.Prelude.{◌==◌, ◌||◌, if◌then◌else◌}
use Rattle.std.specs.List.{list_any}
use Rattle.std.proofs.lemmas.Bool.{and_parts, and_from}
use Rattle.std.proofs.lemmas.Bool.Decides.{nat_tests}
use Rattle.std.proofs.lemmas.Grind.{flat_map-append}
use Rattle.std.proofs.lemmas.List.{append-nil, drop_all, drop_more, get_or-drop, length-drop, take_more}
use Rattle.std.proofs.lemmas.List.Folds.{list_any-append}
use Rattle.ct_history.specs.declared.plan.PlanParts.{PlanParts}
use Rattle.ct_history.specs.declared.history.Entry.{Entry}
use Rattle.ct_history.specs.Rules.{is_idle}
use Rattle.ct_history.specs.Verdicts.{are_all_final}
use Rattle.ct_history.specs.Legal.{IsComplete, is_allowed_so_far, is_legal, is_stop_due}
use Rattle.ct_history.proofs.LegalLemmas.{allowed-snoc}
use Rattle.ct_history.proofs.ProgressLemmas.{idle_empty}
use Rattle.ct_history.specs.declared.audit.Audit.{Audit}
use Rattle.ct_history.specs.Audited.{IsAuditOf, is_at_end}
use Rattle.ct_journal_text.specs.declared.check.Step.TheVariants.{GoesOn, Ends, IsBad}
use Rattle.ct_journal_text.specs.declared.lines.JournalLine.TheVariants as Line
use Rattle.ct_journal_text.specs.Guess.{guess_in}
use Rattle.ct_journal_text.specs.Journal.{EntriesFit, EntryFits, entry_lines, full_line, journal_line_text, noted}
use Rattle.ct_journal_text.specs.Checked.{IsNoEntry, TakesLine}
use Rattle.ct_journal_text.specs.Found.{Finds, FindsBehind, IsReading, StandsAt}
use Rattle.ct_journal_text.proofs.LineLemmas.{line_again}

fit_snoc : (entries : List Entry) (e : Entry) → EntriesFit entries → EntryFits (noted e) → EntriesFit (entries ++ e ∷ [])
fit_snoc [] e fit one = (one, tt)
fit_snoc (first ∷ rest) e fit one = (fit.0, fit_snoc rest e fit.1 one)

-- a line with one byte more of its text
pub line_more : (text : List ℕ) (start at : ℕ) → start ≤ at → at < length text → take (at + 1 - start) (drop start text) ≡ take (at - start) (drop start text) ++ get_or text at 0 ∷ []
line_more text start at le lt =
    let more : at + 1 - start ≡ (at - start) + 1 = omega (arith, le) in
    let here : start + (at - start) ≡ at = omega (arith, le) in
    let within : at - start < length (drop start text) = omega (arith, length-drop start text, le, lt) in
    ap (λ (n : ℕ). take n (drop start text)) more
    ∙ take_more (drop start text) (at - start) 0 within
    ∙ ap (λ (b : ℕ). take (at - start) (drop start text) ++ b ∷ []) (get_or-drop start text (at - start) 0 ∙ ap (λ (n : ℕ). get_or text n 0) here)

-- a line of which nothing was read
pub line_none : (text : List ℕ) (at : ℕ) → take (at - at) (drop at text) ≡ []
line_none text at = let none : at - at ≡ 0 = omega arith in ap (λ (n : ℕ). take n (drop at text)) none

module _ (plan : PlanParts) (text : List ℕ) where
  -- nothing was read yet
  pub reads_none : (audit : Audit) (line : List ℕ) → IsAuditOf plan [] audit → line ≡ [] → IsReading plan text 0 audit line 0 []
  reads_none audit line audited none = record {
    audited = audited;
    stands = record { fit = tt; allowed = refl; text_is = ap (λ (l : List ℕ). l ++ text) (sym none); one = ap (list_any (λ (byte : ℕ). byte == 10)) none };
    count_is = refl;
    few = omega arith;
  }

  -- one byte more of a line
  pub reads_byte : (at count byte : ℕ) (audit : Audit) (line : List ℕ) (entries : List Entry) → at < length text → byte ≡ get_or text at 0 → (byte ≡ 10 → ⊥) → IsReading plan text at audit line count entries → IsReading plan text (at + 1) audit (line ++ byte ∷ []) count entries
  reads_byte at count byte audit line entries lt is plain reading =
      let other : (byte == 10) ≡ false = grind (arith, nat_tests, plain) in
      let next : drop at text ≡ byte ∷ drop (at + 1) text = drop_more text at 0 lt ∙ ap (λ (b : ℕ). b ∷ drop (at + 1) text) (sym is) in
      record {
        audited = reading.audited;
        stands = record {
          fit = reading.stands.fit;
          allowed = reading.stands.allowed;
          text_is = reading.stands.text_is ∙ ap (λ (r : List ℕ). entry_lines entries ++ (line ++ r)) next ∙ ap (λ (r : List ℕ). entry_lines entries ++ r) (sym (append_assoc line (byte ∷ []) (drop (at + 1) text)));
          one = list_any-append (λ (b : ℕ). b == 10) line (byte ∷ []) ∙ ap (λ (b : Bool). b || (byte == 10 || false)) reading.stands.one ∙ ap (λ (b : Bool). b || false) other;
        };
        count_is = reading.count_is;
        few = omega (arith, reading.few);
      }

  -- the line of one entry more
  pub reads_entry : (at count byte : ℕ) (old new : Audit) (line none : List ℕ) (entries : List Entry) → at < length text → byte ≡ get_or text at 0 → byte ≡ 10 → none ≡ [] → IsReading plan text at old line count entries → (takes : TakesLine plan entries line GoesOn new) → IsReading plan text (at + 1) new none (count + 1) (entries ++ takes.entry ∷ [])
  reads_entry at count byte old new line none entries lt is feed empty reading takes =
      let e = takes.entry in
      let next : drop at text ≡ 10 ∷ drop (at + 1) text = drop_more text at 0 lt ∙ ap (λ (b : ℕ). b ∷ drop (at + 1) text) (sym is ∙ feed) in
      let full : full_line (Line.Entry (noted e)) ≡ line ++ 10 ∷ [] = ap (λ (l : List ℕ). l ++ 10 ∷ []) (sym takes.is) in
      let lines : entry_lines (entries ++ e ∷ []) ≡ entry_lines entries ++ (line ++ 10 ∷ []) =
      flat_map-append (λ (x : Entry). full_line (Line.Entry (noted x))) entries (e ∷ []) ∙ ap (λ (l : List ℕ). entry_lines entries ++ l) (append-nil (full_line (Line.Entry (noted e))) ∙ full) in
      record {
        audited = takes.audited;
        stands = record {
          fit = fit_snoc entries e reading.stands.fit takes.fits;
          allowed = allowed-snoc plan entries e reading.stands.allowed takes.allowed;
          text_is =
              reading.stands.text_is
              ∙ ap (λ (r : List ℕ). entry_lines entries ++ (line ++ r)) next
              ∙ ap (λ (r : List ℕ). entry_lines entries ++ r) (sym (append_assoc line (10 ∷ []) (drop (at + 1) text)))
              ∙ sym (append_assoc (entry_lines entries) (line ++ 10 ∷ []) (drop (at + 1) text))
              ∙ ap (λ (l : List ℕ). l ++ drop (at + 1) text) (sym lines)
              ∙ ap (λ (l : List ℕ). entry_lines (entries ++ e ∷ []) ++ (l ++ drop (at + 1) text)) (sym empty);
          one = ap (list_any (λ (b : ℕ). b == 10)) empty;
        };
        count_is = omega (arith, reading.count_is, length-append entries (e ∷ []));
        few = omega (arith, reading.few);
      }

  -- a line that is not good
  pub finds_bad : (at count byte : ℕ) (old new : Audit) (line : List ℕ) (entries : List Entry) → at < length text → byte ≡ get_or text at 0 → byte ≡ 10 → IsReading plan text at old line count entries → TakesLine plan entries line IsBad new → FindsBehind plan text (Some (count + 2))
  finds_bad at count byte old new line entries lt is feed reading takes =
      let next : drop at text ≡ 10 ∷ drop (at + 1) text = drop_more text at 0 lt ∙ ap (λ (b : ℕ). b ∷ drop (at + 1) text) (sym is ∙ feed) in
      record {
        entries = entries;
        line = line;
        rest = 10 ∷ drop (at + 1) text;
        stands = subst (λ (r : List ℕ). StandsAt plan text entries line r) next reading.stands;
        bad = (refl, takes.0, λ last ended none. takes.1 last ended);
        number_is = ap (λ (n : ℕ). n + 2) reading.count_is;
      }

  -- the text ends in its line
  pub finds_cut : (at count : ℕ) (audit : Audit) (line : List ℕ) (entries : List Entry) → drop at text ≡ [] → IsReading plan text at audit line count entries → FindsBehind plan text (Some (count + 2))
  finds_cut at count audit line entries none reading = record {
    entries = entries;
    line = line;
    rest = [];
    stands = subst (λ (r : List ℕ). StandsAt plan text entries line r) none reading.stands;
    bad = tt;
    number_is = ap (λ (n : ℕ). n + 2) reading.count_is;
  }

  -- the last line is that of no entry
  no_entry_done : (entries front : List Entry) (line : List ℕ) → length entries < 2 ^ 64 → line ≡ journal_line_text (Line.Done (length entries)) → IsNoEntry plan front line
  no_entry_done entries front line small is = λ e fits allowed same. (
      let both : journal_line_text (Line.Done (length entries)) ≡ journal_line_text (Line.Entry (noted e)) = sym is ∙ same in
      let one : Line.Done (length entries) ≡ Line.Entry (noted e) = sym (line_again (Line.Done (length entries)) small) ∙ ap guess_in both ∙ line_again (Line.Entry (noted e)) fits in
      cc)

  legal_end : (entries : List Entry) → is_allowed_so_far plan entries ≡ true → is_at_end plan entries ≡ true → (is_legal plan entries ≡ true) × IsComplete plan entries
  legal_end entries allowed ended =
      let two = and_parts (are_all_final plan entries && is_idle entries) (not (is_stop_due plan entries)) ended in
      let one = and_parts (are_all_final plan entries) (is_idle entries) two.0 in
      (and_from (is_allowed_so_far plan entries) (not (is_stop_due plan entries)) allowed two.1, record { final = one.0; closed = idle_empty entries one.1 })

  -- the last line, and what stands behind it
  pub finds_last : (at count byte : ℕ) (old new : Audit) (line : List ℕ) (entries : List Entry) (ends : Bool) → length text < 2 ^ 64 → at < length text → byte ≡ get_or text at 0 → byte ≡ 10 → ends ≡ (at + 1 == length text) → IsReading plan text at old line count entries → TakesLine plan entries line Ends new → FindsBehind plan text (if ends then None else Some (count + 2))
  finds_last at count byte old new line entries true small lt is feed ends reading takes =
      let next : drop at text ≡ 10 ∷ drop (at + 1) text = drop_more text at 0 lt ∙ ap (λ (b : ℕ). b ∷ drop (at + 1) text) (sym is ∙ feed) in
      let whole : length text ≡ at + 1 = grind (arith, nat_tests, ends) in
      let none : drop (at + 1) text ≡ [] = drop_all (at + 1) text (omega (arith, whole)) in
      let legal = legal_end entries reading.stands.allowed takes.1 in
      record {
        entries = entries;
        text_is = reading.stands.text_is ∙ ap (λ (r : List ℕ). entry_lines entries ++ (line ++ r)) (next ∙ ap (λ (r : List ℕ). 10 ∷ r) none) ∙ ap (λ (l : List ℕ). entry_lines entries ++ (l ++ 10 ∷ [])) takes.0;
        fit = reading.stands.fit;
        legal = legal.0;
        complete = legal.1;
      }
  finds_last at count byte old new line entries false small lt is feed ends reading takes =
      let next : drop at text ≡ 10 ∷ drop (at + 1) text = drop_more text at 0 lt ∙ ap (λ (b : ℕ). b ∷ drop (at + 1) text) (sym is ∙ feed) in
      let more : at + 1 < length text = grind (arith, nat_tests, ends, lt) in
      let few : length entries < 2 ^ 64 = omega (arith, reading.few, reading.count_is, lt, small) in
      record {
        entries = entries;
        line = line;
        rest = 10 ∷ drop (at + 1) text;
        stands = subst (λ (r : List ℕ). StandsAt plan text entries line r) next reading.stands;
        bad = (refl, no_entry_done entries entries line few takes.0, λ last ended none. some_left text (at + 1) more none);
        number_is = ap (λ (n : ℕ). n + 2) reading.count_is;
      }
    where
      some_left : (xs : List ℕ) (n : ℕ) → n < length xs → drop n xs ≡ [] → ⊥
      some_left xs n less none = omega (arith, length-drop n xs, ap length none, less)

-- what is found behind the first line, for the whole text
pub finds_whole : (plan : PlanParts) (text rest : List ℕ) (found : Option ℕ) → text ≡ full_line Line.First ++ rest → FindsBehind plan rest found → Finds plan text found
finds_whole plan text rest None is accepted = record {
  entries = accepted.entries;
  text_is = is ∙ ap (λ (r : List ℕ). full_line Line.First ++ r) accepted.text_is;
  fit = accepted.fit;
  legal = accepted.legal;
  complete = accepted.complete;
}
finds_whole plan text rest (Some number) is refused = inr (record { rest = rest; text_is = is; behind = refused })
