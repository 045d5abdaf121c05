-- A journal is no shorter than its beginning, so one whose beginning passes a limit passes it.
use Rattle.std.proofs.Common.{◌≡◌, ◌∙◌, ◌++◌, ◌≤◌, sym, ap, subst, arith, ℕ, List, length, take, drop, true}
use Rattle.std.specs.Prelude.{false, not, nat_lt}
use Rattle.std.proofs.lemmas.Bool.{ltb-true, lt-ltb}
use Rattle.std.proofs.lemmas.Grind.{flat_map-append}
use Rattle.std.proofs.lemmas.List.{length-append, take-append-drop}
use Rattle.ct_history.specs.declared.history.Entry.{Entry}
use Rattle.ct_journal_text.specs.declared.lines.JournalLine.TheVariants as Line
use Rattle.ct_journal_text.specs.Journal.{entry_lines, full_line, journal_of, noted}

begins : (front taken rest behind : List ℕ) → length (front ++ taken) ≤ length (front ++ (taken ++ rest) ++ behind)
begins front taken rest behind =
    omega (arith, length-append front taken, length-append (front ++ (taken ++ rest)) behind, length-append front (taken ++ rest), length-append taken rest)

-- the lines of some first entries are no longer than the journal
pub begins_journal : (entries : List Entry) (count : ℕ) → length (full_line Line.First ++ entry_lines (take count entries)) ≤ length (journal_of entries)
begins_journal entries count =
    subst (λ (lines : List ℕ). length (full_line Line.First ++ entry_lines (take count entries)) ≤ length (full_line Line.First ++ lines ++ full_line (Line.Done (length entries))))
    (sym (flat_map-append (λ (e : Entry). full_line (Line.Entry (noted e))) (take count entries) (drop count entries)) ∙ ap entry_lines (take-append-drop count entries))
    (begins (full_line Line.First) (entry_lines (take count entries)) (entry_lines (drop count entries)) (full_line (Line.Done (length entries))))

-- a text that is no shorter than one behind the limit is behind the limit
pub passes : (most : ℕ) (begin text : List ℕ) → nat_lt most (length begin) ≡ true → length begin ≤ length text → false ≡ not (nat_lt most (length text))
passes most begin text above shorter =
    sym (ap not (lt-ltb most (length text) (omega (arith, ltb-true most (length begin) above, shorter))))
