-- The guess for a line of a journal is that line, so a text says a line exactly where the guess, written again, is the text.
use Rattle.std.proofs.Common.{ℕ, ◌^◌, ◌<◌, ◌≡◌, ◌&&◌, Bool, true, false, cond, List, [], ◌∷◌, ◌++◌, flat_map, Option, Some, None, refl, sym, ap, ◌∙◌, arith, codes, decimal, append_assoc, append-nil, bytes_eq, subst, nat_lt, length}
use Rattle.std.specs.List.{list_all}
use Rattle.std.proofs.lemmas.Slice.Eq.{bytes_eq-Decides}
use Rattle.std.proofs.lemmas.Bool.{and_from}
use Rattle.ct_verdict.specs.declared.attempt.Seen.{Seen}
use Rattle.ct_verdict.specs.declared.verdict.Cause.{Cause}
use Rattle.ct_journal_text.specs.declared.lines.EntryLine.{EntryLine}
use Rattle.ct_journal_text.specs.declared.lines.EntryLine.TheVariants.{Start, End, Settle, Stop}
use Rattle.ct_journal_text.specs.declared.lines.JournalLine.{JournalLine}
use Rattle.ct_journal_text.specs.declared.lines.JournalLine.TheVariants as Line
use Rattle.ct_journal_text.specs.Journal.{how_text, not_run_word, hits_text, listed, seen_text, entry_text, journal_line_text, IsOf32Bits, HowFits, CauseFits, PlacesFit, EntryFits, Fits, Says}
use Rattle.ct_journal_text.specs.Guess.{pieces, word_at, number_written, short_in, places_in_word, start_in, end_in, settle_in, guess_by, guess_in, said_in}
use Rattle.ct_journal_text.proofs.NumberLemmas.{is_free, decimal_free, short_again, number_again, number_fits, short_fits}
use Rattle.ct_journal_text.proofs.WordLemmas.{cut_again, how_again, how_free, how_fits, cause_again, cause_free, cause_fits, hit_again, hits_free, places_again, places_fit, listed_free}

-- three words and what stands behind them
regroup : (one two three rest : List ℕ) → one ++ codes " " ++ two ++ codes " " ++ three ++ rest ≡ one ++ (32 ∷ (two ++ (32 ∷ (three ++ rest))))
regroup one two three rest =
    append_assoc (one ++ codes " " ++ two ++ codes " ") three rest
    ∙ append_assoc (one ++ codes " " ++ two) (codes " ") (three ++ rest)
    ∙ append_assoc (one ++ codes " ") two (32 ∷ (three ++ rest))
    ∙ append_assoc one (codes " ") (two ++ (32 ∷ (three ++ rest)))

-- the words of a line behind the first, one space in front of each
abbrev spaced : List (List ℕ) → List ℕ
spaced words = flat_map (λ word. 32 ∷ word) words

short_free : (n : ℕ) → IsOf32Bits n → is_free 32 (decimal n) ≡ true
short_free n small = decimal_free 32 n (omega arith) (omega (arith, small))

three_free : (one two three : List ℕ) (rest : List (List ℕ)) → is_free 32 one ≡ true → is_free 32 two ≡ true → is_free 32 three ≡ true → list_all (is_free 32) rest ≡ true → list_all (is_free 32) (one ∷ two ∷ three ∷ rest) ≡ true
three_free one two three rest a b c d =
    and_from (is_free 32 one) (list_all (is_free 32) (two ∷ three ∷ rest)) a
    (and_from (is_free 32 two) (list_all (is_free 32) (three ∷ rest)) b (and_from (is_free 32 three) (list_all (is_free 32) rest) c d))

start_again : (test attempt worker : ℕ) (places : Option (List ℕ)) → IsOf32Bits test → IsOf32Bits attempt → IsOf32Bits worker → PlacesFit places → guess_in (entry_text (Start test attempt worker places)) ≡ Line.Entry (Start test attempt worker places)
start_again test attempt worker None t a w fit =
    let words = decimal test ∷ decimal attempt ∷ decimal worker ∷ [] in
    let spelt : entry_text (Start test attempt worker None) ≡ codes "start" ++ spaced words = ap (λ text. codes "start " ++ text) (regroup (decimal test) (decimal attempt) (decimal worker) []) in
    let cut : pieces 32 (entry_text (Start test attempt worker None)) ≡ codes "start" ∷ words =
    ap (pieces 32) spelt ∙ cut_again 32 (codes "start") words refl (three_free (decimal test) (decimal attempt) (decimal worker) [] (short_free test t) (short_free attempt a) (short_free worker w) refl) in
    ap guess_by cut ∙ (λ i. Line.Entry (Start (short_again test t i) (short_again attempt a i) (short_again worker w i) None))
start_again test attempt worker (Some places) t a w fit =
    let words = decimal test ∷ decimal attempt ∷ decimal worker ∷ codes "at" ∷ listed places ∷ [] in
    let spelt : entry_text (Start test attempt worker (Some places)) ≡ codes "start" ++ spaced words =
    ap (λ text. codes "start " ++ text) (regroup (decimal test) (decimal attempt) (decimal worker) (codes " at " ++ listed places))
    ∙ ap (λ last. codes "start " ++ (decimal test ++ (32 ∷ (decimal attempt ++ (32 ∷ (decimal worker ++ (codes " at " ++ last))))))) (sym (append-nil (listed places))) in
    let cut : pieces 32 (entry_text (Start test attempt worker (Some places))) ≡ codes "start" ∷ words =
    ap (pieces 32) spelt
    ∙ cut_again 32 (codes "start") words refl (three_free (decimal test) (decimal attempt) (decimal worker) (codes "at" ∷ listed places ∷ []) (short_free test t) (short_free attempt a) (short_free worker w) (and_from (is_free 32 (listed places)) true (listed_free 32 (omega arith) places fit) refl)) in
    ap guess_by cut ∙ (λ i. Line.Entry (Start (short_again test t i) (short_again attempt a i) (short_again worker w i) (Some (places_again places fit i))))

end_again : (test attempt worker : ℕ) (seen : Seen) → IsOf32Bits test → IsOf32Bits attempt → IsOf32Bits worker → HowFits seen.how → seen.micros < 2 ^ 64 → guess_in (entry_text (End test attempt worker seen)) ≡ Line.Entry (End test attempt worker seen)
end_again test attempt worker seen t a w how micros =
    let behind = how_text seen.how ∷ hits_text seen ∷ decimal seen.micros ∷ [] in
    let words = decimal test ∷ decimal attempt ∷ decimal worker ∷ behind in
    let said : seen_text seen ≡ spaced behind =
    ap (λ text. codes " " ++ text) (sym (append-nil (how_text seen.how ++ codes " " ++ hits_text seen ++ codes " " ++ decimal seen.micros)) ∙ regroup (how_text seen.how) (hits_text seen) (decimal seen.micros) []) in
    let spelt : entry_text (End test attempt worker seen) ≡ codes "end" ++ spaced words =
    ap (λ text. codes "end " ++ text) (regroup (decimal test) (decimal attempt) (decimal worker) (seen_text seen))
    ∙ ap (λ text. codes "end " ++ (decimal test ++ (32 ∷ (decimal attempt ++ (32 ∷ (decimal worker ++ text)))))) said in
    let cut : pieces 32 (entry_text (End test attempt worker seen)) ≡ codes "end" ∷ words =
    ap (pieces 32) spelt
    ∙ cut_again 32 (codes "end") words refl (three_free (decimal test) (decimal attempt) (decimal worker) behind (short_free test t) (short_free attempt a) (short_free worker w) (three_free (how_text seen.how) (hits_text seen) (decimal seen.micros) [] (how_free 32 (omega arith) seen.how how) (hits_free 32 (omega arith) seen.fail_hit seen.pass_hit seen.skip_hit) (decimal_free 32 seen.micros (omega arith) micros) refl)) in
    ap guess_by cut
    ∙ (λ i. Line.Entry (End (short_again test t i) (short_again attempt a i) (short_again worker w i) (record { how = how_again seen.how how i; fail_hit = hit_again seen.fail_hit i; pass_hit = hit_again seen.pass_hit i; skip_hit = hit_again seen.skip_hit i; micros = number_again seen.micros micros i })))

settle_again : (test : ℕ) (cause : Cause) → IsOf32Bits test → CauseFits cause → guess_in (entry_text (Settle test cause)) ≡ Line.Entry (Settle test cause)
settle_again test cause t fit =
    let words = decimal test ∷ not_run_word cause ∷ [] in
    let spelt : entry_text (Settle test cause) ≡ codes "settle" ++ spaced words =
    ap (λ text. codes "settle " ++ text) (append_assoc (decimal test) (codes " ") (not_run_word cause))
    ∙ ap (λ last. codes "settle " ++ (decimal test ++ (32 ∷ last))) (sym (append-nil (not_run_word cause))) in
    let cut : pieces 32 (entry_text (Settle test cause)) ≡ codes "settle" ∷ words =
    ap (pieces 32) spelt ∙ cut_again 32 (codes "settle") words refl (and_from (is_free 32 (decimal test)) (is_free 32 (not_run_word cause) && true) (short_free test t) (and_from (is_free 32 (not_run_word cause)) true (cause_free 32 (omega arith) cause fit) refl)) in
    ap guess_by cut ∙ (λ i. Line.Entry (Settle (short_again test t i) (cause_again cause fit i)))

done_again : (count : ℕ) → count < 2 ^ 64 → guess_in (journal_line_text (Line.Done count)) ≡ Line.Done count
done_again count small =
    let spelt : journal_line_text (Line.Done count) ≡ codes "done" ++ spaced (decimal count ∷ []) = ap (λ last. codes "done " ++ last) (sym (append-nil (decimal count))) in
    let cut : pieces 32 (journal_line_text (Line.Done count)) ≡ codes "done" ∷ decimal count ∷ [] =
    ap (pieces 32) spelt ∙ cut_again 32 (codes "done") (decimal count ∷ []) refl (and_from (is_free 32 (decimal count)) true (decimal_free 32 count (omega arith) small) refl) in
    ap guess_by cut ∙ ap Line.Done (number_again count small)

entry_again : (entry : EntryLine) → EntryFits entry → guess_in (entry_text entry) ≡ Line.Entry entry
entry_again (Start test attempt worker places) fit = start_again test attempt worker places fit.0 fit.1 fit.2 fit.3
entry_again (End test attempt worker seen) fit = end_again test attempt worker seen fit.0 fit.1 fit.2 fit.3 fit.4
entry_again (Settle test cause) fit = settle_again test cause fit.0 fit.1
entry_again Stop fit = refl

-- the guess for a line is that line
pub line_again : (line : JournalLine) → Fits line → guess_in (journal_line_text line) ≡ line
line_again Line.First fit = refl
line_again (Line.Entry entry) fit = entry_again entry fit
line_again (Line.Done count) fit = done_again count fit

placement_by : (b : Bool) (word : List ℕ) → PlacesFit (cond b (Some (places_in_word word)) None)
placement_by true word = places_fit word
placement_by false word = tt

line_by : (b : Bool) (one other : JournalLine) → Fits one → Fits other → Fits (cond b one other)
line_by true one other fits also = fits
line_by false one other fits also = also

by_words : (words : List (List ℕ)) → Fits (guess_by words)
by_words words =
    let name = word_at words 0 in
    let three : (k : ℕ) → IsOf32Bits (short_in (word_at words k)) = λ k. short_fits (word_at words k) in
    let done = cond (bytes_eq name (codes "done")) (Line.Done (number_written (word_at words 1))) Line.First in
    let stop = cond (bytes_eq name (codes "stop")) (Line.Entry Stop) done in
    let settle = cond (bytes_eq name (codes "settle")) (Line.Entry (settle_in words)) stop in
    let end = cond (bytes_eq name (codes "end")) (Line.Entry (end_in words)) settle in
    line_by (bytes_eq name (codes "start")) (Line.Entry (start_in words)) end (three 1, three 2, three 3, placement_by (nat_lt 4 (length words)) (word_at words 5))
    (line_by (bytes_eq name (codes "end")) (Line.Entry (end_in words)) settle (three 1, three 2, three 3, how_fits (word_at words 4), number_fits (word_at words 6))
    (line_by (bytes_eq name (codes "settle")) (Line.Entry (settle_in words)) stop (three 1, cause_fits (word_at words 2))
    (line_by (bytes_eq name (codes "stop")) (Line.Entry Stop) done tt (line_by (bytes_eq name (codes "done")) (Line.Done (number_written (word_at words 1))) Line.First (number_fits (word_at words 1)) tt))))

found_by : (b : Bool) (guess line : JournalLine) (text : List ℕ) → Fits guess → bytes_eq (journal_line_text guess) text ≡ b → cond b (Some guess) None ≡ Some line → Fits line × (text ≡ journal_line_text line)
found_by true guess line text fit is said =
    let same : guess ≡ line = cc in (subst Fits same fit, sym ((bytes_eq-Decides (journal_line_text guess) text).0 is) ∙ ap journal_line_text same)
found_by false guess line text fit is said = cc

-- a line is said exactly where the text is that line, and its numbers are in their ranges
pub says : (text : List ℕ) → Says text (said_in text)
says text line = (
  λ said. found_by (bytes_eq (journal_line_text (guess_in text)) text) (guess_in text) line text (by_words (pieces 32 text)) refl said,
  λ is.
      ap said_in is.1
      ∙ ap (λ guess. cond (bytes_eq (journal_line_text guess) (journal_line_text line)) (Some guess) None) (line_again line is.0)
      ∙ ap (λ b. cond b (Some line) None) ((bytes_eq-Decides (journal_line_text line) (journal_line_text line)).1 refl),
)
