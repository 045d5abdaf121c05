-- A text is found to be one thing: it is accepted, or one of its lines is the first that is not good.
use Rattle.std.proofs.Common.{ℕ, ◌+◌, ◌<◌, ◌≤◌, ◌^◌, ◌≡◌, ◌==◌, inl, inr, not, ◌&&◌, true, false, List, [], ◌∷◌, ◌++◌, length, Option, Some, None, refl, sym, ap, subst, ◌∙◌, arith, codes, decimal, append_assoc, append-nil, length-append}
use Rattle.std.specs.List.{list_any}
use Rattle.std.proofs.lemmas.Bool.{and_parts, eq-eqb, or_parts, and_from}
use Rattle.std.proofs.lemmas.List.{append_cancel_left}
use Rattle.std.proofs.lemmas.List.Folds.{list_all-append}
use Rattle.ct_base.specs.declared.defs.Resource.{Resource}
use Rattle.ct_alloc.specs.declared.placement.Placement.{Placement}
use Rattle.ct_history.specs.declared.plan.PlanTest.{PlanTest}
use Rattle.ct_history.specs.declared.plan.PlanParts.{PlanParts}
use Rattle.ct_history.specs.declared.history.Entry.{Entry}
use Rattle.ct_history.specs.declared.history.Entry.TheVariants as Happened
use Rattle.ct_history.specs.Plan.{test_at}
use Rattle.ct_history.specs.History.{Running}
use Rattle.ct_history.specs.Rules.{is_idle}
use Rattle.ct_history.specs.Verdicts.{are_all_final}
use Rattle.ct_history.specs.Legal.{IsComplete, are_allowed_behind, is_allowed, is_allowed_so_far, is_legal, is_stop_due}
use Rattle.ct_history.specs.Audited.{is_at_end}
use Rattle.ct_journal_text.specs.declared.lines.EntryLine.{EntryLine}
use Rattle.ct_journal_text.specs.declared.lines.EntryLine.TheVariants.{Start, End, Settle, Stop}
use Rattle.ct_journal_text.specs.declared.lines.JournalLine.{JournalLine}
use Rattle.ct_journal_text.specs.declared.lines.JournalLine.TheVariants as Line
use Rattle.ct_journal_text.specs.Journal.{EntriesFit, EntryFits, IsOf32Bits, PlacesFit, attempt_text, entry_lines, entry_text, full_line, hits_text, how_text, journal_line_text, journal_of, listed, not_run_word, noted, places_of_placement, places_text, seen_text}
use Rattle.ct_journal_text.specs.Guess.{guess_in}
use Rattle.ct_journal_text.specs.Checked.{HasPlacement, IsPlacementFor}
use Rattle.ct_journal_text.specs.Found.{Finds, IsAccepted, IsBadLine, IsOneLine, IsRefusedBehind}
use Rattle.ct_journal_text.proofs.NumberLemmas.{is_free, decimal_free}
use Rattle.ct_journal_text.proofs.WordLemmas.{cause_free, hits_free, how_free, listed_free}
use Rattle.ct_journal_text.proofs.LineLemmas.{line_again}
use Rattle.ct_journal_text.proofs.PlacementLemmas.{completes}
use Rattle.ct_journal_text.proofs.CheckLemmas.{allowed_placed}

-- no line feed stands in a line
free_behind : (one other : List ℕ) → is_free 10 one ≡ true → is_free 10 other ≡ true → is_free 10 (one ++ other) ≡ true
free_behind one other first second = list_all-append (λ byte. not (byte == 10)) one other ∙ and_from (is_free 10 one) (is_free 10 other) first second

short_free : (n : ℕ) → IsOf32Bits n → is_free 10 (decimal n) ≡ true
short_free n small = decimal_free 10 n (omega arith) (omega (arith, small))

attempt_free : (name : List ℕ) (test attempt worker : ℕ) → is_free 10 name ≡ true → IsOf32Bits test → IsOf32Bits attempt → IsOf32Bits worker → is_free 10 (attempt_text name test attempt worker) ≡ true
attempt_free name test attempt worker free t a w =
    free_behind (name ++ decimal test ++ codes " " ++ decimal attempt ++ codes " ") (decimal worker)
    (free_behind (name ++ decimal test ++ codes " " ++ decimal attempt) (codes " ")
    (free_behind (name ++ decimal test ++ codes " ") (decimal attempt) (free_behind (name ++ decimal test) (codes " ") (free_behind name (decimal test) free (short_free test t)) refl) (short_free attempt a)) refl) (short_free worker w)

places_free : (places : Option (List ℕ)) → PlacesFit places → is_free 10 (places_text places) ≡ true
places_free None fit = refl
places_free (Some places) fit = free_behind (codes " at ") (listed places) refl (listed_free 10 (omega arith) places fit)

entry_free : (entry : EntryLine) → EntryFits entry → is_free 10 (entry_text entry) ≡ true
entry_free (Start test attempt worker places) fit =
    free_behind (attempt_text (codes "start ") test attempt worker) (places_text places) (attempt_free (codes "start ") test attempt worker refl fit.0 fit.1 fit.2) (places_free places fit.3)
entry_free (End test attempt worker seen) fit =
    let how = how_text seen.how in
    let hits = hits_text seen in
    free_behind (attempt_text (codes "end ") test attempt worker) (seen_text seen) (attempt_free (codes "end ") test attempt worker refl fit.0 fit.1 fit.2)
    (free_behind (codes " " ++ how ++ codes " " ++ hits ++ codes " ") (decimal seen.micros)
    (free_behind (codes " " ++ how ++ codes " " ++ hits) (codes " ")
    (free_behind (codes " " ++ how ++ codes " ") hits (free_behind (codes " " ++ how) (codes " ") (free_behind (codes " ") how refl (how_free 10 (omega arith) seen.how fit.3)) refl) (hits_free 10 (omega arith) seen.fail_hit seen.pass_hit seen.skip_hit)) refl)
    (decimal_free 10 seen.micros (omega arith) fit.4))
entry_free (Settle test cause) fit =
    free_behind (codes "settle " ++ decimal test ++ codes " ") (not_run_word cause)
    (free_behind (codes "settle " ++ decimal test) (codes " ") (free_behind (codes "settle ") (decimal test) refl (short_free test fit.0)) refl) (cause_free 10 (omega arith) cause fit.1)
entry_free Stop fit = refl

done_free : (count : ℕ) → count < 2 ^ 64 → is_free 10 (journal_line_text (Line.Done count)) ≡ true
done_free count small = free_behind (codes "done ") (decimal count) refl (decimal_free 10 count (omega arith) small)

one_free : (line : List ℕ) → IsOneLine line → is_free 10 line ≡ true
one_free [] one = refl
one_free (byte ∷ line) one =
    let parts = or_parts (byte == 10) (list_any (λ (b : ℕ). b == 10) line) one in
    ap (λ b. not b && is_free 10 line) parts.0 ∙ one_free line parts.1

-- a text is cut at its first line feed in one way
begins_free : (byte : ℕ) (text : List ℕ) → byte ≡ 10 → is_free 10 (byte ∷ text) ≡ true → ⊥
begins_free byte text is free =
    let no : true ≡ false = sym free ∙ ap (λ b. not b && is_free 10 text) (eq-eqb byte 10 is) in cc

cut_once : (one other rest more : List ℕ) → is_free 10 one ≡ true → is_free 10 other ≡ true → one ++ (10 ∷ rest) ≡ other ++ (10 ∷ more) → (one ≡ other) × (rest ≡ more)
cut_once [] [] rest more free also is = let tails : rest ≡ more = cc in (refl, tails)
cut_once [] (b ∷ other) rest more free also is = let head : b ≡ 10 = cc in absurd (begins_free b other head also)
cut_once (a ∷ one) [] rest more free also is = let head : a ≡ 10 = cc in absurd (begins_free a one head free)
cut_once (a ∷ one) (b ∷ other) rest more free also is =
    let head : a ≡ b = cc in
    let tails : one ++ (10 ∷ rest) ≡ other ++ (10 ∷ more) = cc in
    let cut = cut_once one other rest more (and_parts (not (a == 10)) (is_free 10 one) free).1 (and_parts (not (b == 10)) (is_free 10 other) also).1 tails in (λ i. head i ∷ cut.0 i, cut.1)

no_feed : (one rest other : List ℕ) → is_free 10 other ≡ true → one ++ (10 ∷ rest) ≡ other → ⊥
no_feed one rest other free is =
    let parts = and_parts (is_free 10 one) (is_free 10 (10 ∷ rest)) (sym (list_all-append (λ byte. not (byte == 10)) one (10 ∷ rest)) ∙ ap (is_free 10) is ∙ free) in
    begins_free 10 rest refl parts.1

full_more : (line : JournalLine) (more : List ℕ) → full_line line ++ more ≡ journal_line_text line ++ (10 ∷ more)
full_more line more = append_assoc (journal_line_text line) (codes "\n") more

-- an allowed entry is told by its line
same_line : (a b : EntryLine) → EntryFits a → EntryFits b → entry_text a ≡ entry_text b → a ≡ b
same_line a b fit also is =
    let same : Line.Entry a ≡ Line.Entry b = sym (line_again (Line.Entry a) fit) ∙ ap guess_in is ∙ line_again (Line.Entry b) also in cc

same_placement : (resources : Option (List Resource)) (test : Option PlanTest) (p q : Placement) → IsPlacementFor resources test p → IsPlacementFor resources test q → places_of_placement p ≡ places_of_placement q → p ≡ q
same_placement None test p q one other is = absurd one
same_placement (Some rs) None p q one other is = absurd one
same_placement (Some rs) (Some t) p q one other is =
    let found : Some p ≡ Some q = sym ((completes rs t.needs (places_of_placement p) p).1 (one, refl)) ∙ (completes rs t.needs (places_of_placement p) q).1 (other, is) in cc

same_noted : (plan : PlanParts) (a b : Entry) → HasPlacement plan a → HasPlacement plan b → noted a ≡ noted b → a ≡ b
same_noted plan (Happened.Start t a w None) (Happened.Start u b v None) one other is = cc
same_noted plan (Happened.Start t a w None) (Happened.Start u b v (Some q)) one other is = cc
same_noted plan (Happened.Start t a w (Some p)) (Happened.Start u b v None) one other is = cc
same_noted plan (Happened.Start t a w (Some p)) (Happened.Start u b v (Some q)) one other is =
    let test : t ≡ u = cc in
    let places : places_of_placement p ≡ places_of_placement q = cc in
    let same : p ≡ q = same_placement plan.resources (test_at plan.tests t) p q one (subst (λ (n : ℕ). IsPlacementFor plan.resources (test_at plan.tests n) q) (sym test) other) places in cc
same_noted plan (Happened.Start t a w None) (Happened.End u b v seen) one other is = cc
same_noted plan (Happened.Start t a w None) (Happened.Settle u cause) one other is = cc
same_noted plan (Happened.Start t a w None) Happened.Stop one other is = cc
same_noted plan (Happened.Start t a w (Some p)) (Happened.End u b v seen) one other is = cc
same_noted plan (Happened.Start t a w (Some p)) (Happened.Settle u cause) one other is = cc
same_noted plan (Happened.Start t a w (Some p)) Happened.Stop one other is = cc
same_noted plan (Happened.End t a w seen) (Happened.Start u b v None) one other is = cc
same_noted plan (Happened.End t a w seen) (Happened.Start u b v (Some q)) one other is = cc
same_noted plan (Happened.End t a w seen) (Happened.End u b v heard) one other is = cc
same_noted plan (Happened.End t a w seen) (Happened.Settle u cause) one other is = cc
same_noted plan (Happened.End t a w seen) Happened.Stop one other is = cc
same_noted plan (Happened.Settle t cause) (Happened.Start u b v None) one other is = cc
same_noted plan (Happened.Settle t cause) (Happened.Start u b v (Some q)) one other is = cc
same_noted plan (Happened.Settle t cause) (Happened.End u b v seen) one other is = cc
same_noted plan (Happened.Settle t cause) (Happened.Settle u why) one other is = cc
same_noted plan (Happened.Settle t cause) Happened.Stop one other is = cc
same_noted plan Happened.Stop (Happened.Start u b v None) one other is = cc
same_noted plan Happened.Stop (Happened.Start u b v (Some q)) one other is = cc
same_noted plan Happened.Stop (Happened.End u b v seen) one other is = cc
same_noted plan Happened.Stop (Happened.Settle u cause) one other is = cc
same_noted plan Happened.Stop Happened.Stop one other is = refl

-- no line of an allowed entry begins the text behind these entries
abbrev IsStuck : PlanParts → List Entry → List ℕ → Type 0
IsStuck plan entries tail =
    (e : Entry) (more : List ℕ) → EntryFits (noted e) → is_allowed plan entries e ≡ true → tail ≡ full_line (Line.Entry (noted e)) ++ more → ⊥

module _ (plan : PlanParts) where
  end_stuck : (entries : List Entry) (count : ℕ) → count < 2 ^ 64 → IsStuck plan entries (full_line (Line.Done count))
  end_stuck entries count small = λ e more fits allowed is. (
      let cut = cut_once (journal_line_text (Line.Done count)) (entry_text (noted e)) [] more (done_free count small) (entry_free (noted e) fits) (is ∙ full_more (Line.Entry (noted e)) more) in
      let same : Line.Done count ≡ Line.Entry (noted e) = sym (line_again (Line.Done count) small) ∙ ap guess_in cut.0 ∙ line_again (Line.Entry (noted e)) fits in cc)

  bad_stuck : (entries : List Entry) (line rest : List ℕ) → IsOneLine line → IsBadLine plan entries line rest → IsStuck plan entries (line ++ rest)
  bad_stuck entries line [] one bad = λ e more fits allowed is.
      no_feed (entry_text (noted e)) more line (one_free line one) (sym (full_more (Line.Entry (noted e)) more) ∙ sym is ∙ append-nil line)
  bad_stuck entries line (byte ∷ rest) one bad = λ e more fits allowed is. (
      let feed : line ++ (10 ∷ rest) ≡ entry_text (noted e) ++ (10 ∷ more) = ap (λ (b : ℕ). line ++ (b ∷ rest)) (sym bad.0) ∙ is ∙ full_more (Line.Entry (noted e)) more in
      bad.1 e fits allowed (cut_once line (entry_text (noted e)) rest more (one_free line one) (entry_free (noted e) fits) feed).0)

  same_entry : (front : List Entry) (a b : Entry) → is_allowed plan front a ≡ true → is_allowed plan front b ≡ true → EntryFits (noted a) → EntryFits (noted b) → entry_text (noted a) ≡ entry_text (noted b) → a ≡ b
  same_entry front a b one other fit also is =
      same_noted plan a b (allowed_placed plan front a one) (allowed_placed plan front b other) (same_line (noted a) (noted b) fit also is)

  -- the lines of a text are those of one list of allowed entries, as far as these go
  same_entries : (front es others : List Entry) (tail other : List ℕ) → are_allowed_behind plan front es ≡ true → EntriesFit es → are_allowed_behind plan front others ≡ true → EntriesFit others → IsStuck plan (front ++ es) tail → IsStuck plan (front ++ others) other
      → entry_lines es ++ tail ≡ entry_lines others ++ other → es ≡ others
  same_entries front [] [] tail other allowed fit also fits stuck stays is = refl
  same_entries front [] (b ∷ bs) tail other allowed fit also fits stuck stays is =
      absurd (subst (λ (f : List Entry). IsStuck plan f tail) (append-nil front) stuck b (entry_lines bs ++ other) fits.0 (and_parts (is_allowed plan front b) (are_allowed_behind plan (front ++ b ∷ []) bs) also).0
      (is ∙ append_assoc (full_line (Line.Entry (noted b))) (entry_lines bs) other))
  same_entries front (a ∷ es) [] tail other allowed fit also fits stuck stays is =
      absurd (subst (λ (f : List Entry). IsStuck plan f other) (append-nil front) stays a (entry_lines es ++ tail) fit.0 (and_parts (is_allowed plan front a) (are_allowed_behind plan (front ++ a ∷ []) es) allowed).0
      (sym is ∙ append_assoc (full_line (Line.Entry (noted a))) (entry_lines es) tail))
  same_entries front (a ∷ es) (b ∷ bs) tail other allowed fit also fits stuck stays is =
      let first = and_parts (is_allowed plan front a) (are_allowed_behind plan (front ++ a ∷ []) es) allowed in
      let second = and_parts (is_allowed plan front b) (are_allowed_behind plan (front ++ b ∷ []) bs) also in
      let lines : entry_text (noted a) ++ (10 ∷ (entry_lines es ++ tail)) ≡ entry_text (noted b) ++ (10 ∷ (entry_lines bs ++ other)) =
      sym (full_more (Line.Entry (noted a)) (entry_lines es ++ tail))
      ∙ sym (append_assoc (full_line (Line.Entry (noted a))) (entry_lines es) tail)
      ∙ is
      ∙ append_assoc (full_line (Line.Entry (noted b))) (entry_lines bs) other
      ∙ full_more (Line.Entry (noted b)) (entry_lines bs ++ other) in
      let cut = cut_once (entry_text (noted a)) (entry_text (noted b)) (entry_lines es ++ tail) (entry_lines bs ++ other) (entry_free (noted a) fit.0) (entry_free (noted b) fits.0) lines in
      let same : a ≡ b = same_entry front a b first.0 second.0 fit.0 fits.0 cut.0 in
      let rest : es ≡ bs =
      same_entries (front ++ a ∷ []) es bs tail other first.1 fit.1 (subst (λ (e : Entry). are_allowed_behind plan (front ++ e ∷ []) bs ≡ true) (sym same) second.1) fits.1
      (subst (λ (f : List Entry). IsStuck plan f tail) (sym (append_assoc front (a ∷ []) es)) stuck)
      (subst (λ (f : List Entry). IsStuck plan f other) (sym (append_assoc front (a ∷ []) bs)) (subst (λ (e : Entry). IsStuck plan (front ++ e ∷ bs) other) (sym same) stays)) cut.1 in
      λ i. same i ∷ rest i

  -- behind the first line, one line is the first that is not good
  refused_once : (text : List ℕ) (m n : ℕ) → IsRefusedBehind plan text m → IsRefusedBehind plan text n → m ≡ n
  refused_once text m n one other =
      let same : one.entries ≡ other.entries =
      same_entries [] one.entries other.entries (one.line ++ one.rest) (other.line ++ other.rest) one.stands.allowed one.stands.fit other.stands.allowed other.stands.fit
      (bad_stuck one.entries one.line one.rest one.stands.one one.bad) (bad_stuck other.entries other.line other.rest other.stands.one other.bad) (sym one.stands.text_is ∙ other.stands.text_is) in
      one.number_is ∙ ap (λ (es : List Entry). length es + 2) same ∙ sym other.number_is

  at_end : (entries : List Entry) → is_legal plan entries ≡ true → IsComplete plan entries → is_at_end plan entries ≡ true
  at_end entries legal complete =
      let due = (and_parts (is_allowed_so_far plan entries) (not (is_stop_due plan entries)) legal).1 in
      let idle : is_idle entries ≡ true = ap (λ (rs : List Running). not (list_any (λ (r : Running). true) rs)) complete.closed in
      and_from (are_all_final plan entries && is_idle entries) (not (is_stop_due plan entries)) (and_from (are_all_final plan entries) (is_idle entries) complete.final idle) due

  last_good : (entries : List Entry) (line rest : List ℕ) → length entries < 2 ^ 64 → is_at_end plan entries ≡ true → IsOneLine line → IsBadLine plan entries line rest → full_line (Line.Done (length entries)) ≡ line ++ rest → ⊥
  last_good entries line [] small ended one bad is =
      no_feed (journal_line_text (Line.Done (length entries))) [] line (one_free line one) (is ∙ append-nil line)
  last_good entries line (byte ∷ rest) small ended one bad is =
      let cut = cut_once (journal_line_text (Line.Done (length entries))) line [] rest (done_free (length entries) small) (one_free line one) (is ∙ ap (λ (b : ℕ). line ++ (b ∷ rest)) bad.0) in
      bad.2 (sym cut.0) ended (sym cut.1)

  -- the end of a journal that is accepted is not refused
  accepted_good : (text : List ℕ) (entries : List Entry) (n : ℕ) → length entries < 2 ^ 64 → EntriesFit entries → is_legal plan entries ≡ true → IsComplete plan entries → text ≡ entry_lines entries ++ full_line (Line.Done (length entries)) → IsRefusedBehind plan text n → ⊥
  accepted_good text entries n small fit legal complete is refused =
      let tail = full_line (Line.Done (length entries)) in
      let behind = refused.line ++ refused.rest in
      let allowed = (and_parts (is_allowed_so_far plan entries) (not (is_stop_due plan entries)) legal).0 in
      let both_are : entry_lines entries ++ tail ≡ entry_lines refused.entries ++ behind = sym is ∙ refused.stands.text_is in
      let same : entries ≡ refused.entries =
      same_entries [] entries refused.entries tail behind allowed fit refused.stands.allowed refused.stands.fit (end_stuck entries (length entries) small) (bad_stuck refused.entries refused.line refused.rest refused.stands.one refused.bad) both_are in
      let left : tail ≡ behind = append_cancel_left (entry_lines entries) tail behind (both_are ∙ ap (λ (es : List Entry). entry_lines es ++ behind) (sym same)) in
      last_good entries refused.line refused.rest small (at_end entries legal complete) refused.stands.one (subst (λ (es : List Entry). IsBadLine plan es refused.line refused.rest) (sym same) refused.bad) left

lines_len : (entries : List Entry) → length entries ≤ length (entry_lines entries)
lines_len [] = omega arith
lines_len (e ∷ es) =
    let line = journal_line_text (Line.Entry (noted e)) in
    omega (arith, lines_len es, length-append (full_line (Line.Entry (noted e))) (entry_lines es), length-append line (codes "\n"))

journal_split : (entries : List Entry) → journal_of entries ≡ full_line Line.First ++ (entry_lines entries ++ full_line (Line.Done (length entries)))
journal_split entries = append_assoc (full_line Line.First) (entry_lines entries) (full_line (Line.Done (length entries)))

journal_len : (entries : List Entry) → length entries ≤ length (journal_of entries)
journal_len entries =
    let lines = entry_lines entries in
    let done = full_line (Line.Done (length entries)) in
    omega (arith, lines_len entries, ap length (journal_split entries), length-append (full_line Line.First) (lines ++ done), length-append lines done)

module _ (plan : PlanParts) (text : List ℕ) where
  -- what is accepted is refused at no line
  pub accepted_once : (n : ℕ) → length text < 2 ^ 64 → IsAccepted plan text → Finds plan text (Some n) → ⊥
  accepted_once n small accepted (inl lacks) =
      lacks.1 (entry_lines accepted.entries ++ full_line (Line.Done (length accepted.entries))) (accepted.text_is ∙ journal_split accepted.entries)
  accepted_once n small accepted (inr refused) =
      let entries = accepted.entries in
      let few : length entries < 2 ^ 64 = omega (arith, small, journal_len entries, ap length accepted.text_is) in
      let rest = entry_lines entries ++ full_line (Line.Done (length entries)) in
      let same : rest ≡ refused.rest = append_cancel_left (full_line Line.First) rest refused.rest (sym (journal_split entries) ∙ sym accepted.text_is ∙ refused.text_is) in
      accepted_good plan rest entries n few accepted.fit accepted.legal accepted.complete refl (subst (λ (r : List ℕ). IsRefusedBehind plan r n) (sym same) refused.behind)

  -- one line alone is the first that is not good
  pub refused_at_one : (m n : ℕ) → Finds plan text (Some m) → Finds plan text (Some n) → m ≡ n
  refused_at_one m n (inl one) (inl other) = one.0 ∙ sym other.0
  refused_at_one m n (inl one) (inr other) = absurd (one.1 other.rest other.text_is)
  refused_at_one m n (inr one) (inl other) = absurd (other.1 one.rest one.text_is)
  refused_at_one m n (inr one) (inr other) =
      let same : one.rest ≡ other.rest = append_cancel_left (full_line Line.First) one.rest other.rest (sym one.text_is ∙ other.text_is) in
      refused_once plan one.rest m n one.behind (subst (λ (r : List ℕ). IsRefusedBehind plan r n) (sym same) other.behind)

  -- a text is found to be one thing alone
  pub finds_once : (one other : Option ℕ) → length text < 2 ^ 64 → Finds plan text one → Finds plan text other → one ≡ other
  finds_once None None small found also = refl
  finds_once None (Some n) small found also = absurd (accepted_once n small found also)
  finds_once (Some m) None small found also = absurd (accepted_once m small also found)
  finds_once (Some m) (Some n) small found also = ap Some (refused_at_one m n found also)

  -- the number of a line that is not good is at most two above the length of the text
  pub refused_small : (n : ℕ) → Finds plan text (Some n) → n ≤ length text + 2
  refused_small n (inl lacks) = omega (arith, lacks.0)
  refused_small n (inr refused) =
      let stands = refused.behind.stands in
      let entries = refused.behind.entries in
      let tail = refused.behind.line ++ refused.behind.rest in
      omega (arith, refused.behind.number_is, lines_len entries, ap length stands.text_is, length-append (entry_lines entries) tail, ap length refused.text_is, length-append (full_line Line.First) refused.rest)
