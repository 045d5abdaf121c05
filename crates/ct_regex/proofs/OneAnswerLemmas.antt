-- A text that the grammar of faulty texts calls faulty is refused for that fault, so it has no other.
use Rattle.std.proofs.Common.{◌≡◌, ◌<◌, ◌≤◌, ◌⊎◌, inl, inr, ℕ, ◌+◌, ◌&&◌, ◌==◌, Bool, true, false, not, List, [], ◌∷◌, ◌++◌, length, drop, cond, refl, sym, ◌∙◌, ap, subst, append-nil, append_assoc, nat_lt, Result, Ok, Err, arith}
use Rattle.std.proofs.Transfers.{drop-appended}
use Rattle.std.proofs.lemmas.Bool.Decides.{nat_tests}
use Rattle.std.proofs.lemmas.List.{length-append}
use Rattle.ct_regex.specs.Limits.{most_pattern_bytes, most_open_groups}
use Rattle.ct_regex.specs.declared.tree.Span.{Span}
use Rattle.ct_regex.specs.declared.tree.Quantifier.{Quantifier}
use Rattle.ct_regex.specs.declared.fault.RegexFault.{RegexFault}
use Rattle.ct_regex.specs.declared.fault.RegexFault.TheVariants.{OpenGroup, StrayClose, OpenSet, BadRange, NothingToRepeat, EmptyRepeat, NestedRepeat, EndsInBackslash, TooLarge, NoMemory}
use Rattle.ct_regex.specs.Tree.{Tree}
use Rattle.ct_regex.specs.Signs.{Sign, atom, opens, closes, bar, often, fault, signs, set_signs, begins_negated, is_range, item_high, is_none}
use Rattle.ct_regex.specs.Reading.{Last, no_part, bare, quantified, Group, Groups, opened_at, with_atom, with_branch, closed, may_repeat, with_quantifier, with_sign, at_end, and_then, map_ok, read, reading}
use Rattle.ct_regex.specs.Gives.{Gives}
use Rattle.ct_regex.specs.Grammar.{IsPattern, byte_of}
use Rattle.ct_regex.specs.Faulty as faulty
use Rattle.ct_regex.specs.Faulty.{PartEnd, IsBegun, IsOpenSet, IsBrokenSet, HasFault, IsFaulty, IsRefusedWith, IsSoleAnswer}
use Rattle.ct_regex.specs.OneAnswer.{IsLimit, HasOneAnswer}
use Rattle.ct_regex.proofs.WrittenLemmas.{opened_read, closed_read, reading_written}
use Rattle.ct_regex.proofs.BegunLemmas.{end_of, places_of, places_len, places_as, HasBegun, one_begun, bar_begun, open_begun, close_begun, may_behind, with_often, often_begun}
use Rattle.ct_regex.proofs.FaultLemmas.{same_why, reading_faulty}
use Rattle.ct_regex.proofs.ReadBackLemmas.{unclosed, range_item, byte_item, one_read, often_sign, one_tree, written_read}
use Rattle.ct_regex.proofs.SignsLemmas.{is_none-push}

-- a set that has no `]`
open_set_says : {first : Bool} {text : List ℕ} → IsOpenSet first text → (opened : ℕ) (negated : Bool) (at : ℕ) (items : List Span) → is_none items ≡ first →
    set_signs opened negated 0 at items text ≡ fault (OpenSet opened) ∷ []
open_set_says faulty.at_end opened negated at items e = refl
open_set_says {first} (faulty.range {text = text} low high c other le i) opened negated at items e =
    let item : Span = record { low = low; high = high } in
    range_item first low high text c other le opened negated at items e
    ∙ open_set_says i opened negated (at + 1 + 1 + 1) (items ++ item ∷ []) (is_none-push items item)
open_set_says {first} (faulty.byte {text = text} low c no_range i) opened negated at items e =
    let item : Span = record { low = low; high = low } in
    byte_item first low text c no_range opened negated at items e
    ∙ open_set_says i opened negated (at + 1) (items ++ item ∷ []) (is_none-push items item)

below_item : (low : ℕ) (rest : List ℕ) (opened : ℕ) (negated : Bool) (at : ℕ) (items : List Span) → ((low == 93) && not (is_none items)) ≡ false → nat_lt (item_high low rest) low ≡ true →
    set_signs opened negated 0 at items (low ∷ rest) ≡ fault (BadRange at) ∷ []
below_item low rest opened negated at items unclosed bad = rw (unclosed, bad) refl

less : (high low : ℕ) → high < low → nat_lt high low ≡ true
less high low h = grind (arith, nat_tests)

-- a set with a range that ends below its begin
broken_set_says : {first : Bool} {text back : List ℕ} → IsBrokenSet first text back → (opened : ℕ) (negated : Bool) (at : ℕ) (items : List Span) → is_none items ≡ first →
    set_signs opened negated 0 at items (text ++ back) ≡ fault (BadRange (at + length text)) ∷ []
broken_set_says {first} (faulty.below {back = back} low high c other small) opened negated at items e =
    let range : is_range (45 ∷ high ∷ back) ≡ true = ap (λ (b : Bool). (45 == 45) && not b) other in
    let top : item_high low (45 ∷ high ∷ back) ≡ high = ap (λ (b : Bool). cond b high low) range in
    let here : at ≡ at + length {A = ℕ} [] = omega arith in
    below_item low (45 ∷ high ∷ back) opened negated at items (unclosed first low items e c) (ap (λ (h : ℕ). nat_lt h low) top ∙ less high low small)
    ∙ ap (λ (n : ℕ). fault (BadRange n) ∷ []) here
broken_set_says {first} (faulty.range {text = text} {back = back} low high c other le i) opened negated at items e =
    let item : Span = record { low = low; high = high } in
    let sums : (at + 1 + 1 + 1) + length text ≡ at + length (low ∷ 45 ∷ high ∷ text) = omega arith in
    range_item first low high (text ++ back) c other le opened negated at items e
    ∙ broken_set_says i opened negated (at + 1 + 1 + 1) (items ++ item ∷ []) (is_none-push items item)
    ∙ ap (λ (n : ℕ). fault (BadRange n) ∷ []) sums
broken_set_says {first} (faulty.byte {text = text} {back = back} low c no_range i) opened negated at items e =
    let item : Span = record { low = low; high = low } in
    let sums : (at + 1) + length text ≡ at + length (low ∷ text) = omega arith in
    byte_item first low (text ++ back) c no_range opened negated at items e
    ∙ broken_set_says i opened negated (at + 1) (items ++ item ∷ []) (is_none-push items item)
    ∙ ap (λ (n : ℕ). fault (BadRange n) ∷ []) sums

-- the groups at the beginning of a pattern
abbrev at_first : Groups
at_first = record { inner = opened_at 0; outer = [] }

-- the reader takes the beginning of a pattern, whatever follows, and has these groups open behind it
record HasTaken (text opened : List ℕ) (last : PartEnd) : Type 0 where
  inner : Group
  outer : List Group
  reads : (back : List ℕ) → read at_first (signs 0 (text ++ back)) ≡ read (record { inner = inner; outer = outer }) (signs (length text) back)
  begun : HasBegun text inner outer
  places : places_of inner outer ≡ opened
  ends : end_of inner.last ≡ last

-- one more sign is taken
take_more : (text more : List ℕ) (sign : Sign) (groups next : Groups) → ((back : List ℕ) → read at_first (signs 0 (text ++ back)) ≡ read groups (signs (length text) back)) →
    ((back : List ℕ) → signs (length text) (more ++ back) ≡ sign ∷ signs (length text + length more) back) → with_sign groups sign ≡ Ok next → (back : List ℕ) →
    read at_first (signs 0 ((text ++ more) ++ back)) ≡ read next (signs (length (text ++ more)) back)
take_more text more sign groups next reads is takes back =
    ap (λ xs. read at_first (signs 0 xs)) (append_assoc text more back)
    ∙ reads (more ++ back)
    ∙ ap (read groups) (is back)
    ∙ ap (λ (step : Result Groups RegexFault). and_then step (λ (n : Groups). read n (signs (length text + length more) back))) takes
    ∙ ap (λ (n : ℕ). read next (signs n back)) (sym (length-append text more))

-- the end of a beginning tells the last part
ends_alone : (last : Last) (tree : Tree) → end_of last ≡ faulty.alone tree → last ≡ bare tree
ends_alone no_part tree e = absurd (cc)
ends_alone (bare part) tree e = let same : part ≡ tree = cc in ap bare same
ends_alone (quantified part) tree e = absurd (cc)

often_taken : (quantifier : Quantifier) (at : ℕ) (inner : Group) (outer : List Group) (tree : Tree) → inner.last ≡ bare tree → may_repeat quantifier tree ≡ true →
    with_sign (record { inner = inner; outer = outer }) (often quantifier at) ≡ Ok (record { inner = with_often quantifier tree inner; outer = outer })
often_taken quantifier at inner outer tree l may =
    ap (λ (last : Last). map_ok (λ (g : Group). record { inner = g; outer = outer }) (with_quantifier quantifier at inner last)) l ∙ rw may refl

open_taken : (at : ℕ) (inner : Group) (outer : List Group) → length outer < most_open_groups →
    with_sign (record { inner = inner; outer = outer }) (opens at) ≡ Ok (record { inner = opened_at at; outer = inner ∷ outer })
open_taken at inner outer few = let test : nat_lt (length outer) most_open_groups ≡ true = grind (arith, nat_tests) in rw test refl

-- equal texts that part at one place have the same text behind it
same_behind : (front other text back : List ℕ) → length front ≡ length other → front ++ text ≡ other ++ back → text ≡ back
same_behind front other text back l e =
    sym (drop-appended front (front ++ text) text refl) ∙ ap (λ (n : ℕ). drop n (front ++ text)) l ∙ ap (drop (length other)) e ∙ drop-appended other (other ++ back) back refl

-- the group that opens at a place has the text behind it
close_tree : (front text : List ℕ) (tree : Tree) (inner around : Group) (outer : List Group) → IsPattern text tree → inner.place ≡ length front → HasBegun (front ++ 40 ∷ text) inner (around ∷ outer) → closed inner ≡ tree
close_tree front text tree inner around outer p e h =
    let inside : 40 ∷ text ≡ 40 ∷ h.1 = same_behind front h.0 (40 ∷ text) (40 ∷ h.1) (sym e ∙ h.3) h.2 in
    let same : h.1 ≡ text = sym (ap (drop 1) inside) in
    one_tree text (closed inner) tree (subst (λ (xs : List ℕ). IsPattern xs (closed inner)) same (closed_read h.1 inner h.5)) p

close_taken : (front text opened : List ℕ) (tree : Tree) (inner : Group) (outer : List Group) → IsPattern text tree →
    ((back : List ℕ) → read at_first (signs 0 ((front ++ 40 ∷ text) ++ back)) ≡ read (record { inner = inner; outer = outer }) (signs (length (front ++ 40 ∷ text)) back)) →
    HasBegun (front ++ 40 ∷ text) inner outer → places_of inner outer ≡ length front ∷ opened → HasTaken ((front ++ 40 ∷ text) ++ 41 ∷ []) opened (faulty.alone tree)
close_taken front text opened tree inner [] p reads h places = absurd (cc)
close_taken front text opened tree inner (around ∷ outer) p reads h places =
    let place : inner.place ≡ length front = cc in
    let others : places_of around outer ≡ opened = cc in
    record {
      inner = with_atom (closed inner) around;
      outer = outer;
      reads = take_more (front ++ 40 ∷ text) (41 ∷ []) (closes (length (front ++ 40 ∷ text))) (record { inner = inner; outer = around ∷ outer }) (record { inner = with_atom (closed inner) around; outer = outer }) reads (λ back. refl) refl;
      begun = close_begun outer (front ++ 40 ∷ text) inner around h;
      places = places_as outer around (with_atom (closed inner) around) refl ∙ others;
      ends = ap faulty.alone (close_tree front text tree inner around outer p place h);
    }

taken : {text opened : List ℕ} {last : PartEnd} → IsBegun text opened last → HasTaken text opened last
taken faulty.empty = record { inner = opened_at 0; outer = []; reads = λ back. refl; begun = (opened_read 0, faulty.empty); places = refl; ends = refl }
taken (faulty.and_one {front = front} {text = text} {tree = tree} b o) =
    let h = taken b in
    record {
      inner = with_atom tree h.inner;
      outer = h.outer;
      reads = take_more front text (atom tree) (record { inner = h.inner; outer = h.outer }) (record { inner = with_atom tree h.inner; outer = h.outer }) h.reads
          (λ back. let r = one_read o (length front) back in r.2 ∙ ap (λ (n : ℕ). atom tree ∷ signs n back) r.1) refl;
      begun = one_begun h.outer front text h.inner tree o h.begun;
      places = places_as h.outer h.inner (with_atom tree h.inner) refl ∙ h.places;
      ends = refl;
    }
taken (faulty.and_often {front = front} {tree = tree} quantifier b may) =
    let h = taken b in
    let l : h.inner.last ≡ bare tree = ends_alone h.inner.last tree h.ends in
    let repeats : may_repeat quantifier tree ≡ true = sym (may_behind h.outer front h.inner quantifier tree l h.begun) ∙ may in
    record {
      inner = with_often quantifier tree h.inner;
      outer = h.outer;
      reads = take_more front (byte_of quantifier ∷ []) (often quantifier (length front)) (record { inner = h.inner; outer = h.outer }) (record { inner = with_often quantifier tree h.inner; outer = h.outer }) h.reads
          (λ back. often_sign quantifier (length front) back) (often_taken quantifier (length front) h.inner h.outer tree l repeats);
      begun = often_begun h.outer front h.inner quantifier tree l repeats h.begun;
      places = places_as h.outer h.inner (with_often quantifier tree h.inner) refl ∙ h.places;
      ends = refl;
    }
taken (faulty.and_bar {front = front} b) =
    let h = taken b in
    record {
      inner = with_branch h.inner;
      outer = h.outer;
      reads = take_more front (124 ∷ []) bar (record { inner = h.inner; outer = h.outer }) (record { inner = with_branch h.inner; outer = h.outer }) h.reads (λ back. refl) refl;
      begun = bar_begun h.outer front h.inner h.begun;
      places = places_as h.outer h.inner (with_branch h.inner) refl ∙ h.places;
      ends = refl;
    }
taken (faulty.and_open {front = front} b few) =
    let h = taken b in
    let room : length h.outer < most_open_groups = omega (arith, few, places_len h.inner h.outer, ap length h.places) in
    record {
      inner = opened_at (length front);
      outer = h.inner ∷ h.outer;
      reads = take_more front (40 ∷ []) (opens (length front)) (record { inner = h.inner; outer = h.outer }) (record { inner = opened_at (length front); outer = h.inner ∷ h.outer }) h.reads
          (λ back. refl) (open_taken (length front) h.inner h.outer room);
      begun = open_begun h.outer front h.inner (length front) refl room h.begun;
      places = ap (λ xs. length front ∷ xs) h.places;
      ends = refl;
    }
taken (faulty.and_close front {text = text} {opened = opened} {tree = tree} b p) =
    let h = taken b in close_taken front text opened tree h.inner h.outer p h.reads h.begun h.places

-- the sign behind the beginning is refused
stops : (text back opened : List ℕ) (last : PartEnd) (sign : Sign) (others : List Sign) (why : RegexFault) (h : HasTaken text opened last) → signs (length text) back ≡ sign ∷ others →
    with_sign (record { inner = h.inner; outer = h.outer }) sign ≡ Err why → read at_first (signs 0 (text ++ back)) ≡ Err why
stops text back opened last sign others why h is refused =
    h.reads back
    ∙ ap (read (record { inner = h.inner; outer = h.outer })) is
    ∙ ap (λ (step : Result Groups RegexFault). and_then step (λ (n : Groups). read n others)) refused

open_refused : (at : ℕ) (inner : Group) (outer : List Group) → most_open_groups ≤ length outer → with_sign (record { inner = inner; outer = outer }) (opens at) ≡ Err (TooLarge at)
open_refused at inner outer many = let test : nat_lt (length outer) most_open_groups ≡ false = grind (arith, nat_tests) in rw test refl

close_refused : (at : ℕ) (inner : Group) (outer : List Group) → places_of inner outer ≡ [] → with_sign (record { inner = inner; outer = outer }) (closes at) ≡ Err (StrayClose at)
close_refused at inner [] e = refl
close_refused at inner (around ∷ outer) e = absurd (cc)

end_refused : (inner : Group) (outer : List Group) (place : ℕ) (opened : List ℕ) → places_of inner outer ≡ place ∷ opened → at_end inner outer ≡ Err (OpenGroup place)
end_refused inner [] place opened e = absurd (cc)
end_refused inner (around ∷ outer) place opened e = let same : inner.place ≡ place = cc in ap (λ (n : ℕ). Err (OpenGroup n)) same

nothing_refused : (quantifier : Quantifier) (at : ℕ) (inner : Group) (last : Last) → end_of last ≡ faulty.nothing → with_quantifier quantifier at inner last ≡ Err (NothingToRepeat at)
nothing_refused quantifier at inner no_part e = refl
nothing_refused quantifier at inner (bare part) e = absurd (cc)
nothing_refused quantifier at inner (quantified part) e = absurd (cc)

nested_refused : (quantifier : Quantifier) (at : ℕ) (inner : Group) (last : Last) → end_of last ≡ faulty.repeated → with_quantifier quantifier at inner last ≡ Err (NestedRepeat at)
nested_refused quantifier at inner no_part e = absurd (cc)
nested_refused quantifier at inner (bare part) e = absurd (cc)
nested_refused quantifier at inner (quantified part) e = refl

empty_refused : (quantifier : Quantifier) (at : ℕ) (inner : Group) (last : Last) (tree : Tree) → last ≡ bare tree → may_repeat quantifier tree ≡ false → with_quantifier quantifier at inner last ≡ Err (EmptyRepeat at)
empty_refused quantifier at inner last tree l may = ap (with_quantifier quantifier at inner) l ∙ rw may refl

often_refused : (quantifier : Quantifier) (at : ℕ) (inner : Group) (outer : List Group) (why : RegexFault) → with_quantifier quantifier at inner inner.last ≡ Err why → with_sign (record { inner = inner; outer = outer }) (often quantifier at) ≡ Err why
often_refused quantifier at inner outer why e = ap (map_ok (λ (g : Group). record { inner = g; outer = outer })) e

-- the set behind the `[` at a place
set_says : (at : ℕ) (text : List ℕ) → begins_negated text ≡ false → signs at (91 ∷ text) ≡ set_signs at false 0 (at + 1) [] text
set_says at text neg = ap (λ (b : Bool). set_signs at b (cond b 1 0) (at + 1) [] text) neg

fault_read : {text : List ℕ} {why : RegexFault} → HasFault text why → read at_first (signs 0 text) ≡ Err why
fault_read (faulty.too_deep {front = front} {opened = opened} {last = last} back b many) =
    let h = taken b in
    let deep : most_open_groups ≤ length h.outer = omega (arith, many, places_len h.inner h.outer, ap length h.places) in
    stops front (40 ∷ back) opened last (opens (length front)) (signs (length front + 1) back) (TooLarge (length front)) h refl (open_refused (length front) h.inner h.outer deep)
fault_read (faulty.stray_close {front = front} {last = last} back b) =
    let h = taken b in
    stops front (41 ∷ back) [] last (closes (length front)) (signs (length front + 1) back) (StrayClose (length front)) h refl (close_refused (length front) h.inner h.outer h.places)
fault_read (faulty.not_closed {text = text} {opened = opened} place b) =
    let h = taken b in
    ap (λ xs. read at_first (signs 0 xs)) (sym (append-nil text)) ∙ h.reads [] ∙ end_refused h.inner h.outer place opened h.places
fault_read (faulty.nothing_to_repeat {front = front} {opened = opened} quantifier back b) =
    let h = taken b in
    stops front (byte_of quantifier ∷ back) opened faulty.nothing (often quantifier (length front)) (signs (length front + 1) back) (NothingToRepeat (length front)) h (often_sign quantifier (length front) back)
    (often_refused quantifier (length front) h.inner h.outer (NothingToRepeat (length front)) (nothing_refused quantifier (length front) h.inner h.inner.last h.ends))
fault_read (faulty.nested_repeat {front = front} {opened = opened} quantifier back b) =
    let h = taken b in
    stops front (byte_of quantifier ∷ back) opened faulty.repeated (often quantifier (length front)) (signs (length front + 1) back) (NestedRepeat (length front)) h (often_sign quantifier (length front) back)
    (often_refused quantifier (length front) h.inner h.outer (NestedRepeat (length front)) (nested_refused quantifier (length front) h.inner h.inner.last h.ends))
fault_read (faulty.empty_repeat {front = front} {opened = opened} {tree = tree} quantifier back b may) =
    let h = taken b in
    let l : h.inner.last ≡ bare tree = ends_alone h.inner.last tree h.ends in
    let no : may_repeat quantifier tree ≡ false = sym (may_behind h.outer front h.inner quantifier tree l h.begun) ∙ may in
    stops front (byte_of quantifier ∷ back) opened (faulty.alone tree) (often quantifier (length front)) (signs (length front + 1) back) (EmptyRepeat (length front)) h (often_sign quantifier (length front) back)
    (often_refused quantifier (length front) h.inner h.outer (EmptyRepeat (length front)) (empty_refused quantifier (length front) h.inner h.inner.last tree l no))
fault_read (faulty.ends_in_backslash {front = front} {opened = opened} {last = last} b) =
    stops front (92 ∷ []) opened last (fault (EndsInBackslash (length front))) [] (EndsInBackslash (length front)) (taken b) refl refl
fault_read (faulty.set_not_closed {front = front} {text = text} {opened = opened} {last = last} b neg i) =
    stops front (91 ∷ text) opened last (fault (OpenSet (length front))) [] (OpenSet (length front)) (taken b)
    (set_says (length front) text neg ∙ open_set_says i (length front) false (length front + 1) [] refl) refl
fault_read (faulty.negated_not_closed {front = front} {text = text} {opened = opened} {last = last} b i) =
    stops front (91 ∷ 94 ∷ text) opened last (fault (OpenSet (length front))) [] (OpenSet (length front)) (taken b)
    (open_set_says i (length front) true (length front + 1 + 1) [] refl) refl
fault_read (faulty.bad_range {front = front} {text = text} {back = back} {opened = opened} {last = last} b neg i) =
    stops front (91 ∷ (text ++ back)) opened last (fault (BadRange (length front + 1 + length text))) [] (BadRange (length front + 1 + length text)) (taken b)
    (set_says (length front) (text ++ back) neg ∙ broken_set_says i (length front) false (length front + 1) [] refl) refl
fault_read (faulty.bad_negated {front = front} {text = text} {back = back} {opened = opened} {last = last} b i) =
    let sums : (length front + 1 + 1) + length text ≡ length front + 2 + length text = omega arith in
    stops front (91 ∷ 94 ∷ (text ++ back)) opened last (fault (BadRange (length front + 2 + length text))) [] (BadRange (length front + 2 + length text)) (taken b)
    (broken_set_says i (length front) true (length front + 1 + 1) [] refl ∙ ap (λ (n : ℕ). fault (BadRange n) ∷ []) sums) refl

-- a faulty text is read as its fault
pub faulty_read : {text : List ℕ} {why : RegexFault} → IsFaulty text why → reading text ≡ Err why
faulty_read {text} (faulty.too_long far) = let test : nat_lt most_pattern_bytes (length text) ≡ true = grind (arith, nat_tests) in rw test refl
faulty_read {text} (faulty.behind_begin short f) = let test : nat_lt most_pattern_bytes (length text) ≡ false = grind (arith, nat_tests) in rw test (fault_read f)

-- a text that is written as a tree is faulty for its size alone
limit_alone : (text : List ℕ) (tree : Tree) (why : RegexFault) → reading text ≡ Err why → (reading text ≡ Ok tree) ⊎ ((place : ℕ) × (reading text ≡ Err (TooLarge place))) → IsLimit why
limit_alone text tree why e (inl r) = absurd (let no : ◌≡◌ {A = Result Tree RegexFault} (Err why) (Ok tree) = sym e ∙ r in cc)
limit_alone text tree why e (inr r) = subst IsLimit (sym (same_why why (TooLarge r.0) (sym e ∙ r.1))) tt

answer_of : (text : List ℕ) (answer : Result Tree RegexFault) → reading text ≡ answer → ((tree : Tree) × IsPattern text tree) ⊎ ((why : RegexFault) × IsFaulty text why)
answer_of text (Ok tree) e = inl (tree, reading_written text tree e)
answer_of text (Err why) e = inr (why, reading_faulty text why e)

pub one_answer : (text : List ℕ) → HasOneAnswer text
one_answer text = record {
  some = answer_of text (reading text) refl;
  one_tree = one_tree text;
  one_fault = λ why other is too. same_why why other (sym (faulty_read is) ∙ faulty_read too);
  both = λ tree why p is. limit_alone text tree why (faulty_read is) (written_read text tree p);
}

-- a call that returns the reading refuses a faulty text for its fault
refused_with : {X : Type 0} (view : X → Tree) (text : List ℕ) (why : RegexFault) (answer : Result X RegexFault) → reading text ≡ Err why → Gives view answer (reading text) → IsRefusedWith why answer
refused_with view text why (Ok x) e g = absurd (let no : ◌≡◌ {A = Result Tree RegexFault} (Ok (view x)) (Err why) = sym g ∙ e in cc)
refused_with view text why (Err NoMemory) e g = tt
refused_with view text why (Err (TooLarge place)) e g = same_why (TooLarge place) why (sym g ∙ e)
refused_with view text why (Err (OpenGroup place)) e g = same_why (OpenGroup place) why (sym g ∙ e)
refused_with view text why (Err (StrayClose place)) e g = same_why (StrayClose place) why (sym g ∙ e)
refused_with view text why (Err (OpenSet place)) e g = same_why (OpenSet place) why (sym g ∙ e)
refused_with view text why (Err (BadRange place)) e g = same_why (BadRange place) why (sym g ∙ e)
refused_with view text why (Err (NothingToRepeat place)) e g = same_why (NothingToRepeat place) why (sym g ∙ e)
refused_with view text why (Err (EmptyRepeat place)) e g = same_why (EmptyRepeat place) why (sym g ∙ e)
refused_with view text why (Err (NestedRepeat place)) e g = same_why (NestedRepeat place) why (sym g ∙ e)
refused_with view text why (Err (EndsInBackslash place)) e g = same_why (EndsInBackslash place) why (sym g ∙ e)

pub sole_answer : {X : Type 0} (view : X → Tree) (text : List ℕ) (answer : Result X RegexFault) → Gives view answer (reading text) → IsSoleAnswer text answer
sole_answer view text answer g = λ why is. refused_with view text why answer (faulty_read is) g
