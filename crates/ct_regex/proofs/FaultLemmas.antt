-- Where the reader refuses a text, the text is no pattern by the grammar, for the same fault.
use Rattle.std.proofs.Common.{◌≡◌, ◌<◌, ◌≤◌, ◌⊎◌, inl, inr, ℕ, zero, suc, Bool, true, false, List, [], ◌∷◌, ◌++◌, length, refl, sym, ◌∙◌, ap, subst, append-nil, append_assoc, nat_lt, Result, Ok, Err, arith}
use Rattle.std.proofs.lemmas.Bool.Decides.{nat_tests}
use Rattle.std.proofs.lemmas.List.{length-append}
use Rattle.ct_regex.specs.Limits.{most_pattern_bytes, most_open_groups}
use Rattle.ct_regex.specs.declared.tree.Quantifier.{Quantifier}
use Rattle.ct_regex.specs.declared.fault.RegexFault.{RegexFault}
use Rattle.ct_regex.specs.declared.fault.RegexFault.TheVariants.{OpenGroup, StrayClose, OpenSet, BadRange, NothingToRepeat, EmptyRepeat, NestedRepeat, EndsInBackslash, TooLarge, NoMemory}
use Rattle.ct_regex.specs.Tree.{Tree}
use Rattle.ct_regex.specs.Signs.{Sign, signs}
use Rattle.ct_regex.specs.Reading.{Last, no_part, bare, quantified, Group, Groups, opened_at, with_atom, with_branch, closed, may_repeat, with_quantifier, with_group, with_close, with_sign, at_end, and_then, map_ok, read, reading}
use Rattle.ct_regex.specs.Gives.{Gives}
use Rattle.ct_regex.specs.Grammar.{byte_of}
use Rattle.ct_regex.specs.Faulty as faulty
use Rattle.ct_regex.specs.Faulty.{IsBegun, HasFault, IsFaulty, RefusesFault}
use Rattle.ct_regex.proofs.GrammarLemmas.{IsSign, of_one, of_open, of_close, of_bar, of_often, PlacedAt, SignRead, SignFault, sign_view, sign_len}
use Rattle.ct_regex.proofs.WrittenLemmas.{opened_read}
use Rattle.ct_regex.proofs.BegunLemmas.{end_of, places_of, places_len, HasBegun, begun_of, one_begun, bar_begun, open_begun, close_begun, may_behind, with_often, often_begun}

-- one more sign was taken, or the text is faulty there
data Goes (text back : List ℕ) (rest : Groups → Result Tree RegexFault) (why : RegexFault) : Type 0 where
  on : (next : Groups) → rest next ≡ Err why → HasBegun text next.inner next.outer → Goes text back rest why
  stops : HasFault (text ++ back) why → Goes text back rest why

pub same_why : (a b : RegexFault) → ◌≡◌ {A = Result Tree RegexFault} (Err a) (Err b) → a ≡ b
same_why a b e = cc

fault_as : (text other : List ℕ) (a b : RegexFault) → other ≡ text → a ≡ b → HasFault other a → HasFault text b
fault_as text other a b e f is = subst (λ (w : RegexFault). HasFault text w) f (subst (λ (xs : List ℕ). HasFault xs a) e is)

-- a fault at the byte behind a beginning
stops_at : (text back : List ℕ) (byte at : ℕ) (rest : Groups → Result Tree RegexFault) (named : ℕ → RegexFault) (why : RegexFault) → at ≡ length text → named at ≡ why → HasFault (text ++ byte ∷ back) (named (length text)) → Goes (text ++ byte ∷ []) back rest why
stops_at text back byte at rest named why e f is =
    stops (fault_as ((text ++ byte ∷ []) ++ back) (text ++ byte ∷ back) (named (length text)) why (sym (append_assoc text (byte ∷ []) back)) (ap named (sym e) ∙ f) is)

take_often : (text back : List ℕ) (at : ℕ) (inner : Group) (outer : List Group) (rest : Groups → Result Tree RegexFault) (why : RegexFault) (quantifier : Quantifier) (last : Last) → at ≡ length text →
    inner.last ≡ last → HasBegun text inner outer →
    and_then (map_ok (λ (g : Group). record { inner = g; outer = outer }) (with_quantifier quantifier at inner last)) rest ≡ Err why →
    Goes (text ++ byte_of quantifier ∷ []) back rest why
take_often text back at inner outer rest why quantifier no_part e l h k =
    let b = subst (λ (x : Last). IsBegun text (places_of inner outer) (end_of x)) l (begun_of outer text inner h) in
    stops_at text back (byte_of quantifier) at rest (λ n. NothingToRepeat n) why e (same_why (NothingToRepeat at) why k) (faulty.nothing_to_repeat quantifier back b)
take_often text back at inner outer rest why quantifier (quantified part) e l h k =
    let b = subst (λ (x : Last). IsBegun text (places_of inner outer) (end_of x)) l (begun_of outer text inner h) in
    stops_at text back (byte_of quantifier) at rest (λ n. NestedRepeat n) why e (same_why (NestedRepeat at) why k) (faulty.nested_repeat quantifier back b)
take_often text back at inner outer rest why quantifier (bare part) e l h k = by_may (may_repeat quantifier part) refl
  where
    begun : IsBegun text (places_of inner outer) (faulty.alone part)
    begun = subst (λ (x : Last). IsBegun text (places_of inner outer) (end_of x)) l (begun_of outer text inner h)

    by_may : (b : Bool) → may_repeat quantifier part ≡ b → Goes (text ++ byte_of quantifier ∷ []) back rest why
    by_may true may = on (record { inner = with_often quantifier part inner; outer = outer }) (rw may at k) (often_begun outer text inner quantifier part l may h)
    by_may false may =
        stops_at text back (byte_of quantifier) at rest (λ n. EmptyRepeat n) why e (same_why (EmptyRepeat at) why (rw may at k))
        (faulty.empty_repeat quantifier back begun (may_behind outer text inner quantifier part l h ∙ may))

take_close : (outer : List Group) (text back : List ℕ) (at : ℕ) (inner : Group) (rest : Groups → Result Tree RegexFault) (why : RegexFault) → at ≡ length text → HasBegun text inner outer →
    and_then (with_close at inner outer) rest ≡ Err why → Goes (text ++ 41 ∷ []) back rest why
take_close [] text back at inner rest why e h k = stops_at text back 41 at rest (λ n. StrayClose n) why e (same_why (StrayClose at) why k) (faulty.stray_close back h.1)
take_close (around ∷ outer) text back at inner rest why e h k =
    on (record { inner = with_atom (closed inner) around; outer = outer }) k (close_begun outer text inner around h)

take_open : (text back : List ℕ) (at : ℕ) (groups : Groups) (rest : Groups → Result Tree RegexFault) (why : RegexFault) → at ≡ length text → HasBegun text groups.inner groups.outer →
    and_then (with_group at groups) rest ≡ Err why → Goes (text ++ 40 ∷ []) back rest why
take_open text back at groups rest why e h k = by_depth (nat_lt (length groups.outer) most_open_groups) refl
  where
    begun : IsBegun text (places_of groups.inner groups.outer) (end_of groups.inner.last)
    begun = begun_of groups.outer text groups.inner h

    by_depth : (b : Bool) → nat_lt (length groups.outer) most_open_groups ≡ b → Goes (text ++ 40 ∷ []) back rest why
    by_depth true few =
        let room : length groups.outer < most_open_groups = grind (arith, nat_tests) in
        on (record { inner = opened_at at; outer = groups.inner ∷ groups.outer }) (rw few at k) (open_begun groups.outer text groups.inner at e room h)
    by_depth false few =
        let many : most_open_groups ≤ length (places_of groups.inner groups.outer) = (let deep : most_open_groups ≤ length groups.outer = grind (arith, nat_tests) in omega (arith, deep, places_len groups.inner groups.outer)) in
        stops_at text back 40 at rest (λ n. TooLarge n) why e (same_why (TooLarge at) why (rw few at k)) (faulty.too_deep back begun many)

goes : {more : List ℕ} {sign : Sign} → IsSign more sign → (text back : List ℕ) (at : ℕ) (groups : Groups) (rest : Groups → Result Tree RegexFault) (why : RegexFault) → at ≡ length text →
    HasBegun text groups.inner groups.outer → and_then (with_sign groups sign) rest ≡ Err why → PlacedAt at sign → Goes (text ++ more) back rest why
goes {more} (of_one {tree = part} o) text back at groups rest why e h k p =
    on (record { inner = with_atom part groups.inner; outer = groups.outer }) k (one_begun groups.outer text more groups.inner part o h)
goes (of_open place) text back at groups rest why e h k p = take_open text back place groups rest why (p ∙ e) h k
goes (of_close place) text back at groups rest why e h k p = take_close groups.outer text back place groups.inner rest why (p ∙ e) h k
goes of_bar text back at groups rest why e h k p =
    on (record { inner = with_branch groups.inner; outer = groups.outer }) k (bar_begun groups.outer text groups.inner h)
goes (of_often quantifier place) text back at groups rest why e h k p =
    take_often text back place groups.inner groups.outer rest why quantifier groups.inner.last (p ∙ e) refl h k

ended : (outer : List Group) (inner : Group) (text : List ℕ) (why : RegexFault) → HasBegun text inner outer → at_end inner outer ≡ Err why → HasFault text why
ended [] inner text why h k = absurd (cc)
ended (around ∷ outer) inner text why h k =
    fault_as text text (OpenGroup inner.place) why refl (same_why (OpenGroup inner.place) why k) (faulty.not_closed inner.place h.6)

reads_faulty : (n at : ℕ) (text rest : List ℕ) (groups : Groups) (why : RegexFault) → length rest ≤ n → at ≡ length text → HasBegun text groups.inner groups.outer →
    read groups (signs at rest) ≡ Err why → HasFault (text ++ rest) why
reads_faulty n at text [] groups why few e h k =
    fault_as (text ++ []) text why why (sym (append-nil text)) refl (ended groups.outer groups.inner text why h k)
reads_faulty zero at text (byte ∷ rest) groups why few e h k = absurd (omega arith)
reads_faulty (suc n) at text (byte ∷ rest) groups why few e h k = by_view (sign_view at byte rest) (λ where_at front back next short place begun read_on. reads_faulty n where_at front back next why short place begun read_on)
  where
    by_goes : (s : SignRead at (byte ∷ rest)) → Goes (text ++ s.text) s.back (λ (next : Groups). read next (signs s.behind s.back)) why →
        ((where_at : ℕ) (front back : List ℕ) (next : Groups) → length back ≤ n → where_at ≡ length front → HasBegun front next.inner next.outer → read next (signs where_at back) ≡ Err why → HasFault (front ++ back) why) → HasFault (text ++ byte ∷ rest) why
    by_goes s (stops is) again =
        fault_as (text ++ byte ∷ rest) ((text ++ s.text) ++ s.back) why why (append_assoc text s.text s.back ∙ ap (λ xs. text ++ xs) (sym s.split)) refl is
    by_goes s (on next read_on begun) again =
        fault_as (text ++ byte ∷ rest) ((text ++ s.text) ++ s.back) why why (append_assoc text s.text s.back ∙ ap (λ xs. text ++ xs) (sym s.split)) refl
        (again s.behind (text ++ s.text) s.back next (omega (arith, few, ap length s.split, length-append s.text s.back, sign_len s.written)) (omega (arith, s.size, e, length-append text s.text)) begun read_on)

    by_view : SignRead at (byte ∷ rest) ⊎ SignFault at (byte ∷ rest) →
        ((where_at : ℕ) (front back : List ℕ) (next : Groups) → length back ≤ n → where_at ≡ length front → HasBegun front next.inner next.outer → read next (signs where_at back) ≡ Err why → HasFault (front ++ back) why) → HasFault (text ++ byte ∷ rest) why
    by_view (inl s) again =
        by_goes s (goes s.written text s.back at groups (λ (next : Groups). read next (signs s.behind s.back)) why e h (sym (ap (read groups) s.reads) ∙ k) s.placed) again
    by_view (inr f) again =
        let same : f.why ≡ why = same_why f.why why (sym (ap (read groups) f.reads) ∙ k) in
        fault_as (text ++ byte ∷ rest) (text ++ byte ∷ rest) f.why why refl same (f.is text (places_of groups.inner groups.outer) (end_of groups.inner.last) e (begun_of groups.outer text groups.inner h))

-- a text that is not read is faulty
pub reading_faulty : (text : List ℕ) (why : RegexFault) → reading text ≡ Err why → IsFaulty text why
reading_faulty text why h = by_len (nat_lt most_pattern_bytes (length text)) refl
  where
    by_len : (b : Bool) → nat_lt most_pattern_bytes (length text) ≡ b → IsFaulty text why
    by_len true many =
        let far : most_pattern_bytes < length text = grind (arith, nat_tests) in
        subst (λ (w : RegexFault). IsFaulty text w) (same_why (TooLarge most_pattern_bytes) why (rw many at h)) (faulty.too_long far)
    by_len false few =
        let short : length text ≤ most_pattern_bytes = grind (arith, nat_tests) in
        faulty.behind_begin short
        (reads_faulty (length text) 0 [] text (record { inner = opened_at 0; outer = [] }) why (omega arith) refl (opened_read 0, faulty.empty) (rw few at h))

-- what a call refuses, in terms of the grammar
pub refuses_fault : {X : Type 0} (view : X → Tree) (text : List ℕ) (answer : Result X RegexFault) → Gives view answer (reading text) → RefusesFault text answer
refuses_fault view text (Ok x) g = tt
refuses_fault view text (Err NoMemory) g = tt
refuses_fault view text (Err (TooLarge place)) g = reading_faulty text (TooLarge place) g
refuses_fault view text (Err (OpenGroup place)) g = reading_faulty text (OpenGroup place) g
refuses_fault view text (Err (StrayClose place)) g = reading_faulty text (StrayClose place) g
refuses_fault view text (Err (OpenSet place)) g = reading_faulty text (OpenSet place) g
refuses_fault view text (Err (BadRange place)) g = reading_faulty text (BadRange place) g
refuses_fault view text (Err (NothingToRepeat place)) g = reading_faulty text (NothingToRepeat place) g
refuses_fault view text (Err (EmptyRepeat place)) g = reading_faulty text (EmptyRepeat place) g
refuses_fault view text (Err (NestedRepeat place)) g = reading_faulty text (NestedRepeat place) g
refuses_fault view text (Err (EndsInBackslash place)) g = reading_faulty text (EndsInBackslash place) g
