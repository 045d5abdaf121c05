-- What the reader reads is what the grammar writes: the signs.
use Rattle.std.proofs.Common.{◌≡◌, ◌<◌, ◌≤◌, ◌⊎◌, ◌&&◌, ◌==◌, ℕ, zero, suc, ◌+◌, Bool, true, false, not, List, [], ◌∷◌, ◌++◌, length, cond, inl, inr, ⊎_elim, refl, sym, ◌∙◌, ap, subst, append-nil, append_assoc, nat_lt, arith}
use Rattle.std.proofs.lemmas.Bool.{and_parts, eqb-true, ltb-false, not-true}
use Rattle.std.proofs.lemmas.Bool.Decides.{nat_tests}
use Rattle.ct_regex.specs.declared.tree.Span.{Span}
use Rattle.ct_regex.specs.declared.tree.Quantifier.{Quantifier}
use Rattle.ct_regex.specs.declared.tree.Quantifier.TheVariants.{ZeroOrOne, ZeroOrMore, OneOrMore}
use Rattle.ct_regex.specs.declared.fault.RegexFault.{RegexFault}
use Rattle.ct_regex.specs.declared.fault.RegexFault.TheVariants.{OpenSet, BadRange, EndsInBackslash}
use Rattle.ct_regex.specs.Tree.{any, same, inside, outside, Tree, start, end, one}
use Rattle.ct_regex.specs.Signs.{Sign, atom, opens, closes, bar, often, fault, signs, set_signs, plain_sign, begins_negated, is_range, second, item_high, is_none, set_of}
use Rattle.ct_regex.specs.Grammar as grammar
use Rattle.ct_regex.specs.Grammar.{MayBegin, IsItems, IsOne, byte_of}
use Rattle.ct_regex.specs.Faulty as faulty
use Rattle.ct_regex.specs.Faulty.{PartEnd, IsBegun, IsOpenSet, IsBrokenSet, HasFault}
use Rattle.ct_regex.proofs.SignsLemmas.{skip_two, set_item, is_none-push}

-- a set was read: its items and its `]`, and what stands behind it
pub record SetRead (opened : ℕ) (negated : Bool) (at : ℕ) (items : List Span) (rest : List ℕ) : Type 0 where
  pub text : List ℕ
  pub more : List Span
  pub back : List ℕ
  pub behind : ℕ
  pub split : rest ≡ text ++ back
  pub written : IsItems (is_none items) text more
  pub reads : set_signs opened negated 0 at items rest ≡ atom (one (set_of negated (items ++ more))) ∷ signs behind back
  pub size : behind ≡ at + length text

-- the items of a set are broken at a place, or have no `]`
abbrev pub SetSays : Bool → ℕ → ℕ → List ℕ → RegexFault → Type 0
SetSays first opened at rest why =
    ((why ≡ OpenSet opened) × IsOpenSet first rest)
    ⊎ ((front : List ℕ) × (back : List ℕ) × (rest ≡ front ++ back) × IsBrokenSet first front back × (why ≡ BadRange (at + length front)))

range_says : (first : Bool) (opened at low high : ℕ) (back : List ℕ) (why : RegexFault) → MayBegin first low → (high == 93) ≡ false → low ≤ high → SetSays false opened (at + 1 + 1 + 1) back why → SetSays first opened at (low ∷ 45 ∷ high ∷ back) why
range_says first opened at low high back why begins other fits (inl f) = inl (f.0, faulty.range low high begins other fits f.1)
range_says first opened at low high back why begins other fits (inr f) =
    let sums : (at + 1 + 1 + 1) + length f.0 ≡ at + length (low ∷ 45 ∷ high ∷ f.0) = omega arith in
    inr (low ∷ 45 ∷ high ∷ f.0, f.1, ap (λ xs. low ∷ 45 ∷ high ∷ xs) f.2, faulty.range low high begins other fits f.3, f.4 ∙ ap (λ (n : ℕ). BadRange n) sums)

byte_says : (first : Bool) (opened at low : ℕ) (back : List ℕ) (why : RegexFault) → MayBegin first low → is_range back ≡ false → SetSays false opened (at + 1) back why → SetSays first opened at (low ∷ back) why
byte_says first opened at low back why begins alone (inl f) = inl (f.0, faulty.byte low begins alone f.1)
byte_says first opened at low back why begins alone (inr f) =
    let sums : (at + 1) + length f.0 ≡ at + length (low ∷ f.0) = omega arith in
    inr (low ∷ f.0, f.1, ap (λ xs. low ∷ xs) f.2, faulty.byte low begins (ap is_range (sym f.2) ∙ alone) f.3, f.4 ∙ ap (λ (n : ℕ). BadRange n) sums)

pub record SetFault (opened : ℕ) (negated : Bool) (at : ℕ) (items : List Span) (rest : List ℕ) : Type 0 where
  pub why : RegexFault
  pub reads : set_signs opened negated 0 at items rest ≡ fault why ∷ []
  pub is : SetSays (is_none items) opened at rest why

and_false : (a b : Bool) → (a && not b) ≡ false → (b ≡ true) ⊎ (a ≡ false)
and_false true true h = inl refl
and_false true false h = absurd (let no : true ≡ false = h in cc)
and_false false b h = inr refl

is_range_front : (xs ys : List ℕ) → is_range (xs ++ ys) ≡ false → is_range xs ≡ false
is_range_front [] ys h = refl
is_range_front (dash ∷ []) ys h = refl
is_range_front (dash ∷ high ∷ xs) ys h = h

-- what a range is made of
record RangeRead (rest : List ℕ) : Type 0 where
  high : ℕ
  back : List ℕ
  split : rest ≡ 45 ∷ high ∷ back
  other : (high == 93) ≡ false

range_read : (rest : List ℕ) → is_range rest ≡ true → RangeRead rest
range_read [] h = absurd (let no : false ≡ true = h in cc)
range_read (dash ∷ []) h = absurd (let no : false ≡ true = h in cc)
range_read (dash ∷ high ∷ back) h =
    let both = and_parts (dash == 45) (not (high == 93)) h in
    record { high = high; back = back; split = ap (λ d. d ∷ high ∷ back) (eqb-true dash 45 both.0); other = not-true (high == 93) both.1 }

-- a range that ends below its begin
bad_says : (first : Bool) (opened at byte : ℕ) (rest : List ℕ) (b : Bool) → is_range rest ≡ b → MayBegin first byte → nat_lt (item_high byte rest) byte ≡ true → SetSays first opened at (byte ∷ rest) (BadRange at)
bad_says first opened at byte rest false r begins bad =
    let high : item_high byte rest ≡ byte = ap (λ (b : Bool). cond b (second rest) byte) r in
    let same : nat_lt byte byte ≡ true = ap (λ (n : ℕ). nat_lt n byte) (sym high) ∙ bad in
    absurd (let less : byte < byte = grind (arith, nat_tests) in omega arith)
bad_says first opened at byte rest true r begins bad =
    let range = range_read rest r in
    let high : item_high byte rest ≡ range.high = ap (λ (b : Bool). cond b (second rest) byte) r ∙ ap second range.split in
    let test : nat_lt range.high byte ≡ true = ap (λ (n : ℕ). nat_lt n byte) (sym high) ∙ bad in
    let less : range.high < byte = grind (arith, nat_tests) in
    let none : at ≡ at + length {A = ℕ} [] = omega arith in
    inr ([], byte ∷ rest, refl, subst (λ (xs : List ℕ). IsBrokenSet first [] (byte ∷ xs)) (sym range.split) (faulty.below byte range.high begins range.other less), ap (λ (n : ℕ). BadRange n) none)

pub set_view : (n opened : ℕ) (negated : Bool) (at : ℕ) (items : List Span) (rest : List ℕ) → length rest ≤ n →
    SetRead opened negated at items rest ⊎ SetFault opened negated at items rest
set_view n opened negated at items [] h = inr (record { why = OpenSet opened; reads = refl; is = inl (refl, faulty.at_end) })
set_view zero opened negated at items (byte ∷ rest) h = absurd (omega arith)
set_view (suc n) opened negated at items (byte ∷ rest) h =
    by_close ((byte == 93) && not (is_none items)) refl
    (λ back more_items where_at short. set_view n opened negated where_at more_items back short)
  where
    again_type : Type 0
    again_type = (back : List ℕ) (more_items : List Span) (where_at : ℕ) → length back ≤ n → SetRead opened negated where_at more_items back ⊎ SetFault opened negated where_at more_items back

    by_range : (b : Bool) → is_range rest ≡ b → ((byte == 93) && not (is_none items)) ≡ false → nat_lt (item_high byte rest) byte ≡ false →
        ((back : List ℕ) (more_items : List Span) (where_at : ℕ) → length back ≤ n → SetRead opened negated where_at more_items back ⊎ SetFault opened negated where_at more_items back) →
        SetRead opened negated at items (byte ∷ rest) ⊎ SetFault opened negated at items (byte ∷ rest)
    by_range true r unclosed good again =
        let range = range_read rest r in
        let high : item_high byte rest ≡ range.high = ap (λ (b : Bool). cond b (second rest) byte) r ∙ ap second range.split in
        let item : Span = record { low = byte; high = item_high byte rest } in
        let few : 2 ≤ length rest = omega (arith, ap length range.split) in
        let back : drop_two rest ≡ range.back = ap drop_two range.split in
        let start_of : set_signs opened negated 0 at items (byte ∷ rest) ≡ set_signs opened negated 0 (at + 1 + 1 + 1) (items ++ item ∷ []) range.back =
        set_item opened negated at items byte rest unclosed good
        ∙ ap (λ (b : Bool). set_signs opened negated (cond b 2 0) (at + 1) (items ++ item ∷ []) rest) r
        ∙ skip_two opened negated (at + 1) (items ++ item ∷ []) rest few
        ∙ ap (set_signs opened negated 0 (at + 1 + 1 + 1) (items ++ item ∷ [])) back in
        ⊎_elim
        (λ (s : SetRead opened negated (at + 1 + 1 + 1) (items ++ item ∷ []) range.back). inl (record {
          text = byte ∷ 45 ∷ range.high ∷ s.text;
          more = item ∷ s.more;
          back = s.back;
          behind = s.behind;
          split = ap (λ xs. byte ∷ xs) (range.split ∙ ap (λ xs. 45 ∷ range.high ∷ xs) s.split);
          written = subst (λ (v : ℕ). IsItems (is_none items) (byte ∷ 45 ∷ range.high ∷ s.text) (record { low = byte; high = v } ∷ s.more)) (sym high)
              (grammar.range byte range.high (and_false (byte == 93) (is_none items) unclosed) range.other
              (subst (λ (v : ℕ). byte ≤ v) high (ltb-false (item_high byte rest) byte good))
              (subst (λ (b : Bool). IsItems b s.text s.more) (is_none-push items item) s.written));
          reads = start_of ∙ s.reads ∙ ap (λ (xs : List Span). atom (one (set_of negated xs)) ∷ signs s.behind s.back) (append_assoc items (item ∷ []) s.more);
          size = omega (arith, s.size);
        }))
        (λ (f : SetFault opened negated (at + 1 + 1 + 1) (items ++ item ∷ []) range.back). inr (record {
          why = f.why;
          reads = start_of ∙ f.reads;
          is = subst (λ (xs : List ℕ). SetSays (is_none items) opened at (byte ∷ xs) f.why) (sym range.split)
              (range_says (is_none items) opened at byte range.high range.back f.why (and_false (byte == 93) (is_none items) unclosed) range.other
              (subst (λ (v : ℕ). byte ≤ v) high (ltb-false (item_high byte rest) byte good))
              (subst (λ (b : Bool). SetSays b opened (at + 1 + 1 + 1) range.back f.why) (is_none-push items item) f.is));
        }))
        (again range.back (items ++ item ∷ []) (at + 1 + 1 + 1) (omega (arith, ap length range.split)))
      where
        drop_two : List ℕ → List ℕ
        drop_two [] = []
        drop_two (x ∷ []) = []
        drop_two (x ∷ y ∷ xs) = xs
    by_range false r unclosed good again =
        let high : item_high byte rest ≡ byte = ap (λ (b : Bool). cond b (second rest) byte) r in
        let item : Span = record { low = byte; high = item_high byte rest } in
        let start_of : set_signs opened negated 0 at items (byte ∷ rest) ≡ set_signs opened negated 0 (at + 1) (items ++ item ∷ []) rest =
        set_item opened negated at items byte rest unclosed good
        ∙ ap (λ (b : Bool). set_signs opened negated (cond b 2 0) (at + 1) (items ++ item ∷ []) rest) r in
        ⊎_elim
        (λ (s : SetRead opened negated (at + 1) (items ++ item ∷ []) rest). inl (record {
          text = byte ∷ s.text;
          more = item ∷ s.more;
          back = s.back;
          behind = s.behind;
          split = ap (λ xs. byte ∷ xs) s.split;
          written = subst (λ (v : ℕ). IsItems (is_none items) (byte ∷ s.text) (record { low = byte; high = v } ∷ s.more)) (sym high)
              (grammar.byte byte (and_false (byte == 93) (is_none items) unclosed)
              (is_range_front s.text s.back (ap is_range (sym s.split) ∙ r))
              (subst (λ (b : Bool). IsItems b s.text s.more) (is_none-push items item) s.written));
          reads = start_of ∙ s.reads ∙ ap (λ (xs : List Span). atom (one (set_of negated xs)) ∷ signs s.behind s.back) (append_assoc items (item ∷ []) s.more);
          size = omega (arith, s.size);
        }))
        (λ (f : SetFault opened negated (at + 1) (items ++ item ∷ []) rest). inr (record {
          why = f.why;
          reads = start_of ∙ f.reads;
          is = byte_says (is_none items) opened at byte rest f.why (and_false (byte == 93) (is_none items) unclosed) r
              (subst (λ (b : Bool). SetSays b opened (at + 1) rest f.why) (is_none-push items item) f.is);
        }))
        (again rest (items ++ item ∷ []) (at + 1) (omega arith))

    by_good : (b : Bool) → nat_lt (item_high byte rest) byte ≡ b → ((byte == 93) && not (is_none items)) ≡ false →
        ((back : List ℕ) (more_items : List Span) (where_at : ℕ) → length back ≤ n → SetRead opened negated where_at more_items back ⊎ SetFault opened negated where_at more_items back) →
        SetRead opened negated at items (byte ∷ rest) ⊎ SetFault opened negated at items (byte ∷ rest)
    by_good true bad unclosed again = inr (record { why = BadRange at; reads = rw (unclosed, bad) refl; is = bad_says (is_none items) opened at byte rest (is_range rest) refl (and_false (byte == 93) (is_none items) unclosed) bad })
    by_good false good unclosed again = by_range (is_range rest) refl unclosed good again

    by_close : (b : Bool) → ((byte == 93) && not (is_none items)) ≡ b →
        ((back : List ℕ) (more_items : List Span) (where_at : ℕ) → length back ≤ n → SetRead opened negated where_at more_items back ⊎ SetFault opened negated where_at more_items back) →
        SetRead opened negated at items (byte ∷ rest) ⊎ SetFault opened negated at items (byte ∷ rest)
    by_close true closed again =
        let both = and_parts (byte == 93) (not (is_none items)) closed in
        inl (record {
          text = 93 ∷ [];
          more = [];
          back = rest;
          behind = at + 1;
          split = ap (λ b. b ∷ rest) (eqb-true byte 93 both.0);
          written = subst (λ (b : Bool). IsItems b (93 ∷ []) []) (sym (not-true (is_none items) both.1)) grammar.closes;
          reads = rw closed (ap (λ (xs : List Span). atom (one (set_of negated xs)) ∷ signs (at + 1) rest) (sym (append-nil items)));
          size = omega arith;
        })
    by_close false unclosed again = by_good (nat_lt (item_high byte rest) byte) refl unclosed again

-- the text is written as the sign
pub data IsSign : List ℕ → Sign → Type 0 where
  of_one : {text : List ℕ} {tree : Tree} → IsOne text tree → IsSign text (atom tree)
  of_open : (place : ℕ) → IsSign (40 ∷ []) (opens place)
  of_close : (place : ℕ) → IsSign (41 ∷ []) (closes place)
  of_bar : IsSign (124 ∷ []) bar
  of_often : (quantifier : Quantifier) (place : ℕ) → IsSign (byte_of quantifier ∷ []) (often quantifier place)

-- a sign that has a place has this one
abbrev pub PlacedAt : ℕ → Sign → Type 0
PlacedAt at (atom tree) = Unit {0}
PlacedAt at (opens place) = place ≡ at
PlacedAt at (closes place) = place ≡ at
PlacedAt at bar = Unit {0}
PlacedAt at (often quantifier place) = place ≡ at
PlacedAt at (fault why) = Unit {0}

placed_if : (at : ℕ) (b : Bool) (x y : Sign) → PlacedAt at x → PlacedAt at y → PlacedAt at (cond b x y)
placed_if at true x y p q = p
placed_if at false x y p q = q

plain_placed : (at byte : ℕ) → PlacedAt at (plain_sign at byte)
plain_placed at byte =
    placed_if at (byte == 94) _ _ tt (placed_if at (byte == 36) _ _ tt (placed_if at (byte == 46) _ _ tt
    (placed_if at (byte == 40) _ _ refl (placed_if at (byte == 41) _ _ refl (placed_if at (byte == 124) _ _ tt
    (placed_if at (byte == 42) _ _ refl (placed_if at (byte == 43) _ _ refl (placed_if at (byte == 63) _ _ refl tt))))))))

-- a sign was read: its bytes, and what stands behind it
pub record SignRead (at : ℕ) (rest : List ℕ) : Type 0 where
  pub text : List ℕ
  pub sign : Sign
  pub back : List ℕ
  pub behind : ℕ
  pub split : rest ≡ text ++ back
  pub written : IsSign text sign
  pub reads : signs at rest ≡ sign ∷ signs behind back
  pub size : behind ≡ at + length text
  pub placed : PlacedAt at sign

pub record SignFault (at : ℕ) (rest : List ℕ) : Type 0 where
  pub why : RegexFault
  pub reads : signs at rest ≡ fault why ∷ []
  pub is : (front opened : List ℕ) (last : PartEnd) → at ≡ length front → IsBegun front opened last → HasFault (front ++ rest) why

-- a set that has a fault, behind the beginning of a pattern
set_is : (at : ℕ) (rest : List ℕ) (why : RegexFault) → begins_negated rest ≡ false → SetSays true at (at + 1) rest why →
    (front opened : List ℕ) (last : PartEnd) → at ≡ length front → IsBegun front opened last → HasFault (front ++ 91 ∷ rest) why
set_is at rest why neg (inl f) front opened last e b =
    subst (λ (w : RegexFault). HasFault (front ++ 91 ∷ rest) w) (ap (λ (n : ℕ). OpenSet n) (sym e) ∙ sym f.0) (faulty.set_not_closed b neg f.1)
set_is at rest why neg (inr f) front opened last e b =
    let sums : length front + 1 + length f.0 ≡ (at + 1) + length f.0 = omega (arith, e) in
    subst (λ (w : RegexFault). HasFault (front ++ 91 ∷ rest) w) (ap (λ (n : ℕ). BadRange n) sums ∙ sym f.4)
    (subst (λ (xs : List ℕ). HasFault (front ++ 91 ∷ xs) (BadRange (length front + 1 + length f.0))) (sym f.2) (faulty.bad_range b (ap begins_negated (sym f.2) ∙ neg) f.3))

negated_is : (at : ℕ) (rest : List ℕ) (why : RegexFault) → SetSays true at (at + 1 + 1) rest why →
    (front opened : List ℕ) (last : PartEnd) → at ≡ length front → IsBegun front opened last → HasFault (front ++ 91 ∷ 94 ∷ rest) why
negated_is at rest why (inl f) front opened last e b =
    subst (λ (w : RegexFault). HasFault (front ++ 91 ∷ 94 ∷ rest) w) (ap (λ (n : ℕ). OpenSet n) (sym e) ∙ sym f.0) (faulty.negated_not_closed b f.1)
negated_is at rest why (inr f) front opened last e b =
    let sums : length front + 2 + length f.0 ≡ (at + 1 + 1) + length f.0 = omega (arith, e) in
    subst (λ (w : RegexFault). HasFault (front ++ 91 ∷ 94 ∷ rest) w) (ap (λ (n : ℕ). BadRange n) sums ∙ sym f.4)
    (subst (λ (xs : List ℕ). HasFault (front ++ 91 ∷ 94 ∷ xs) (BadRange (length front + 2 + length f.0))) (sym f.2) (faulty.bad_negated b f.3))

-- a single byte is written as its sign
plain_view : (at byte : ℕ) → (byte == 91) ≡ false → (byte == 92) ≡ false → IsSign (byte ∷ []) (plain_sign at byte)
plain_view at byte no91 no92 = by94 (byte == 94) refl
  where
    along : (b : ℕ) (sign other : Sign) → byte ≡ b → sign ≡ other → IsSign (b ∷ []) other → IsSign (byte ∷ []) sign
    along b sign other e f s = subst (λ (v : Sign). IsSign (byte ∷ []) v) (sym f) (subst (λ (v : ℕ). IsSign (v ∷ []) other) (sym e) s)

    by63 : (b : Bool) → (byte == 63) ≡ b → (byte == 94) ≡ false → (byte == 36) ≡ false → (byte == 46) ≡ false → (byte == 40) ≡ false → (byte == 41) ≡ false → (byte == 124) ≡ false → (byte == 42) ≡ false → (byte == 43) ≡ false → IsSign (byte ∷ []) (plain_sign at byte)
    by63 true h a1 a2 a3 a4 a5 a6 a7 a8 = along 63 (plain_sign at byte) (often ZeroOrOne at) (eqb-true byte 63 h) (rw (a1, a2, a3, a4, a5, a6, a7, a8, h) refl) (of_often ZeroOrOne at)
    by63 false h a1 a2 a3 a4 a5 a6 a7 a8 = along byte (plain_sign at byte) (atom (one (same byte))) refl (rw (a1, a2, a3, a4, a5, a6, a7, a8, h) refl)
        (of_one (grammar.plain byte (rw (no91, no92, a1, a2, a3, a4, a5, a6, a7, a8, h) refl)))

    by43 : (b : Bool) → (byte == 43) ≡ b → (byte == 94) ≡ false → (byte == 36) ≡ false → (byte == 46) ≡ false → (byte == 40) ≡ false → (byte == 41) ≡ false → (byte == 124) ≡ false → (byte == 42) ≡ false → IsSign (byte ∷ []) (plain_sign at byte)
    by43 true h a1 a2 a3 a4 a5 a6 a7 = along 43 (plain_sign at byte) (often OneOrMore at) (eqb-true byte 43 h) (rw (a1, a2, a3, a4, a5, a6, a7, h) refl) (of_often OneOrMore at)
    by43 false h a1 a2 a3 a4 a5 a6 a7 = by63 (byte == 63) refl a1 a2 a3 a4 a5 a6 a7 h

    by42 : (b : Bool) → (byte == 42) ≡ b → (byte == 94) ≡ false → (byte == 36) ≡ false → (byte == 46) ≡ false → (byte == 40) ≡ false → (byte == 41) ≡ false → (byte == 124) ≡ false → IsSign (byte ∷ []) (plain_sign at byte)
    by42 true h a1 a2 a3 a4 a5 a6 = along 42 (plain_sign at byte) (often ZeroOrMore at) (eqb-true byte 42 h) (rw (a1, a2, a3, a4, a5, a6, h) refl) (of_often ZeroOrMore at)
    by42 false h a1 a2 a3 a4 a5 a6 = by43 (byte == 43) refl a1 a2 a3 a4 a5 a6 h

    by124 : (b : Bool) → (byte == 124) ≡ b → (byte == 94) ≡ false → (byte == 36) ≡ false → (byte == 46) ≡ false → (byte == 40) ≡ false → (byte == 41) ≡ false → IsSign (byte ∷ []) (plain_sign at byte)
    by124 true h a1 a2 a3 a4 a5 = along 124 (plain_sign at byte) bar (eqb-true byte 124 h) (rw (a1, a2, a3, a4, a5, h) refl) of_bar
    by124 false h a1 a2 a3 a4 a5 = by42 (byte == 42) refl a1 a2 a3 a4 a5 h

    by41 : (b : Bool) → (byte == 41) ≡ b → (byte == 94) ≡ false → (byte == 36) ≡ false → (byte == 46) ≡ false → (byte == 40) ≡ false → IsSign (byte ∷ []) (plain_sign at byte)
    by41 true h a1 a2 a3 a4 = along 41 (plain_sign at byte) (closes at) (eqb-true byte 41 h) (rw (a1, a2, a3, a4, h) refl) (of_close at)
    by41 false h a1 a2 a3 a4 = by124 (byte == 124) refl a1 a2 a3 a4 h

    by40 : (b : Bool) → (byte == 40) ≡ b → (byte == 94) ≡ false → (byte == 36) ≡ false → (byte == 46) ≡ false → IsSign (byte ∷ []) (plain_sign at byte)
    by40 true h a1 a2 a3 = along 40 (plain_sign at byte) (opens at) (eqb-true byte 40 h) (rw (a1, a2, a3, h) refl) (of_open at)
    by40 false h a1 a2 a3 = by41 (byte == 41) refl a1 a2 a3 h

    by46 : (b : Bool) → (byte == 46) ≡ b → (byte == 94) ≡ false → (byte == 36) ≡ false → IsSign (byte ∷ []) (plain_sign at byte)
    by46 true h a1 a2 = along 46 (plain_sign at byte) (atom (one any)) (eqb-true byte 46 h) (rw (a1, a2, h) refl) (of_one grammar.any_byte)
    by46 false h a1 a2 = by40 (byte == 40) refl a1 a2 h

    by36 : (b : Bool) → (byte == 36) ≡ b → (byte == 94) ≡ false → IsSign (byte ∷ []) (plain_sign at byte)
    by36 true h a1 = along 36 (plain_sign at byte) (atom end) (eqb-true byte 36 h) (rw (a1, h) refl) (of_one grammar.at_end)
    by36 false h a1 = by46 (byte == 46) refl a1 h

    by94 : (b : Bool) → (byte == 94) ≡ b → IsSign (byte ∷ []) (plain_sign at byte)
    by94 true h = along 94 (plain_sign at byte) (atom start) (eqb-true byte 94 h) (rw h refl) (of_one grammar.at_start)
    by94 false h = by36 (byte == 36) refl h

negated_front : (xs ys : List ℕ) → begins_negated (xs ++ ys) ≡ false → begins_negated xs ≡ false
negated_front [] ys h = refl
negated_front (x ∷ xs) ys h = h

escaped_view : (at byte : ℕ) (rest : List ℕ) → (byte == 91) ≡ false → (byte == 92) ≡ true → SignRead at (byte ∷ rest) ⊎ SignFault at (byte ∷ rest)
escaped_view at byte [] no91 is92 = inr (record {
  why = EndsInBackslash at;
  reads = rw (no91, is92) refl;
  is = λ front opened last e b.
      subst (λ (c : ℕ). HasFault (front ++ c ∷ []) (EndsInBackslash at)) (sym (eqb-true byte 92 is92))
      (subst (λ (n : ℕ). HasFault (front ++ 92 ∷ []) (EndsInBackslash n)) (sym e) (faulty.ends_in_backslash b));
})
escaped_view at byte (next ∷ rest) no91 is92 = inl (record {
  text = 92 ∷ next ∷ [];
  sign = atom (one (same next));
  back = rest;
  behind = at + 2;
  split = ap (λ b. b ∷ next ∷ rest) (eqb-true byte 92 is92);
  written = of_one (grammar.escaped next);
  reads = rw (no91, is92) refl;
  size = omega arith;
  placed = tt;
})

negated_view : (at byte : ℕ) (rest : List ℕ) → (byte == 91) ≡ true → begins_negated rest ≡ true → SignRead at (byte ∷ rest) ⊎ SignFault at (byte ∷ rest)
negated_view at byte [] is91 neg = absurd (let no : false ≡ true = neg in cc)
negated_view at byte (next ∷ rest) is91 neg =
    ⊎_elim
    (λ (s : SetRead at true (at + 1 + 1) [] rest). inl (record {
      text = 91 ∷ 94 ∷ s.text;
      sign = atom (one (outside s.more));
      back = s.back;
      behind = s.behind;
      split = ap (λ b. b ∷ next ∷ rest) (eqb-true byte 91 is91) ∙ ap (λ b. 91 ∷ b ∷ rest) (eqb-true next 94 neg) ∙ ap (λ xs. 91 ∷ 94 ∷ xs) s.split;
      written = of_one (grammar.of_negated s.written);
      reads = begins ∙ s.reads;
      size = omega (arith, s.size);
      placed = tt;
    }))
    (λ (f : SetFault at true (at + 1 + 1) [] rest). inr (record {
      why = f.why;
      reads = begins ∙ f.reads;
      is = λ front opened last e b.
          subst (λ (xs : List ℕ). HasFault (front ++ xs) f.why) (sym (ap (λ c. c ∷ next ∷ rest) (eqb-true byte 91 is91) ∙ ap (λ c. 91 ∷ c ∷ rest) (eqb-true next 94 neg)))
          (negated_is at rest f.why f.is front opened last e b);
    }))
    (set_view (length rest) at true (at + 1 + 1) [] rest (omega arith))
  where
    begins : signs at (byte ∷ next ∷ rest) ≡ set_signs at true 0 (at + 1 + 1) [] rest
    begins = rw (is91, neg) refl

set_sign_view : (at byte : ℕ) (rest : List ℕ) → (byte == 91) ≡ true → begins_negated rest ≡ false → SignRead at (byte ∷ rest) ⊎ SignFault at (byte ∷ rest)
set_sign_view at byte rest is91 neg =
    ⊎_elim
    (λ (s : SetRead at false (at + 1) [] rest). inl (record {
      text = 91 ∷ s.text;
      sign = atom (one (inside s.more));
      back = s.back;
      behind = s.behind;
      split = ap (λ b. b ∷ rest) (eqb-true byte 91 is91) ∙ ap (λ xs. 91 ∷ xs) s.split;
      written = of_one (grammar.of_set (negated_front s.text s.back (ap begins_negated (sym s.split) ∙ neg)) s.written);
      reads = begins ∙ s.reads;
      size = omega (arith, s.size);
      placed = tt;
    }))
    (λ (f : SetFault at false (at + 1) [] rest). inr (record {
      why = f.why;
      reads = begins ∙ f.reads;
      is = λ front opened last e b.
          subst (λ (c : ℕ). HasFault (front ++ c ∷ rest) f.why) (sym (eqb-true byte 91 is91)) (set_is at rest f.why neg f.is front opened last e b);
    }))
    (set_view (length rest) at false (at + 1) [] rest (omega arith))
  where
    begins : signs at (byte ∷ rest) ≡ set_signs at false 0 (at + 1) [] rest
    begins = rw (is91, neg) refl

pub sign_view : (at byte : ℕ) (rest : List ℕ) → SignRead at (byte ∷ rest) ⊎ SignFault at (byte ∷ rest)
sign_view at byte rest = by91 (byte == 91) refl
  where
    by92 : (b : Bool) → (byte == 92) ≡ b → (byte == 91) ≡ false → SignRead at (byte ∷ rest) ⊎ SignFault at (byte ∷ rest)
    by92 true h no91 = escaped_view at byte rest no91 h
    by92 false h no91 = inl (record {
      text = byte ∷ [];
      sign = plain_sign at byte;
      back = rest;
      behind = at + 1;
      split = refl;
      written = plain_view at byte no91 h;
      reads = rw (no91, h) refl;
      size = omega arith;
      placed = plain_placed at byte;
    })

    by_negated : (b : Bool) → begins_negated rest ≡ b → (byte == 91) ≡ true → SignRead at (byte ∷ rest) ⊎ SignFault at (byte ∷ rest)
    by_negated true h is91 = negated_view at byte rest is91 h
    by_negated false h is91 = set_sign_view at byte rest is91 h

    by91 : (b : Bool) → (byte == 91) ≡ b → SignRead at (byte ∷ rest) ⊎ SignFault at (byte ∷ rest)
    by91 true h = by_negated (begins_negated rest) refl h
    by91 false h = by92 (byte == 92) refl h

-- a sign has at least one byte
pub sign_len : {text : List ℕ} {sign : Sign} → IsSign text sign → 1 ≤ length text
sign_len (of_one o) = one_len o
  where
    one_len : {text : List ℕ} {tree : Tree} → IsOne text tree → 1 ≤ length text
    one_len grammar.at_start = omega arith
    one_len grammar.at_end = omega arith
    one_len grammar.any_byte = omega arith
    one_len (grammar.plain byte h) = omega arith
    one_len (grammar.escaped byte) = omega arith
    one_len (grammar.of_set h i) = omega arith
    one_len (grammar.of_negated i) = omega arith
sign_len (of_open place) = omega arith
sign_len (of_close place) = omega arith
sign_len of_bar = omega arith
sign_len (of_often quantifier place) = omega arith
