-- The values of an unquoted argument, byte by byte. Values that are too long stay too long.
use Rattle.std.proofs.Common.{◌≡◌, ℕ, ◌+◌, ◌≤◌, ◌<◌, Bool, true, false, cond, ◌||◌, ◌&&◌, ◌==◌, nat_lt, List, [], ◌∷◌, ◌++◌, length, map, filter, refl, sym, ap, ◌∙◌, arith, append_assoc, append-nil, length-append}
use Rattle.std.proofs.lemmas.Bool.Decides.{nat_tests}
use Rattle.std.proofs.lemmas.List.{map-append}
use Rattle.std.proofs.lemmas.List.Folds.{list_any-append}
use Rattle.std.proofs.lemmas.List.Sums.{sum_by-append}
use Rattle.std.specs.List.{list_any}
use Rattle.std.proofs.Math.Bool.{or-true}
use Rattle.std.proofs.lemmas.Bool.{lt-ltb}
use Rattle.ct_base.specs.Bytes.{backslash, semicolon}
use Rattle.ct_base.specs.Entries.{entries_of, is_entry, parts_of, parts_with, with_front}
use Rattle.ct_base.proofs.EntryLemmas.{with_front-append, no_front, front_ends}
use Rattle.ct_suite.specs.Values.{bare, is_too_long, size}
use Rattle.ct_suite.specs.Readers.{StopsIf, are_too_long, is_ended}
use Rattle.ct_suite.specs.declared.fault.ValueFault.{ValueFault}
use Rattle.ct_suite.specs.declared.fault.ValueFault.TheVariants.{TooLong, NoMemory}
use Rattle.ct_suite.specs.declared.limits.ValueLimits.{ValueLimits}
use Rattle.ct_suite.specs.declared.value.Value.{Value}

-- a stop that P allows is a stop that Q allows, if Q follows from P
pub StopsIf-then : {P Q : Type 0} (why : ValueFault) → (P → Q) → StopsIf P why → StopsIf Q why
StopsIf-then TooLong then is = then is
StopsIf-then NoMemory then is = tt

either_more : (a b c d : Bool) → (a || b) ≡ true → (b ≡ true → d ≡ true) → ((a || c) || d) ≡ true
either_more true b c d is more = refl
either_more false b true d is more = refl
either_more false b false d is more = more is

pub above_more : (most one other : ℕ) → one ≤ other → nat_lt most one ≡ true → nat_lt most other ≡ true
above_more most one other up is = grind (arith, nat_tests)

module _ (limits : ValueLimits) where
  -- values that are too long stay too long with more values behind them
  pub too_long-more : (values more : List Value) → are_too_long limits values ≡ true → are_too_long limits (values ++ more) ≡ true
  too_long-more values more is =
      let any = list_any-append (is_too_long limits.value_bytes) values more in
      let sum = sum_by-append (λ (value : Value). length value.text) values more in
      ap (λ a. a || nat_lt limits.all_value_bytes (size (values ++ more))) any
      ∙ either_more (list_any (is_too_long limits.value_bytes) values) (nat_lt limits.all_value_bytes (size values)) (list_any (is_too_long limits.value_bytes) more) (nat_lt limits.all_value_bytes (size (values ++ more))) is (above_more limits.all_value_bytes (size values) (size (values ++ more)) (omega (arith, sum)))

  any_front : (piece : List ℕ) (parts : List (List ℕ)) → limits.value_bytes < length piece → list_any (is_too_long limits.value_bytes) (map bare (filter is_entry (with_front piece parts))) ≡ true
  any_front [] parts long = absurd (omega (arith, long))
  any_front (byte ∷ piece) [] long = ap (λ a. a || false) (lt-ltb limits.value_bytes (length (byte ∷ piece)) long)
  any_front (byte ∷ piece) (part ∷ parts) long =
      ap (λ a. a || list_any (is_too_long limits.value_bytes) (map bare (filter is_entry parts))) (lt-ltb limits.value_bytes (length (byte ∷ (piece ++ part))) (omega (arith, long, length-append piece part)))

  -- a value whose first part is too long already is too long
  pub too_long-front : (values : List Value) (piece : List ℕ) (parts : List (List ℕ)) → limits.value_bytes < length piece → are_too_long limits (values ++ map bare (filter is_entry (with_front piece parts))) ≡ true
  too_long-front values piece parts long =
      let behind = map bare (filter is_entry (with_front piece parts)) in
      ap (λ a. a || nat_lt limits.all_value_bytes (size (values ++ behind))) (list_any-append (is_too_long limits.value_bytes) values behind ∙ ap (λ a. list_any (is_too_long limits.value_bytes) values || a) (any_front piece parts long) ∙ or-true (list_any (is_too_long limits.value_bytes) values))

  -- a whole value that is too long makes the values too long
  pub too_long-value : (values : List Value) (value : Value) → limits.value_bytes < length value.text → are_too_long limits (values ++ value ∷ []) ≡ true
  too_long-value values value long =
      ap (λ a. a || nat_lt limits.all_value_bytes (size (values ++ value ∷ []))) (list_any-append (is_too_long limits.value_bytes) values (value ∷ []) ∙ ap (λ a. list_any (is_too_long limits.value_bytes) values || (a || false)) (lt-ltb limits.value_bytes (length value.text) long) ∙ or-true (list_any (is_too_long limits.value_bytes) values))

  -- values that are too long together are too long
  pub too_long-all : (values : List Value) (value : Value) → limits.all_value_bytes < size values + length value.text → are_too_long limits (values ++ value ∷ []) ≡ true
  too_long-all values value long =
      let sum = sum_by-append (λ (v : Value). length v.text) values (value ∷ []) in
      ap (λ a. list_any (is_too_long limits.value_bytes) (values ++ value ∷ []) || a) (lt-ltb limits.all_value_bytes (size (values ++ value ∷ [])) (omega (arith, sum, long))) ∙ or-true (list_any (is_too_long limits.value_bytes) (values ++ value ∷ []))

-- the size of the values with one more
pub size-more : (values : List Value) (value : Value) → size (values ++ value ∷ []) ≡ size values + length value.text
size-more values value = omega (arith, sum_by-append (λ (v : Value). length v.text) values (value ∷ []))

-- a semicolon ends a part
pub parts-ended : (rest : List ℕ) → parts_of (semicolon ∷ rest) ≡ [] ∷ parts_of rest
parts-ended [] = refl
parts-ended (next ∷ rest) = refl

-- a backslash is a byte, unless a semicolon stands behind it
pub parts-backslash : (rest : List ℕ) → is_ended rest ≡ false → parts_of (backslash ∷ rest) ≡ with_front (backslash ∷ []) (parts_of rest)
parts-backslash [] free = refl
parts-backslash (next ∷ rest) free = ap (λ is. cond is (with_front (semicolon ∷ []) (parts_of rest)) (with_front (backslash ∷ []) (parts_of (next ∷ rest)))) free

-- each other byte is a byte of its part
pub parts-other : (byte : ℕ) (rest : List ℕ) → (byte == semicolon) ≡ false → (byte == backslash) ≡ false → parts_of (byte ∷ rest) ≡ with_front (byte ∷ []) (parts_of rest)
parts-other byte [] other plain = ap (λ is. cond is ([] ∷ ([] ∷ [])) (with_front (byte ∷ []) ([] ∷ []))) other
parts-other byte (next ∷ rest) other plain =
    ap (λ is. cond (is && next == semicolon) (with_front (semicolon ∷ []) (parts_of rest)) (parts_with byte (parts_of (next ∷ rest)))) plain
    ∙ ap (λ is. cond is ([] ∷ parts_of (next ∷ rest)) (with_front (byte ∷ []) (parts_of (next ∷ rest)))) other

-- the values followed by those of an entry that begins with this text and goes on with these parts
abbrev pub with_parts : List Value → List ℕ → List (List ℕ) → List Value
with_parts values text parts = values ++ map bare (filter is_entry (with_front text parts))

-- a piece is read of the entry
pub with_parts-joined : (values : List Value) (text piece : List ℕ) (parts : List (List ℕ)) → with_parts values (text ++ piece) parts ≡ with_parts values text (with_front piece parts)
with_parts-joined values text piece parts = ap (λ ps. values ++ map bare (filter is_entry ps)) (sym (with_front-append text piece parts))

-- the entry is ended
pub with_parts-ended : (values : List Value) (text : List ℕ) (parts : List (List ℕ)) → with_parts (values ++ map bare (filter is_entry (text ∷ []))) [] parts ≡ with_parts values text ([] ∷ parts)
with_parts-ended values text parts =
    append_assoc values (map bare (filter is_entry (text ∷ []))) (map bare (filter is_entry (with_front [] parts)))
    ∙ ap (λ vs. values ++ vs) (sym (map-append bare (filter is_entry (text ∷ [])) (filter is_entry (with_front [] parts))))
    ∙ ap (λ es. values ++ map bare es) (ap (λ es. filter is_entry (text ∷ []) ++ es) (no_front parts) ∙ sym (front_ends text parts))

-- nothing more is read
pub with_parts-nothing : (values : List Value) (text : List ℕ) → with_parts values text (parts_of []) ≡ values ++ map bare (filter is_entry (text ∷ []))
with_parts-nothing values text = ap (λ t. values ++ map bare (filter is_entry (t ∷ []))) (append-nil text)

-- nothing is read yet
pub with_parts-all : (values : List Value) (text : List ℕ) → with_parts values [] (parts_of text) ≡ values ++ map bare (entries_of text)
with_parts-all values text = ap (λ es. values ++ map bare es) (no_front (parts_of text))
