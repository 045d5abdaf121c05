-- The entries of a text while it is read byte by byte; each step keeps what the whole text stands for.
use Rattle.std.specs.Prelude.{ℕ, ◌+◌, ◌<◌, ◌≤◌, ◌≡◌, List, [], ◌∷◌, ◌++◌, true, false, filter, drop, length, slice_index, refl, ◌==◌, if◌then◌else◌}
use Rattle.std.proofs.Common.{sym, ap, ◌∙◌}
use Rattle.std.proofs.lemmas.Bool.{ne_eqb}
use Rattle.std.proofs.lemmas.List.{append_assoc, append-nil, drop-drop, drop_more, drop_all}
use Rattle.ct_base.specs.Bytes.{semicolon}
use Rattle.ct_base.specs.Entries.{entries_of, is_entry, is_escape, parts_of, parts_with, with_front}

byte-other : (byte : ℕ) → (byte ≡ semicolon → ⊥) → (byte == semicolon) ≡ false
byte-other byte other = ne_eqb byte semicolon other

pub with_front-append : (one other : List ℕ) (parts : List (List ℕ)) → with_front one (with_front other parts) ≡ with_front (one ++ other) parts
with_front-append one other [] = refl
with_front-append one other (part ∷ parts) = ap (λ p. p ∷ parts) (sym (append_assoc one other part))

pub no_front : (parts : List (List ℕ)) → filter is_entry (with_front [] parts) ≡ filter is_entry parts
no_front [] = refl
no_front (part ∷ parts) = refl

pub front_ends : (piece : List ℕ) (parts : List (List ℕ)) → filter is_entry (with_front piece ([] ∷ parts)) ≡ filter is_entry (piece ∷ []) ++ filter is_entry parts
front_ends [] parts = refl
front_ends (byte ∷ bytes) parts = ap (λ p. p ∷ filter is_entry parts) (append-nil (byte ∷ bytes))

escape-parts : (text : List ℕ) → is_escape text ≡ true → parts_of text ≡ with_front (semicolon ∷ []) (parts_of (drop 2 text))
escape-parts [] is = cc
escape-parts (byte ∷ []) is = cc
escape-parts (byte ∷ next ∷ rest) is = rw is refl

byte-parts : (byte : ℕ) (behind : List ℕ) → is_escape (byte ∷ behind) ≡ false → parts_of (byte ∷ behind) ≡ parts_with byte (parts_of behind)
byte-parts byte [] is = refl
byte-parts byte (next ∷ rest) is = rw is refl

escape-at : (text : List ℕ) (at : ℕ) → is_escape (drop at text) ≡ true → parts_of (drop at text) ≡ with_front (semicolon ∷ []) (parts_of (drop (at + 2) text))
escape-at text at is = escape-parts (drop at text) is ∙ ap (λ t. with_front (semicolon ∷ []) (parts_of t)) (drop-drop 2 at text)

byte-at : (text : List ℕ) (at : ℕ) → at < length text → is_escape (drop at text) ≡ false → parts_of (drop at text) ≡ parts_with (slice_index text at) (parts_of (drop (at + 1) text))
byte-at text at within is =
    let split = drop_more text at 0 within in
    ap parts_of split ∙ byte-parts (slice_index text at) (drop (at + 1) text) (sym (ap is_escape split) ∙ is)

-- an escaped semicolon is read: a semicolon is appended to the entry
pub reads_escape : (entries all : List (List ℕ)) (entry text : List ℕ) (at : ℕ) → is_escape (drop at text) ≡ true → entries ++ filter is_entry (with_front entry (parts_of (drop at text))) ≡ all → entries ++ filter is_entry (with_front (entry ++ semicolon ∷ []) (parts_of (drop (at + 2) text))) ≡ all
reads_escape entries all entry text at is so_far =
    let rest = parts_of (drop (at + 2) text) in
    ap (λ ps. entries ++ filter is_entry ps) (sym (with_front-append entry (semicolon ∷ []) rest) ∙ ap (with_front entry) (sym (escape-at text at is))) ∙ so_far

-- another byte is read: it is appended to the entry
pub reads_byte : (entries all : List (List ℕ)) (entry text : List ℕ) (at : ℕ) → at < length text → is_escape (drop at text) ≡ false → (slice_index text at ≡ semicolon → ⊥) → entries ++ filter is_entry (with_front entry (parts_of (drop at text))) ≡ all → entries ++ filter is_entry (with_front (entry ++ slice_index text at ∷ []) (parts_of (drop (at + 1) text))) ≡ all
reads_byte entries all entry text at within is other so_far =
    let rest = parts_of (drop (at + 1) text) in
    let parts : parts_of (drop at text) ≡ with_front (slice_index text at ∷ []) rest = byte-at text at within is ∙ ap (λ b. if b then [] ∷ rest else with_front (slice_index text at ∷ []) rest) (byte-other (slice_index text at) other) in
    ap (λ ps. entries ++ filter is_entry ps) (sym (with_front-append entry (slice_index text at ∷ []) rest) ∙ ap (with_front entry) (sym parts)) ∙ so_far

-- a semicolon is read: it ends the entry
pub reads_end : (entries all : List (List ℕ)) (entry text : List ℕ) (at : ℕ) → at < length text → is_escape (drop at text) ≡ false → slice_index text at ≡ semicolon → entries ++ filter is_entry (with_front entry (parts_of (drop at text))) ≡ all → entries ++ filter is_entry (entry ∷ []) ++ filter is_entry (with_front [] (parts_of (drop (at + 1) text))) ≡ all
reads_end entries all entry text at within is ends so_far =
    let rest = parts_of (drop (at + 1) text) in
    let parts : parts_of (drop at text) ≡ [] ∷ rest = byte-at text at within is ∙ ap (λ byte. parts_with byte rest) ends in
    let whole : filter is_entry (with_front entry (parts_of (drop at text))) ≡ filter is_entry (entry ∷ []) ++ filter is_entry rest = ap (λ ps. filter is_entry (with_front entry ps)) parts ∙ front_ends entry rest in
    append_assoc entries (filter is_entry (entry ∷ [])) (filter is_entry (with_front [] rest)) ∙ ap (λ es. entries ++ (filter is_entry (entry ∷ []) ++ es)) (no_front rest) ∙ ap (λ es. entries ++ es) (sym whole) ∙ so_far

-- at the end of the text: the entry is complete
pub reads_all : (entries all : List (List ℕ)) (entry text : List ℕ) (at : ℕ) → length text ≤ at → entries ++ filter is_entry (with_front entry (parts_of (drop at text))) ≡ all → entries ++ filter is_entry (entry ∷ []) ≡ all
reads_all entries all entry text at done so_far =
    ap (λ e. entries ++ filter is_entry (e ∷ [])) (sym (append-nil entry)) ∙ ap (λ t. entries ++ filter is_entry (with_front entry (parts_of t))) (sym (drop_all at text done)) ∙ so_far

-- before the first byte: nothing is read yet
pub reads_none : (text : List ℕ) → filter is_entry (with_front [] (parts_of (drop 0 text))) ≡ entries_of text
reads_none text = no_front (parts_of text)
