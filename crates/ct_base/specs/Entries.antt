-- A text as a list of entries. Source: CMake manual, cmake-language(7), Lists.
-- This project's choice: square brackets protect nothing, and no entry is empty.
use Rattle.std.specs.Prelude.{ℕ, Bool, true, false, ◌&&◌, List, [], ◌∷◌, ◌++◌, filter, ◌==◌, if◌then◌else◌}
use Rattle.ct_base.specs.Bytes.{backslash, semicolon}

-- the text begins with an escaped semicolon
abbrev pub is_escape : List ℕ → Bool
is_escape [] = false
is_escape (byte ∷ []) = false
is_escape (byte ∷ next ∷ rest) = byte == backslash && next == semicolon

-- the parts, with the piece in front of the first one; without parts, the piece alone
abbrev pub with_front : List ℕ → List (List ℕ) → List (List ℕ)
with_front piece [] = piece ∷ []
with_front piece (part ∷ parts) = (piece ++ part) ∷ parts

-- the parts of a text, from its first byte and the parts of the bytes behind it
abbrev pub parts_with : ℕ → List (List ℕ) → List (List ℕ)
parts_with byte parts = if byte == semicolon then [] ∷ parts else with_front (byte ∷ []) parts

-- the parts between the semicolons of a text, the empty ones too; an escaped semicolon is a byte of its part
abbrev pub parts_of : List ℕ → List (List ℕ)
parts_of [] = [] ∷ []
parts_of (byte ∷ []) = parts_with byte ([] ∷ [])
parts_of (byte ∷ next ∷ rest) =
    if is_escape (byte ∷ next ∷ rest)
    then with_front (semicolon ∷ []) (parts_of rest)
    else parts_with byte (parts_of (next ∷ rest))

-- the part is an entry: it is not empty
abbrev pub is_entry : List ℕ → Bool
is_entry [] = false
is_entry (byte ∷ bytes) = true

-- the entries of a text: its parts that are not empty
abbrev pub entries_of : List ℕ → List (List ℕ)
entries_of text = filter is_entry (parts_of text)
