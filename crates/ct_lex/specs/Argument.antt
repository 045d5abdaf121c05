-- What the text of an argument stands for
-- (cmake-language(7), Command Arguments, Escape Sequences, Variable References).
use Rattle.std.specs.Prelude.{ℕ, Bool, false, not, ◌||◌, ◌&&◌, ◌==◌, if◌then◌else◌, List, [], ◌∷◌, ◌++◌, drop, Option, Some, None, codes}
use Rattle.std.specs.Char.{is_ascii_alphanumeric}
use Rattle.std.specs.List.{starts_with}
use Rattle.ct_lex.specs.Bytes.{char, is_gap, stands}
use Rattle.ct_lex.specs.declared.call.ArgKind.{ArgKind}
use Rattle.ct_lex.specs.declared.call.ArgKind.TheVariants.{Bracket, Quoted, Unquoted}
use Rattle.ct_lex.specs.declared.call.Part.{Part}
use Rattle.ct_lex.specs.declared.call.Part.TheVariants.{Bytes, Ref}

-- the byte ends the text of an argument; quoted: a `"`; unquoted: a blank, a line feed, `(`, `)`, `#` or `"`
abbrev pub ends_text : ArgKind → ℕ → Bool
ends_text Quoted byte = byte == char "\""
ends_text Unquoted byte =
    is_gap byte || byte == char "(" || byte == char ")" || byte == char "#" || byte == char "\""
ends_text Bracket byte = false

-- the byte stands for itself in the text of an argument
abbrev pub is_plain : ArgKind → ℕ → Bool
is_plain kind byte = not (ends_text kind byte || (byte == char "\\" || byte == char "$"))

-- what a backslash before a line feed stands for: no bytes in a quoted argument; elsewhere it is no escape
abbrev pub joined_line : ArgKind → Option Part
joined_line Quoted = Some (Bytes [])
joined_line Unquoted = None
joined_line Bracket = None

-- what a backslash and the byte behind it stand for; None where they are no escape
abbrev pub escaped : ArgKind → ℕ → Option Part
escaped kind byte =
    if byte == char "t" then Some (Bytes (codes "\t"))
    else (if byte == char "r" then Some (Bytes (codes "\r"))
    else (if byte == char "n" then Some (Bytes (codes "\n"))
    else (if byte == char ";" then Some (Bytes (codes "\\;"))
    else (if byte == char "\n" then joined_line kind
    else (if is_ascii_alphanumeric byte then None
    else Some (Bytes (byte ∷ [])))))))

-- a `$` in front of this text begins a reference: the text begins with `{`, `ENV{` or `CACHE{`;
-- the last two are refused
abbrev pub begins_reference : List ℕ → Bool
begins_reference text =
    starts_with ◌==◌ text (codes "{")
    || (starts_with ◌==◌ text (codes "ENV{") || starts_with ◌==◌ text (codes "CACHE{"))

-- the text inside a bracket, without the line feed, or carriage return and line feed, at its front
abbrev pub without_feed : List ℕ → List ℕ
without_feed text =
    if stands (char "\n") 0 text then drop 1 text
    else (if stands (char "\r") 0 text && stands (char "\n") 1 text then drop 2 text else text)

-- the parts with bytes in front: they join a part of bytes that stands first; no bytes add no part
abbrev pub with_bytes : List ℕ → List Part → List Part
with_bytes [] parts = parts
with_bytes (byte ∷ bytes) (Bytes more ∷ parts) = Bytes ((byte ∷ bytes) ++ more) ∷ parts
with_bytes (byte ∷ bytes) parts = Bytes (byte ∷ bytes) ∷ parts

-- the parts with one more part in front
abbrev pub with_piece : Part → List Part → List Part
with_piece (Bytes bytes) parts = with_bytes bytes parts
with_piece (Ref name) parts = Ref name ∷ parts
