-- What the text of a quoted or unquoted argument is made of
-- (cmake-language(7), Escape Sequences, Variable References).
use Rattle.std.specs.Prelude.{ℕ, ◌+◌, ◌&&◌, ◌==◌, nat_lt, if◌then◌else◌, List, [], ◌∷◌, length, take, drop, Option, Some, None, Result, Ok, Err, codes}
use Rattle.std.specs.List.{prefix_len, starts_with}
use Rattle.ct_lex.specs.Argument.{escaped, begins_reference}
use Rattle.ct_lex.specs.Bytes.{char, is_name, stands}
use Rattle.ct_lex.specs.Stop.{refused}
use Rattle.ct_lex.specs.declared.call.ArgKind.{ArgKind}
use Rattle.ct_lex.specs.declared.call.Part.{Part}
use Rattle.ct_lex.specs.declared.call.Part.TheVariants.{Bytes, Ref}
use Rattle.ct_lex.specs.declared.stop.Stop.{Stop}
use Rattle.ct_lex.specs.declared.stop.Stop.TheVariants.{Ended}
use Rattle.ct_lex.specs.declared.stop.Cause.TheVariants.{BadEscape, BadReference}

-- the escape at the front of the text, two bytes long, given what it stands for
abbrev pub escape_by : List ℕ → Option Part → Result (Part × ℕ) Stop
escape_by text None = refused BadEscape text
escape_by text (Some piece) = Ok (piece, 2)

-- the escape at the front of the text: a backslash and the byte behind it
abbrev pub escape_at : ArgKind → List ℕ → Result (Part × ℕ) Stop
escape_at kind [] = Err Ended
escape_at kind (backslash ∷ []) = Err Ended
escape_at kind (backslash ∷ byte ∷ rest) = escape_by (backslash ∷ byte ∷ rest) (escaped kind byte)

-- how many bytes of a variable's name stand at the front of a text
abbrev pub name_len : List ℕ → ℕ
name_len text = prefix_len is_name text

-- the reference at the front of the text, given the length n of its name: `${`, one byte or more, and `}`
abbrev pub reference_by : List ℕ → ℕ → Result (Part × ℕ) Stop
reference_by text n =
    if n + 2 == length text then Err Ended
    else (if nat_lt 0 n && stands (char "}") (n + 2) text then Ok (Ref (take n (drop 2 text)), n + 3)
    else refused BadReference text)

-- the reference whose `${` stands at the front of the text
abbrev pub reference_at : List ℕ → Result (Part × ℕ) Stop
reference_at text = reference_by text (name_len (drop 2 text))

-- a `$` at the front of the text: a reference, or the byte itself
abbrev pub dollar_at : List ℕ → Result (Part × ℕ) Stop
dollar_at text =
    if starts_with ◌==◌ (drop 1 text) (codes "{") then reference_at text
    else (if begins_reference (drop 1 text) then refused BadReference text
    else Ok (Bytes (codes "$"), 1))

-- what stands at the front of the text of an argument, and how many bytes it takes:
-- an escape, a reference, or a byte
abbrev pub unit_at : ArgKind → List ℕ → Result (Part × ℕ) Stop
unit_at kind [] = Err Ended
unit_at kind (byte ∷ rest) =
    if byte == char "\\" then escape_at kind (byte ∷ rest)
    else (if byte == char "$" then dollar_at (byte ∷ rest)
    else Ok (Bytes (byte ∷ []), 1))
