-- Brackets and comments (cmake-language(7), Bracket Argument, Comments).
use Rattle.std.specs.Prelude.{ℕ, ◌+◌, ◌*◌, Bool, not, ◌&&◌, ◌==◌, if◌then◌else◌, List, [], ◌∷◌, drop, Option, Some, None, option_map, Result, Ok}
use Rattle.std.specs.List.{prefix_len}
use Rattle.ct_lex.specs.Bytes.{char, stands, is_gap}
use Rattle.ct_lex.specs.Stop.{refused}
use Rattle.ct_lex.specs.declared.stop.Stop.{Stop}
use Rattle.ct_lex.specs.declared.stop.Cause.TheVariants.{OpenBracket}

-- how many `=` a text begins with
abbrev pub equals_count : List ℕ → ℕ
equals_count text = prefix_len (λ byte. byte == char "=") text

-- n, if the text begins with `[`, n times `=`, and `[`
abbrev pub opening : List ℕ → Option ℕ
opening text =
    if stands (char "[") 0 text && stands (char "[") (equals_count (drop 1 text) + 1) text
    then Some (equals_count (drop 1 text))
    else None

-- the text begins with `]`, n times `=`, and `]`
abbrev pub closes : ℕ → List ℕ → Bool
closes n text = stands (char "]") 0 text && equals_count (drop 1 text) == n && stands (char "]") (n + 1) text

-- how many bytes stand in front of the first closing with n times `=`, if there is one
abbrev pub closing : ℕ → List ℕ → Option ℕ
closing n [] = None
closing n (byte ∷ rest) = if closes n (byte ∷ rest) then Some 0 else option_map (λ k. k + 1) (closing n rest)

-- how many bytes a bracket has, with n times `=` on both sides and `inside` bytes between
abbrev pub bracket_len : ℕ → ℕ → ℕ
bracket_len n inside = inside + 2 * (n + 2)

-- how many bytes a text has in front of its first line feed
abbrev pub line_len : List ℕ → ℕ
line_len text = prefix_len (λ byte. not (byte == char "\n")) text

-- how many bytes a bracket comment with n times `=` has, given the place of its closing
abbrev pub bracket_comment : List ℕ → ℕ → Option ℕ → Result ℕ Stop
bracket_comment text n None = refused OpenBracket text
bracket_comment text n (Some inside) = Ok (bracket_len n inside + 1)

-- how many bytes a comment has: up to the closing of the bracket that opens behind its `#`,
-- or, without a bracket, up to the end of the line
abbrev pub comment_by : List ℕ → Option ℕ → Result ℕ Stop
comment_by text None = Ok (line_len (drop 1 text) + 1)
comment_by text (Some n) = bracket_comment text n (closing n (drop (n + 3) text))

-- how many bytes the comment has whose `#` is the first byte of the text
abbrev pub comment : List ℕ → Result ℕ Stop
comment text = comment_by text (opening (drop 1 text))

-- how many bytes the blank, line feed or comment at the front of a text has;
-- 0 where something else stands there
abbrev pub gap_at : List ℕ → Result ℕ Stop
gap_at [] = Ok 0
gap_at (byte ∷ rest) =
    if is_gap byte then Ok 1 else (if byte == char "#" then comment (byte ∷ rest) else Ok 0)
