-- Commands (cmake-language(7), Command Invocations).
use Rattle.std.specs.Prelude.{ℕ, zero, suc, ◌+◌, ◌-◌, Bool, not, ◌&&◌, ◌==◌, if◌then◌else◌, List, [], ◌∷◌, length, take, drop, Option, Some, None, option_map, Result, Ok, Err}
use Rattle.std.specs.List.{prefix_len}
use Rattle.ct_lex.specs.Bytes.{char, is_space, is_word, begins_word, stands, lower}
use Rattle.ct_lex.specs.Stop.{◌>>=◌, refused}
use Rattle.ct_lex.specs.Bracket.{gap_at}
use Rattle.ct_lex.specs.Text.{arguments_from}
use Rattle.ct_lex.specs.declared.call.Arg.{Arg}
use Rattle.ct_lex.specs.declared.stop.Stop.{Stop}
use Rattle.ct_lex.specs.declared.stop.Stop.TheVariants.{Ended}
use Rattle.ct_lex.specs.declared.stop.Cause.TheVariants.{BadChar}

-- how many bytes the identifier at the front of a text has
abbrev pub word_len : List ℕ → ℕ
word_len text = prefix_len is_word text

-- the place of the first byte behind the identifier and behind the spaces and tabs that follow it
abbrev pub paren_at : List ℕ → ℕ
paren_at text = word_len text + prefix_len is_space (drop (word_len text) text)

-- a command as it is read: its name, its arguments, and how many bytes it takes
abbrev pub CommandRead : Type 0
CommandRead = List ℕ × List Arg × ℕ

-- the command of that name with the arguments that were read,
-- or their fault; `front` bytes stand in front of them
abbrev pub named : List ℕ → ℕ → Result (List Arg × ℕ) Stop → Result CommandRead Stop
named name front read = read >>= λ x. Ok (name, x.0, x.1 + front)

-- the command of that name, whose `(` has to stand at that place
abbrev pub command_by : List ℕ → List ℕ → ℕ → Result CommandRead Stop
command_by text name paren =
    if paren == length text then Err Ended
    else (if stands (char "(") paren text
    then named name (paren + 1) (arguments_from 0 (drop (paren + 1) text))
    else refused BadChar (drop paren text))

-- the command at the front of the text, up to its `)`
abbrev pub command : List ℕ → Result CommandRead Stop
command text = command_by text (lower (take (word_len text) text)) (paren_at text)

-- the place of the next command, n bytes further on
abbrev pub shifted : ℕ → Result (Option ℕ) Stop → Result (Option ℕ) Stop
shifted n read = read >>= λ start. Ok (option_map (λ k. k + n) start)

-- the text behind a gap is still on the line of the command in front of it; only a line feed ends that
abbrev pub stays_behind : Bool → ℕ → Bool
stays_behind behind first = behind && not (first == char "\n")

-- How many bytes of blanks, line feeds and comments stand in front of the next command;
-- None at the end of the text.
-- Behind a command, the next one begins only after a line feed outside a comment.
-- The first `skip` bytes belong to a gap that is already read.
abbrev pub start_from : Bool → ℕ → List ℕ → Result (Option ℕ) Stop
start_from behind skip [] = Ok None
start_from behind (suc skip) (byte ∷ rest) = shifted 1 (start_from behind skip rest)
start_from behind zero (byte ∷ rest) =
    gap_at (byte ∷ rest) >>= λ gap.
    if gap == 0
    then (if not behind && begins_word byte then Ok (Some 0) else refused BadChar (byte ∷ rest))
    else shifted 1 (start_from (stays_behind behind byte) (gap - 1) rest)
