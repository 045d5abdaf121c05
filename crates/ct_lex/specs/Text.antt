-- Arguments (cmake-language(7), Command Arguments).
use Rattle.std.specs.Prelude.{◌≡◌, ◌⊎◌, ℕ, true, false, zero, suc, ◌+◌, ◌-◌, Bool, ◌||◌, ◌==◌, if◌then◌else◌, List, [], ◌∷◌, take, drop, Option, Some, None, Result, Ok, Err}
use Rattle.ct_lex.specs.Argument.{with_piece, with_bytes, ends_text, without_feed}
use Rattle.ct_lex.specs.Bytes.{char, is_gap, stands}
use Rattle.ct_lex.specs.Stop.{◌>>=◌, refused}
use Rattle.ct_lex.specs.Bracket.{opening, closing, gap_at, bracket_len}
use Rattle.ct_lex.specs.Unit.{unit_at}
use Rattle.ct_lex.specs.declared.call.ArgKind.{ArgKind}
use Rattle.ct_lex.specs.declared.call.ArgKind.TheVariants.{Bracket, Quoted, Unquoted}
use Rattle.ct_lex.specs.declared.call.Arg.{Arg}
use Rattle.ct_lex.specs.declared.call.Part.{Part}
use Rattle.ct_lex.specs.declared.stop.Stop.{Stop}
use Rattle.ct_lex.specs.declared.stop.Stop.TheVariants.{Ended, At}
use Rattle.ct_lex.specs.declared.stop.Cause.TheVariants.{OpenBracket, OpenString, BadChar}

-- what was read, with its end n bytes further on
abbrev pub moved : {A : Type 0} → ℕ → Result (A × ℕ) Stop → Result (A × ℕ) Stop
moved n read = read >>= λ x. Ok (x.0, x.1 + n)

-- puts a part in front of the parts that were read behind it
abbrev pub piece_before : Part → Result (List Part × ℕ) Stop → Result (List Part × ℕ) Stop
piece_before piece read = read >>= λ x. Ok (with_piece piece x.0, x.1)

-- The parts of the text of an argument, and how many bytes stand in front of the byte that ends it.
-- The first `skip` bytes belong to a unit that is already read.
abbrev pub text_from : ArgKind → ℕ → List ℕ → Result (List Part × ℕ) Stop
text_from kind skip [] = Err Ended
text_from kind (suc skip) (byte ∷ rest) = moved 1 (text_from kind skip rest)
text_from kind zero (byte ∷ rest) =
    if ends_text kind byte then Ok ([], 0)
    else (unit_at kind
    (byte ∷ rest) >>= λ unit. piece_before unit.0 (moved 1 (text_from kind (unit.1 - 1) rest)))

-- the bracket argument with n times `=` at the front of the text, given the place of its closing
abbrev pub bracket_by : List ℕ → ℕ → Option ℕ → Result (Arg × ℕ) Stop
bracket_by text n None = refused OpenBracket text
bracket_by text n (Some inside) =
    Ok (
      record {
        kind = Bracket;
        parts = with_bytes (without_feed (take inside (drop (n + 2) text))) [];
      },
      bracket_len n inside,
    )

-- the quoted argument at the front of the text, given what was read of the text inside
abbrev pub quoted_by : List ℕ → Result (List Part × ℕ) Stop → Result (Arg × ℕ) Stop
quoted_by text (Ok x) = Ok (record { kind = Quoted; parts = x.0 }, x.1 + 2)
quoted_by text (Err Ended) = refused OpenString text
quoted_by text (Err (At cause left)) = Err (At cause left)

-- the unquoted argument, given what was read of its text
abbrev pub unquoted_by : Result (List Part × ℕ) Stop → Result (Arg × ℕ) Stop
unquoted_by read = read >>= λ x. Ok (record { kind = Unquoted; parts = x.0 }, x.1)

-- the argument at the front of the text, if that is no bracket; no argument begins with `(`
abbrev pub plain_argument : List ℕ → Result (Arg × ℕ) Stop
plain_argument text =
    if stands (char "(") 0 text then refused BadChar text
    else (if stands (char "\"") 0 text then quoted_by text (text_from Quoted 0 (drop 1 text))
    else unquoted_by (text_from Unquoted 0 text))

-- the argument at the front of the text, given the bracket that opens there, if one does
abbrev pub argument_by : List ℕ → Option ℕ → Result (Arg × ℕ) Stop
argument_by text None = plain_argument text
argument_by text (Some n) = bracket_by text n (closing n (drop (n + 2) text))

-- the text may stand directly behind an argument:
-- it begins with a blank, a line feed, `)` or `#`, or it is empty
abbrev pub may_follow : List ℕ → Bool
may_follow [] = true
may_follow (byte ∷ rest) = is_gap byte || byte == char ")" || byte == char "#"

-- the text begins with no gap: it is empty, or begins with a `)`,
-- or with a byte that may not follow an argument
abbrev pub HasNoGap : List ℕ → Type 0
HasNoGap text = (text ≡ []) ⊎ (stands (char ")") 0 text ≡ true) ⊎ (may_follow text ≡ false)

-- the argument, or a refusal where the text behind it may not follow an argument
abbrev pub apart : List ℕ → Arg × ℕ → Result (Arg × ℕ) Stop
apart text arg = if may_follow (drop arg.1 text) then Ok arg else refused BadChar (drop arg.1 text)

-- the argument at the front of the text, and how many bytes it takes
abbrev pub argument : List ℕ → Result (Arg × ℕ) Stop
argument text = argument_by text (opening text) >>= λ arg. apart text arg

-- puts an argument in front of the arguments that were read behind it
abbrev pub argument_before : Arg → Result (List Arg × ℕ) Stop → Result (List Arg × ℕ) Stop
argument_before arg read = read >>= λ x. Ok (arg ∷ x.0, x.1)

-- The arguments of a command behind its `(`, and how many bytes they take, the `)` included.
-- The first `skip` bytes belong to a gap or an argument that is already read.
abbrev pub arguments_from : ℕ → List ℕ → Result (List Arg × ℕ) Stop
arguments_from skip [] = Err Ended
arguments_from (suc skip) (byte ∷ rest) = moved 1 (arguments_from skip rest)
arguments_from zero (byte ∷ rest) =
    if byte == char ")" then Ok ([], 1)
    else (gap_at (byte ∷ rest) >>= λ gap.
    if gap == 0
    then (argument (byte ∷ rest) >>= λ arg. argument_before arg.0 (moved 1 (arguments_from (arg.1 - 1) rest)))
    else moved 1 (arguments_from (gap - 1) rest))
