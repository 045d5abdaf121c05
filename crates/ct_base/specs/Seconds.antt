-- Texts that write a number, and texts that give a time in seconds.
-- Source: CMake manual, cmake-properties(7), TIMEOUT and COST.
-- This project's choice: a time is in whole microseconds, at most `most_micros`, and a time below zero is 0.
use Rattle.std.specs.Prelude.{ℕ, ◌+◌, min, Bool, ◌&&◌, List, [], ◌∷◌, ◌++◌, take, drop, length, not, Option, Some, None, codes, ◌==◌, if◌then◌else◌}
use Rattle.std.specs.List.{list_all, position}
use Rattle.std.specs.Option.{option_map}
use Rattle.std.specs.Char.{is_ascii_digit}
use Rattle.std.specs.Str.Parse.{digits_value}
use Rattle.ct_base.specs.Bytes.{minus, point}
use Rattle.ct_base.specs.declared.seconds.TheConstants.{MOST_MICROS}

-- the text is one or more digits and nothing else
abbrev pub is_numeral : List ℕ → Bool
is_numeral text = not (length text == 0) && list_all is_ascii_digit text

-- the greatest time, in microseconds
abbrev pub most_micros : ℕ
most_micros = MOST_MICROS

-- the number that a text of digits alone writes; a number above `most_micros` becomes `most_micros`
abbrev pub number_in : List ℕ → Option ℕ
number_in text = if is_numeral text then Some (min (digits_value 10 text) most_micros) else None

-- the first six decimals, filled up with zeros where there are fewer
abbrev pub six_decimals : List ℕ → List ℕ
six_decimals decimals = take 6 (decimals ++ codes "000000")

-- the microseconds of a time,
-- from the digits in front of the point and the decimals behind it, at most `most_micros`;
-- decimals behind the sixth are dropped
abbrev pub micros_of_digits : List ℕ → List ℕ → ℕ
micros_of_digits whole decimals = min (digits_value 10 (whole ++ six_decimals decimals)) most_micros

-- the microseconds of a text without a sign, given the place of its first point, if it has one
abbrev pub micros_with_point : List ℕ → Option ℕ → Option ℕ
micros_with_point text None = if is_numeral text then Some (micros_of_digits text []) else None
micros_with_point text (Some at) =
    if is_numeral (take at text) && is_numeral (drop (at + 1) text)
    then Some (micros_of_digits (take at text) (drop (at + 1) text))
    else None

-- the microseconds of a text without a sign: digits, or digits on both sides of a point
abbrev pub plain_micros : List ℕ → Option ℕ
plain_micros text = micros_with_point text (position (λ byte. byte == point) text)

-- the microseconds of a text of seconds; a time with a `-` in front is 0
abbrev pub micros_in : List ℕ → Option ℕ
micros_in [] = None
micros_in (first ∷ rest) =
    if first == minus then option_map (λ micros. 0) (plain_micros rest) else plain_micros (first ∷ rest)
