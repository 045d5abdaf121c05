-- The bytes of the language of test files (CMake manual, cmake-language(7), Syntax).
use Prim.Native.String.{String}
use Rattle.std.specs.Prelude.{ℕ, Bool, ◌||◌, ◌&&◌, ◌==◌, List, length, slice_index, get_or, nat_lt, count_by, map, codes}
use Rattle.std.specs.Char.{is_ascii_alphabetic, is_ascii_alphanumeric, to_ascii_lowercase}

-- the byte of a character
abbrev pub char : String → ℕ
char text = get_or (codes text) 0 0

-- the byte is a space or a tab
abbrev pub is_space : ℕ → Bool
is_space byte = byte == char " " || byte == char "\t"

-- the byte is a blank: space, tab or carriage return
abbrev pub is_blank : ℕ → Bool
is_blank byte = is_space byte || byte == char "\r"

-- the byte separates arguments, as comments do too: a blank or a line feed
abbrev pub is_gap : ℕ → Bool
is_gap byte = is_blank byte || byte == char "\n"

-- a byte that an identifier begins with: a letter or `_`
abbrev pub begins_word : ℕ → Bool
begins_word byte = is_ascii_alphabetic byte || byte == char "_"

-- a byte that an identifier goes on with: a letter, a digit or `_`
abbrev pub is_word : ℕ → Bool
is_word byte = is_ascii_alphanumeric byte || byte == char "_"

-- a byte of a variable's name in a reference: a letter, a digit, `_`, `.`, `/`, `+` or `-`
abbrev pub is_name : ℕ → Bool
is_name byte = is_word byte || byte == char "." || byte == char "/" || byte == char "+" || byte == char "-"

-- the text has that byte at that place, counted from 0
abbrev pub stands : ℕ → ℕ → List ℕ → Bool
stands byte at text = nat_lt at (length text) && slice_index text at == byte

-- how many line feeds a text has
abbrev pub feeds : List ℕ → ℕ
feeds text = count_by (λ byte. byte == char "\n") text

-- a command's name in lower case, since its case does not matter
abbrev pub lower : List ℕ → List ℕ
lower name = map to_ascii_lowercase name
