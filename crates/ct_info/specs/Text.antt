-- A name as JSON text, which is UTF-8. Source: RFC 8259, section 8.1. The `?` is this project's choice.
use Rattle.std.specs.Prelude.{ℕ, List, map, nat_lt, if◌then◌else◌}
use Rattle.std.specs.Str.{is_utf8}

-- the byte `?`
abbrev pub question_mark : ℕ
question_mark = 63

-- the byte that is written for a byte of a name that is not UTF-8: `?` for 128 and more, else the byte itself
abbrev pub shown_byte : ℕ → ℕ
shown_byte byte = if nat_lt byte 128 then byte else question_mark

-- the name where it is UTF-8, else the name with `?` in place of each byte from 128 up
abbrev pub shown : List ℕ → List ℕ
shown name = if is_utf8 name then name else map shown_byte name
