-- Texts as they may stand in an XML document. Source: XML 1.0, sections 2.2 and 2.4; UTF-8: RFC 3629, section
-- 4. That control characters are replaced is this project's own.
use Rattle.std.specs.Prelude.{ℕ, ◌-◌, Bool, ◌&&◌, ◌||◌, List, [], ◌∷◌, ◌++◌, slice_index, nat_le, nat_lt, codes, ◌==◌, if◌then◌else◌}

-- the byte at a place, 0 where there is none
abbrev pub byte_at : List ℕ → ℕ → ℕ
byte_at bytes place = slice_index bytes place

-- the number is from one bound to another
abbrev pub is_within : ℕ → ℕ → ℕ → Bool
is_within least most n = nat_le least n && nat_le n most

-- a character of one byte that is no control character stands at the front
abbrev pub is_one : List ℕ → Bool
is_one bytes = is_within 32 126 (byte_at bytes 0)

-- a character of two bytes that is no control character stands at the front: U+00A0 to U+07FF
abbrev pub is_two : List ℕ → Bool
is_two bytes =
    is_within 0xC2 0xDF (byte_at bytes 0)
    && is_within (if byte_at bytes 0 == 0xC2 then 0xA0 else 0x80) 0xBF (byte_at bytes 1)

-- the greatest third byte of a character: U+FFFE and U+FFFF may not stand in a document
abbrev pub most_third : ℕ → ℕ → ℕ
most_third first second = if first == 0xEF && second == 0xBF then 0xBD else 0xBF

-- a character of three bytes stands at the front: U+0800 to U+FFFD without the surrogates
abbrev pub is_three : List ℕ → Bool
is_three bytes =
    is_within 0xE0 0xEF (byte_at bytes 0)
    && is_within (if byte_at bytes 0 == 0xE0 then 0xA0 else 0x80)
    (if byte_at bytes 0 == 0xED then 0x9F else 0xBF) (byte_at bytes 1)
    && is_within 0x80 (most_third (byte_at bytes 0) (byte_at bytes 1)) (byte_at bytes 2)

-- a character of four bytes stands at the front: U+10000 to U+10FFFF
abbrev pub is_four : List ℕ → Bool
is_four bytes =
    is_within 0xF0 0xF4 (byte_at bytes 0)
    && is_within (if byte_at bytes 0 == 0xF0 then 0x90 else 0x80)
    (if byte_at bytes 0 == 0xF4 then 0x8F else 0xBF) (byte_at bytes 1)
    && is_within 0x80 0xBF (byte_at bytes 2)
    && is_within 0x80 0xBF (byte_at bytes 3)

-- how many bytes the character takes at the front, 0 where none stands there that may be shown
abbrev pub char_len : List ℕ → ℕ
char_len bytes =
    if is_one bytes
    then 1
    else (if is_two bytes then 2 else (if is_three bytes then 3 else (if is_four bytes then 4 else 0)))

-- what stands for a character of one byte, which is else the same
abbrev pub reference : ℕ → List ℕ → List ℕ
reference byte same =
    if byte == 38
    then codes "&amp;"
    else (if byte == 60
    then codes "&lt;"
    else (if byte == 62
    then codes "&gt;"
    else (if byte == 34 then codes "&quot;" else (if byte == 39 then codes "&apos;" else same))))

-- the first of these bytes, or none
abbrev pub first_of : List ℕ → List ℕ
first_of [] = []
first_of (b ∷ bs) = b ∷ []

-- the character U+FFFD, which stands for what may not be shown
abbrev pub replacement : List ℕ
replacement = 0xEF ∷ 0xBF ∷ 0xBD ∷ []

-- what stands for the first of these bytes, where `left` bytes of a character are still to come
abbrev pub shown_text : ℕ → List ℕ → List ℕ
shown_text left bytes =
    if nat_lt 0 left || nat_lt 1 (char_len bytes)
    then first_of bytes
    else (if char_len bytes == 1 then reference (byte_at bytes 0) (first_of bytes) else replacement)

-- how many bytes of a character are still to come behind the first of these bytes
abbrev pub left_behind : ℕ → List ℕ → ℕ
left_behind left bytes = if nat_lt 0 left then left - 1 else char_len bytes - 1

-- the bytes as they may stand in a document, where `left` bytes of a character are still to come
abbrev pub escaped_from : ℕ → List ℕ → List ℕ
escaped_from left [] = []
escaped_from left (b ∷ bs) = shown_text left (b ∷ bs) ++ escaped_from (left_behind left (b ∷ bs)) bs

-- the bytes as they may stand in a document: references for `&`, `<`, `>` and quotes, and U+FFFD for each
-- byte of a control character, of U+FFFE or U+FFFF, and of what is no UTF-8
abbrev pub escaped_text : List ℕ → List ℕ
escaped_text bytes = escaped_from 0 bytes
