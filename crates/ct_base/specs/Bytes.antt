-- Bytes that texts are cut at or written with, by name. This project's own.
use Rattle.std.specs.Prelude.{ℕ}

-- the line feed, which ends a line
abbrev pub line_feed : ℕ
line_feed = 10

-- the space
abbrev pub space : ℕ
space = 32

-- the byte `,`
abbrev pub comma : ℕ
comma = 44

-- the byte `-`, the sign of a number below zero
abbrev pub minus : ℕ
minus = 45

-- the byte `.`, in front of decimals
abbrev pub point : ℕ
point = 46

-- the byte `/`
abbrev pub slash : ℕ
slash = 47

-- the digit `0`; the digit of a number below ten is so many bytes behind it
abbrev pub zero_digit : ℕ
zero_digit = 48

-- the byte `:`
abbrev pub colon : ℕ
colon = 58

-- the byte `;`
abbrev pub semicolon : ℕ
semicolon = 59

-- the byte `=`
abbrev pub equals_sign : ℕ
equals_sign = 61

-- the byte `\`
abbrev pub backslash : ℕ
backslash = 92

-- the byte `_`
abbrev pub underscore : ℕ
underscore = 95
