-- The bytes with a meaning of their own in a pattern: CMake manual, string(REGEX), Regex Specification.
use Rattle.std.specs.Prelude.{ℕ, List, codes}

-- `^`
abbrev pub caret : ℕ
caret = 94

-- `$`
abbrev pub dollar : ℕ
dollar = 36

-- `.`
abbrev pub dot : ℕ
dot = 46

-- `(`
abbrev pub open_group : ℕ
open_group = 40

-- `)`
abbrev pub close_group : ℕ
close_group = 41

-- `|`
abbrev pub upright : ℕ
upright = 124

-- `*`
abbrev pub star : ℕ
star = 42

-- `+`
abbrev pub plus : ℕ
plus = 43

-- `?`
abbrev pub question : ℕ
question = 63

-- a backslash
abbrev pub escaping_byte : ℕ
escaping_byte = 92

-- `[`
abbrev pub open_set : ℕ
open_set = 91

-- `]`
abbrev pub close_set : ℕ
close_set = 93

-- `-`
abbrev pub dash : ℕ
dash = 45

-- the bytes that do not stand for themselves outside a set
abbrev pub special : List ℕ
special = codes "[\\^$.()|*+?"
