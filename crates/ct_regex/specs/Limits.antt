-- The limits of a pattern. This project's own.
use Rattle.std.specs.Prelude.{ℕ}
use Rattle.ct_regex.specs.declared.pattern.TheConstants.{MOST_BYTES}
use Rattle.ct_regex.specs.declared.reader.TheConstants.{MOST_GROUPS}

-- the greatest number of bytes of a pattern
abbrev pub most_pattern_bytes : ℕ
most_pattern_bytes = MOST_BYTES

-- the greatest number of groups that are open at once
abbrev pub most_open_groups : ℕ
most_open_groups = MOST_GROUPS
