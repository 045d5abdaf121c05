-- Counts with a limit. This project's own.
use Rattle.std.specs.Prelude.{ℕ, ◌+◌, nat_lt, Option, Some, None, if◌then◌else◌}

-- the count with more added to it, if that is at most `most`
abbrev pub raised : ℕ → ℕ → ℕ → Option ℕ
raised most count more = if nat_lt most (count + more) then None else Some (count + more)
