-- What was seen of the attempts that a history ends. This project's own.
use Rattle.std.specs.Prelude.{ℕ, List, filter_map, Option, Some, None, ◌==◌, if◌then◌else◌}
use Rattle.ct_verdict.specs.declared.attempt.Seen.{Seen}
use Rattle.ct_history.specs.declared.history.Entry.{Entry}
use Rattle.ct_history.specs.declared.history.Entry.TheVariants.{Start, End, Settle, Stop}
use Rattle.ct_history.specs.Verdicts.{last_of_list}

-- what was seen of the attempt that the entry ends, if that is an attempt of the test
abbrev pub seen_at_end : ℕ → Entry → Option Seen
seen_at_end test (Start t a worker placement) = None
seen_at_end test (End t a worker seen) = if t == test then Some seen else None
seen_at_end test (Settle t cause) = None
seen_at_end test Stop = None

-- what was seen of the test's last attempt
abbrev pub last_seen : ℕ → List Entry → Option Seen
last_seen test entries = last_of_list (filter_map (seen_at_end test) entries)
