-- What a memory of steps holds. Internal to the matcher.
use Rattle.std.specs.Prelude.{◌≡◌, ◌<◌, ℕ, ◌+◌, ◌*◌, Bool, false, List, Option, Some, None, slice_get, slice_index_or}
use Rattle.ct_regex.specs.Walk.{Step}
use Rattle.ct_regex.specs.Stand.{Stand, a_stand, behind_byte, behind_bytes}
use Rattle.ct_regex.specs.Met.{marks_of_met}
use Rattle.ct_regex.specs.declared.memory.Met.{Met}
use Rattle.ct_regex.specs.declared.memory.Memory.{Memory}

-- whether a match ends at a set; no match does where there is no set
abbrev pub ends_match : Option Met → Bool
ends_match None = false
ends_match (Some met) = met.last

-- where a scan stands at the set with a number, in a list of sets
abbrev pub stand_in : List Met → ℕ → Stand
stand_in sets at = a_stand (marks_of_met (slice_get sets at)) (ends_match (slice_get sets at))

-- where a scan stands at the set with a number
abbrev pub stand_at : Memory → ℕ → Stand
stand_at memory at = stand_in memory.sets.items at

-- the number of the set that the byte leads to from a set, if it is known
abbrev pub entry_at : Memory → ℕ → ℕ → Option ℕ
entry_at memory at byte = slice_index_or memory.next.items (at * 256 + byte) None

-- both sets were met, and the bytes lead from the first to the second
abbrev pub LeadsBy : List Step → Memory → ℕ → List ℕ → ℕ → Type 0
LeadsBy steps memory at bytes to =
    (at < memory.count)
    × (to < memory.count)
    × (behind_bytes steps (stand_at memory at) bytes ≡ stand_at memory to)

-- both sets were met, and the byte leads from the first to the second
abbrev pub Leads : List Step → Memory → ℕ → ℕ → ℕ → Type 0
Leads steps memory at byte to =
    (at < memory.count)
    × (to < memory.count)
    × (behind_byte steps (stand_at memory at) byte ≡ stand_at memory to)

-- each step that the memory knows is the step that a walk would take
abbrev pub Remembers : List Step → Memory → Type 0
Remembers steps memory =
    (at byte to : ℕ) → byte < 256 → entry_at memory at byte ≡ Some to → Leads steps memory at byte to
