-- One description of resource groups: an optional count, then requirements, with commas between them.
-- Source: CMake manual, cmake-properties(7), RESOURCE_GROUPS.
-- The refusals and the limits are this project's choice.
use Rattle.std.specs.Prelude.{ℕ, ◌+◌, List, [], ◌∷◌, take, drop, nat_lt, Option, Some, None, Result, Ok, Err, ◌==◌, if◌then◌else◌}
use Rattle.std.specs.List.{position, slice_split}
use Rattle.ct_base.specs.Bytes.{colon, comma}
use Rattle.ct_base.specs.Resources.{most_slots}
use Rattle.ct_base.specs.Seconds.{is_numeral, number_in}
use Rattle.ct_groups.specs.declared.fault.GroupsFault.{GroupsFault}
use Rattle.ct_groups.specs.declared.fault.GroupsFault.TheVariants.{NoColon, BadType, BadCount, ZeroSlots, TooMany}
use Rattle.ct_groups.specs.declared.description.Requirement.{Requirement}
use Rattle.ct_groups.specs.declared.description.Description.{Description}
use Rattle.ct_groups.specs.declared.description.TheConstants.{MOST}
use Rattle.ct_base.specs.TypeNames.{is_type_name}

-- continues with what was read, or returns its fault
abbrev pub reads_on : {X Y : Type 0}
    → Result X GroupsFault → (X → Result Y GroupsFault) → Result Y GroupsFault
reads_on (Ok x) next = next x
reads_on (Err why) next = Err why

-- a number of slots; no number, 0, and a number above the greatest are refused
abbrev pub slots_asked : Option ℕ → Result ℕ GroupsFault
slots_asked None = Err BadCount
slots_asked (Some slots) =
    if slots == 0 then Err ZeroSlots else if nat_lt most_slots slots then Err TooMany else Ok slots

-- the requirement of a number of slots of a type, or the fault of that number
abbrev pub requirement_for : List ℕ → Result ℕ GroupsFault → Result Requirement GroupsFault
requirement_for kind slots = reads_on slots (λ n. Ok (record { kind = kind; slots = n }))

-- the requirement in a piece, given the place of its first `:`; the type is checked before the slots
abbrev pub requirement_at : List ℕ → Option ℕ → Result Requirement GroupsFault
requirement_at piece None = Err NoColon
requirement_at piece (Some at) =
    if is_type_name (take at piece)
    then requirement_for (take at piece) (slots_asked (number_in (drop (at + 1) piece)))
    else Err BadType

-- the requirement in a piece: a type and its slots, with a `:` between them
abbrev pub requirement_of : List ℕ → Result Requirement GroupsFault
requirement_of piece = requirement_at piece (position (λ byte. byte == colon) piece)

-- the requirements in these pieces, or the first fault
abbrev pub requirements_of : List (List ℕ) → Result (List Requirement) GroupsFault
requirements_of [] = Ok []
requirements_of (piece ∷ pieces) =
    reads_on (requirement_of piece) (λ one. reads_on (requirements_of pieces) (λ others. Ok (one ∷ others)))

-- the greatest number of groups of a test, and of needs of a test
abbrev pub most_groups : ℕ
most_groups = MOST

-- a number of groups; 0 and a number above the greatest are refused
abbrev pub checked_count : ℕ → Result ℕ GroupsFault
checked_count count =
    if count == 0 then Err BadCount else if nat_lt most_groups count then Err TooMany else Ok count

-- the number of groups: the count in the first piece, or 1 where there is none
abbrev pub count_in : Option ℕ → Result ℕ GroupsFault
count_in None = Ok 1
count_in (Some count) = checked_count count

-- the pieces that are requirements: all but a count in front
abbrev pub required : List (List ℕ) → List (List ℕ)
required [] = []
required (first ∷ pieces) = if is_numeral first then pieces else first ∷ pieces

-- the number in the first piece, if that piece is digits alone
abbrev pub first_number : List (List ℕ) → Option ℕ
first_number [] = None
first_number (first ∷ pieces) = number_in first

-- the pieces of a text: what stands between its commas
abbrev pub pieces_of : List ℕ → List (List ℕ)
pieces_of text = slice_split (λ byte. byte == comma) text

-- the description in these pieces; the count is checked before the requirements
abbrev pub described : List (List ℕ) → Result Description GroupsFault
described pieces =
    reads_on (count_in (first_number pieces))
    (λ count.
    reads_on (requirements_of (required pieces))
    (λ asked. Ok (record { count = count; requirements = asked })))

-- the description in a text, or its first fault
abbrev pub description_of : List ℕ → Result Description GroupsFault
description_of text = described (pieces_of text)
