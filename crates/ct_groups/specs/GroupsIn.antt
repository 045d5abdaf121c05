-- The groups of a text, written out in order. Source: CMake manual, cmake-properties(7), RESOURCE_GROUPS.
use Rattle.std.specs.Prelude.{ℕ, ◌+◌, ◌*◌, Bool, ◌||◌, List, [], ◌∷◌, ◌++◌, map, flat_map, length, nat_lt, Result, Ok, Err, if◌then◌else◌}
use Rattle.std.specs.List.{range_with_len}
use Rattle.ct_base.specs.Entries.{entries_of}
use Rattle.ct_base.specs.declared.defs.Need.{Need}
use Rattle.ct_groups.specs.declared.fault.GroupsFault.{GroupsFault}
use Rattle.ct_groups.specs.declared.fault.GroupsFault.TheVariants.{TooMany}
use Rattle.ct_groups.specs.declared.description.Requirement.{Requirement}
use Rattle.ct_groups.specs.declared.description.Description.{Description}
use Rattle.ct_groups.specs.declared.groups.Groups.{Groups}
use Rattle.ct_groups.specs.Description.{reads_on, description_of, most_groups}

-- the needs of all groups, in order
abbrev pub needs_of_groups : Groups → List Need
needs_of_groups groups = groups.needs

-- how many groups there are
abbrev pub count_groups : Groups → ℕ
count_groups groups = groups.count

-- the need of a group for one requirement
abbrev pub need_for : ℕ → Requirement → Need
need_for group requirement = record { group = group; kind = requirement.kind; slots = requirement.slots }

-- the needs of a group with these requirements, in order
abbrev pub group_needs : List Requirement → ℕ → List Need
group_needs requirements group = map (need_for group) requirements

-- the needs of `count` groups with these requirements, in order; the first has the number `first`
abbrev pub needs_from : ℕ → ℕ → List Requirement → List Need
needs_from first count requirements = flat_map (group_needs requirements) (range_with_len first count)

-- with the groups of the description there would be more groups, or more needs, than the greatest number
abbrev pub passes_limits : Groups → Description → Bool
passes_limits groups d =
    nat_lt most_groups (groups.count + d.count)
    || nat_lt most_groups (length groups.needs + d.count * length d.requirements)

-- the groups followed by those of a description, or TooMany above the limits
abbrev pub with_description : Groups → Description → Result Groups GroupsFault
with_description groups d =
    if passes_limits groups d
    then Err TooMany
    else Ok
    (record {
      needs = groups.needs ++ needs_from groups.count d.count d.requirements;
      count = groups.count + d.count;
    })

-- the groups with the groups of each of these descriptions behind them, or the first fault;
-- the limits are checked after each description
abbrev pub with_descriptions : Groups → List (List ℕ) → Result Groups GroupsFault
with_descriptions groups [] = Ok groups
with_descriptions groups (text ∷ texts) =
    reads_on (description_of text)
    (λ d. reads_on (with_description groups d) (λ more. with_descriptions more texts))

-- no groups
abbrev pub no_groups : Groups
no_groups = record { needs = []; count = 0 }

-- the groups of a text, or its first fault in reading order
abbrev pub groups_in : List ℕ → Result Groups GroupsFault
groups_in text = with_descriptions no_groups (entries_of text)
