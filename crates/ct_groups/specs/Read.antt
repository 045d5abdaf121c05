-- What a call returned is what the definition says, unless memory was wanting.
use Rattle.std.specs.Prelude.{◌≡◌, ⊤, Result, Ok, Err}
use Rattle.ct_groups.specs.declared.fault.GroupsFault.{GroupsFault}
use Rattle.ct_groups.specs.declared.fault.GroupsFault.TheVariants.{NoMemory}

-- the fault is the one that the definition says; NoMemory is always allowed
abbrev pub IsFirstGroupsFault : {X : Type 0} → Result X GroupsFault → GroupsFault → Type 0
IsFirstGroupsFault says NoMemory = ⊤
IsFirstGroupsFault says why = says ≡ Err why

-- the call returned what the definition says, or NoMemory
abbrev pub ReadsGroups : {X : Type 0} → Result X GroupsFault → Result X GroupsFault → Type 0
ReadsGroups (Ok x) says = says ≡ Ok x
ReadsGroups (Err why) says = IsFirstGroupsFault says why
