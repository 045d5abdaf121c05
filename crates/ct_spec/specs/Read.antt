-- What a call returned is what the definition says, unless memory was wanting.
use Rattle.std.specs.Prelude.{◌≡◌, ⊤, Result, Ok, Err}
use Rattle.ct_spec.specs.declared.fault.SpecFault.{SpecFault}
use Rattle.ct_spec.specs.declared.fault.SpecFault.TheVariants.{NoMemory}

-- the fault is the one that the definition says; NoMemory is always allowed
abbrev pub IsFault : {X : Type 0} → Result X SpecFault → SpecFault → Type 0
IsFault says NoMemory = ⊤
IsFault says why = says ≡ Err why

-- the call returned what the definition says, or NoMemory
abbrev pub ReadsResources : {X : Type 0} → Result X SpecFault → Result X SpecFault → Type 0
ReadsResources (Ok x) says = says ≡ Ok x
ReadsResources (Err why) says = IsFault says why
