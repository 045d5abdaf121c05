-- The resources that the specification file of a run declares, or why the file is refused.
-- Source: CMake manual, ctest(1), --resource-spec-file, Resource Specification File. How much of a file is
-- read, and what is refused, is this project's choice.
use Rattle.std.specs.Prelude.{◌≡◌, ℕ, ⊤, nat_le, List, length, Option, Some, None, Result, Ok, Err, IfSome, IsSomeAnd, if◌then◌else◌}
use Rattle.std.specs.Result.{result_map_both}
use Rattle.ct_base.specs.declared.defs.Resource.{Resource}
use Rattle.ct_base.specs.Outside.{FilesTell, Held, SameHeld}
use Rattle.ct_spec.specs.Specification.{resources_in}
use Rattle.ct_app.specs.declared.outcome.SpecRefusal.{SpecRefusal}
use Rattle.ct_app.specs.declared.outcome.SpecRefusal.TheVariants.{Absent, TooLong, Fault}
use Rattle.ct_app.specs.declared.spec_file.SpecFileFault.{SpecFileFault}
use Rattle.ct_app.specs.declared.spec_file.SpecFileFault.TheVariants.{Refused, Failed, NoMemory}
use Rattle.ct_app.specs.declared.spec_file.TheConstants.{MOST_SPEC_BYTES}
use Rattle.ct_app.specs.RunFiles.{FilesFail, FilesStay}

-- the greatest number of bytes of a specification
abbrev pub most_spec_bytes : ℕ
most_spec_bytes = MOST_SPEC_BYTES

-- the resources that a text declares, or its first fault as a refusal
abbrev pub declared_by : List ℕ → Result (List Resource) SpecRefusal
declared_by text = result_map_both (λ resources. resources) Fault (resources_in text)

-- the resources that the text at a path declares, or why the file is refused: absent, too long,
-- or a fault of the text
abbrev pub declared_in : Option (List ℕ) → Result (List Resource) SpecRefusal
declared_in None = Err Absent
declared_in (Some text) = if nat_le (length text) most_spec_bytes then declared_by text else Err TooLong

-- the resources that are lent: what the named file declares; none where no file is named
abbrev pub AreLent : Option Held → Option (List ℕ) → Option (List Resource) → Type 0
AreLent told None lent = lent ≡ None
AreLent told (Some path) lent =
    IsSomeAnd lent (λ resources. IfSome told (λ held. declared_in (held path) ≡ Ok resources))

-- a file is named, and refused for this reason
abbrev pub RefusesFile : Option Held → Option (List ℕ) → SpecRefusal → Type 0
RefusesFile told file why = IsSomeAnd file (λ path. IfSome told (λ held. declared_in (held path) ≡ Err why))

-- the text at a path declares these resources, or is refused, or memory ran out
abbrev pub Declares : Option (List ℕ) → Result (List Resource) SpecFileFault → Type 0
Declares held (Ok resources) = declared_in held ≡ Ok resources
Declares held (Err (Refused why)) = declared_in held ≡ Err why
Declares held (Err (Failed path)) = ⊥
Declares held (Err NoMemory) = ⊤

-- the file at a path was read, is refused or could not be read, or memory ran out;
-- each path holds what it held
abbrev pub ReadsPath : List ℕ → FilesTell → FilesTell → Result (List Resource) SpecFileFault → Type 0
ReadsPath path before now (Ok resources) =
    IfSome before.held (λ held. declared_in (held path) ≡ Ok resources) × FilesStay before now
ReadsPath path before now (Err (Refused why)) =
    IfSome before.held (λ held. declared_in (held path) ≡ Err why) × FilesStay before now
ReadsPath path before now (Err (Failed failed)) = (failed ≡ path) × FilesFail failed SameHeld before now
ReadsPath path before now (Err NoMemory) = FilesStay before now

-- the named file, if any, was read, is refused or could not be read, or memory ran out;
-- each path holds what it held
abbrev pub ReadsSpec : Option (List ℕ)
    → FilesTell → FilesTell → Result (Option (List Resource)) SpecFileFault → Type 0
ReadsSpec file before now (Ok lent) = AreLent before.held file lent × FilesStay before now
ReadsSpec file before now (Err (Refused why)) = RefusesFile before.held file why × FilesStay before now
ReadsSpec file before now (Err (Failed path)) = (file ≡ Some path) × FilesFail path SameHeld before now
ReadsSpec file before now (Err NoMemory) = FilesStay before now
