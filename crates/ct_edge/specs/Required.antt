-- Which of a test's required files is missing. Source: CMake manual, cmake-properties(7), REQUIRED_FILES.
use Rattle.std.specs.Prelude.{◌≡◌, ◌⊎◌, ℕ, Bool, true, false, not, List, take, Option, Some, None, IsSomeAnd, is_some, slice_get, Result, Ok, Err}
use Rattle.std.specs.List.{list_all}
use Rattle.ct_base.specs.Outside.{Held}
use Rattle.ct_base.specs.declared.files.FilesFault.{FilesFault}
use Rattle.ct_base.specs.declared.files.FilesFault.TheVariants.{Failed, NoMemory}

-- what a look at a file shows: whether it is missing; if the look failed, the file is missing
abbrev pub IsMissing : Result Bool FilesFault → Bool → Type 0
IsMissing (Ok there) missing = missing ≡ not there
IsMissing (Err Failed) missing = missing ≡ true
IsMissing (Err NoMemory) missing = ⊥

-- all of these files are there
abbrev pub AreHeld : Held → List (List ℕ) → Type 0
AreHeld held files = list_all (λ file. is_some (held file)) files ≡ true

-- the first of these files that is missing: the files in front
-- of it are there, and it is not, or the look at it failed
abbrev pub IsFirstMissing : Held → List (List ℕ) → Type 0 → Option ℕ → Type 0
IsFirstMissing held files failed None = AreHeld held files
IsFirstMissing held files failed (Some place) =
    AreHeld held (take place files)
    × IsSomeAnd (slice_get files place) (λ file. (is_some (held file) ≡ false) ⊎ failed)
