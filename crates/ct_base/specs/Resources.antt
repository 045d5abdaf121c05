-- Resources that are told apart. Source: CMake manual, ctest(1), Resource Specification File.
use Rattle.std.specs.Prelude.{◌≡◌, ℕ, Bool, false, ◌&&◌, List, AllPairs, bytes_eq}
use Rattle.ct_base.specs.declared.defs.Resource.{Resource}
use Rattle.ct_base.specs.declared.defs.TheConstants.{MOST_SLOTS}

-- the greatest number of slots of a resource, and of a need
abbrev pub most_slots : ℕ
most_slots = MOST_SLOTS

-- the resource has this kind and this id
abbrev pub same_resource : Resource → Resource → Bool
same_resource one other = bytes_eq one.kind other.kind && bytes_eq one.id other.id

-- no two resources have the same kind and id
abbrev pub AreDistinct : List Resource → Type 0
AreDistinct resources = AllPairs (λ one other. same_resource one other ≡ false) resources
