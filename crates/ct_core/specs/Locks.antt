-- The locks that the tests of a plan name, and which of them are
-- held. Source: CMake manual, cmake-properties(7), RESOURCE_LOCK.
use Rattle.std.specs.Prelude.{ℕ, Bool, false, List, Option, is_some, unwrap_or, bytes_eq}
use Rattle.std.specs.declared.vec.Vec.{Vec}
use Rattle.indexmap.specs.IndexMap.{IndexMap, get_by}
use Rattle.ct_core.specs.declared.locks.Locks.{Locks}

-- what a map says of a lock, if the lock is known
abbrev pub noted_for : {Y V S : Type 0} → IndexMap (Vec ℕ Y) V S → List ℕ → Option V
noted_for {Y} locks name = get_by (λ (lock : Vec ℕ Y). bytes_eq name lock.items) locks

-- the lock is known
abbrev pub knows : Locks → List ℕ → Bool
knows locks name = is_some (noted_for locks.held name)

-- the lock is held
abbrev pub is_held : Locks → List ℕ → Bool
is_held locks name = unwrap_or (noted_for locks.held name) false
