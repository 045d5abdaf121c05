-- An option that is not there, and one that is.
use Rattle.std.proofs.Common.{◌≡◌, Bool, false, true, cond, refl}
use Rattle.std.specs.Prelude.{Option, Some, None, is_some}

pub not_some : {A : Type 0} (o : Option A) → is_some o ≡ false → o ≡ None
not_some None none = refl
not_some (Some x) none = cc

pub some_is : {A : Type 0} (o : Option A) → is_some o ≡ true → (x : A) × (o ≡ Some x)
some_is None some = cc
some_is (Some x) some = (x, refl)

-- of two values under one test the first is taken
pub twice : {X : Type 0} (value old : X) (found : Option X) (is : Bool) → cond is (Some value) found ≡ cond is (Some value) (cond is (Some old) found)
twice value old found true = refl
twice value old found false = refl

-- two values under tests that are not both true may change places
pub apart : {X : Type 0} (value old : X) (found : Option X) (here there : Bool) → (here ≡ true → there ≡ true → ⊥) → cond here (Some old) (cond there (Some value) found) ≡ cond there (Some value) (cond here (Some old) found)
apart value old found true true differ = absurd (differ refl refl)
apart value old found true false differ = refl
apart value old found false there differ = refl
