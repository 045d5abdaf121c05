-- A step after another one:
-- what it returns if the first step returned a value, and if the first step stopped.
use Rattle.std.proofs.Common.{◌≡◌, Result, Ok, Err, ap, subst, sym}
use Rattle.ct_testfile.specs.Outcome.{◌>>=◌}
use Rattle.ct_testfile.specs.Says.{Follows}
use Rattle.ct_testfile.specs.declared.fault.ReadKind.{ReadKind}
use Rattle.ct_testfile.specs.declared.fault.Stop.{Stop}
use Rattle.ct_testfile.specs.declared.fault.Stop.TheVariants.{Refused, NoMemory}

-- the first step returned a value
pub Follows-then : {A B : Type 0} (first : Result A ReadKind) (then : A → Result B ReadKind) (x : A) (result : Result B Stop) → first ≡ Ok x → Follows result (then x) → Follows result (first >>= then)
Follows-then {B = B} first then x result is gives =
    let P : Result B ReadKind → Type 0 = λ says. Follows result says in subst P (sym (ap (λ f. f >>= then) is)) gives

-- the first step stopped
pub Follows-stopped : {A B : Type 0} (first : Result A ReadKind) (then : A → Result B ReadKind) (stop : Stop) → Follows {A = A} (Err stop) first → Follows {A = B} (Err stop) (first >>= then)
Follows-stopped first then (Refused kind) is = ap (λ f. f >>= then) is
Follows-stopped first then NoMemory is = tt
