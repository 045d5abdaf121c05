-- What a gate records of an attempt, seen through a function.
use Rattle.std.proofs.Common.{◌≡◌, ap, Bool, true, false, [], ◌∷◌, refl}
use Rattle.std.specs.Prelude.{Option, Some, map, filter_map, cond}
use Rattle.std.specs.List.{cons_option}
use Rattle.ct_verdict.specs.declared.attempt.How.{How}
use Rattle.ct_core.specs.Gate.{is_no_memory, recorded}

pub map-recorded : {A B : Type 0} (f : A → B) (how : How) (x : A) → map f (recorded how x) ≡ recorded how (f x)
map-recorded f how x = by (is_no_memory how)
  where
    by : (b : Bool) → map f (cond b [] (x ∷ [])) ≡ cond b [] (f x ∷ [])
    by true = refl
    by false = refl

pub filter_map-recorded : {A B : Type 0} (f : A → Option B) (how : How) (x : A) (y : B) → f x ≡ Some y → filter_map f (recorded how x) ≡ recorded how y
filter_map-recorded f how x y is = by (is_no_memory how)
  where
    by : (b : Bool) → filter_map f (cond b [] (x ∷ [])) ≡ cond b [] (y ∷ [])
    by true = refl
    by false = ap (λ o. cons_option o []) is
