-- Two tests exclude each other, whichever is looked at first.
use Rattle.std.proofs.Common.{◌≡◌, ◌∙◌, sym, ap, Bool, true, false, ℕ, List, [], ◌∷◌, refl}
use Rattle.std.specs.Prelude.{Option, Some, None, ◌||◌}
use Rattle.ct_history.specs.declared.plan.PlanTest.{PlanTest}
use Rattle.ct_history.specs.Rules.{exclude, is_serial, locks_out}
use Rattle.ct_base.specs.Names.{shares_name}

-- no name is shared with an empty list
pub shares_none : (names : List (List ℕ)) → shares_name names [] ≡ false
shares_none [] = refl
shares_none (name ∷ names) = shares_none names

-- a test locks no number out that is of no test
lets_none : (t : PlanTest) → locks_out (Some t) None ≡ false
lets_none t = ap (λ (b : Bool). b || b) (shares_none t.locks)

serial_alone : (b : Bool) → b ≡ (false || false || b || false)
serial_alone true = refl
serial_alone false = refl

-- a test excludes a number that is of no test, exactly where it is serial
pub exclude_none : (t : PlanTest) → t.serial ≡ exclude (Some t) None
unfolding exclude
exclude_none t = serial_alone t.serial ∙ ap (λ (b : Bool). b || false || t.serial || false) (sym (lets_none t))

pub exclude-sym : (one other : Option PlanTest) → exclude one other ≡ exclude other one
unfolding exclude
exclude-sym one other = swapped (locks_out one other) (locks_out other one) (is_serial one) (is_serial other)
  where
    swapped : (a b c d : Bool) → (a || b || c || d) ≡ (b || a || d || c)
    swapped true true c d = refl
    swapped true false c d = refl
    swapped false true c d = refl
    swapped false false true true = refl
    swapped false false true false = refl
    swapped false false false true = refl
    swapped false false false false = refl
