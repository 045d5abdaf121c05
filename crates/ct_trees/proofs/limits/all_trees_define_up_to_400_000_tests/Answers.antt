use Rattle.std.proofs.Common.{◌≡◌, ◌≤◌, ℕ, List, inl, inr, refl, arith}
use Rattle.ct_app.specs.declared.outcome.Outcome.{Outcome}
use Rattle.ct_app.specs.declared.outcome.Outcome.TheVariants.{Memory}
use Rattle.ct_trees.specs.Planning.{RefusesNumber}
use Rattle.ct_trees.proofs.limits.all_trees_define_up_to_400_000_tests.Goals as goal

within : (count : ℕ) (dir : List ℕ) (outcome : Outcome) → count ≤ 400000 → RefusesNumber count dir outcome → outcome ≡ Memory
within count dir outcome few (inl over) = absurd (omega (arith, few, over.0))
within count dir outcome few (inr memory) = memory

pub returns-clause-last : goal.returns-clause-last
returns-clause-last c = within

pub returns-clause-first : goal.returns-clause-first
returns-clause-first c = λ count dir many. inl (many, refl)
