-- The numbers that are admitted besides a stride, kept to be looked up. This project's own.
use Rattle.std.specs.Prelude.{◌≡◌, ℕ, List, IfSome}
use Rattle.std.specs.Ordering.{nat_cmp}
use Rattle.std.specs.BTreeSet.{BTreeSet, contains}
use Rattle.ct_base.specs.Numbers.{is_in}
use Rattle.ct_props.specs.declared.wanted.Numbers.{Numbers}
use Rattle.ct_props.specs.declared.wanted.Choice.{Choice}

-- the set has these numbers
abbrev pub AreOthers : List ℕ → BTreeSet ℕ → Type 0
AreOthers numbers others = (number : ℕ) → contains nat_cmp others number ≡ is_in numbers number

-- the set has the numbers that -I admits besides its stride, where it was given
abbrev pub HasOthers : Choice → BTreeSet ℕ → Type 0
HasOthers choice others = IfSome choice.numbers (λ (numbers : Numbers). AreOthers numbers.more others)
