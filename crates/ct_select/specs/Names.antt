-- The names that alone are asked for, kept to be looked up. This project's own.
use Rattle.std.specs.Prelude.{ℕ, List, IfSome}
use Rattle.std.specs.Borrow.{Bor}
use Rattle.std.specs.BTreeSet.{BTreeSet}
use Rattle.ct_props.specs.declared.wanted.Choice.{Choice}
use Rattle.ct_base.specs.NameSets.{AreNames}

-- the set has the names that alone are asked for, where they are given
abbrev pub HasNames : Choice → BTreeSet (Bor (List ℕ)) → Type 0
HasNames choice set = IfSome choice.only (λ only. AreNames only set)
