use Rattle.std.proofs.Common.{◌≡◌, ◌++◌, ℕ, List, drop}
use Rattle.ct_alloc.specs.Spread.{cards_from}
use Rattle.ct_alloc.specs.ByKind.{places_for}
use Rattle.ct_alloc.proofs.by_kind.by_kind_of.Given as goal

abbrev pub invariant-loop-place : goal.invariant-loop-place
invariant-loop-place l = (kind : List ℕ) → places_for l.by_kind kind ++ cards_from l.place kind (drop l.place l.resources) ≡ cards_from 0 kind l.resources
