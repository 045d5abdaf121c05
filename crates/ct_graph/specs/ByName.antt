-- The tests that are kept by names. This project's own.
use Rattle.std.specs.Prelude.{ℕ, Bool, List, bytes_eq}
use Rattle.std.specs.List.{list_any}
use Rattle.std.specs.Borrow.{Bor}
use Rattle.std.specs.declared.vec.Vec.{Vec}
use Rattle.indexmap.specs.IndexMap.{IndexMap, get_by}
use Rattle.ct_base.specs.Numbers.{is_in}
use Rattle.ct_graph.specs.declared.by_name.ByName.{ByName}
use Rattle.ct_base.specs.Found.{or_none}

-- the tests that stand with a name in a map
abbrev pub tests_at : {Y S : Type 0} → IndexMap (Bor (List ℕ)) (Vec ℕ Y) S → List ℕ → List ℕ
tests_at tests name = or_none (get_by (λ (key : Bor (List ℕ)). bytes_eq name key.now) tests)

-- the tests that are kept by a name
abbrev pub tests_of : ByName → List ℕ → List ℕ
tests_of kept name = tests_at kept.tests name

-- the test is found by one of these names
abbrev pub is_found_in : (List ℕ → List ℕ) → List (List ℕ) → ℕ → Bool
is_found_in tests names n = list_any (λ name. is_in (tests name) n) names
