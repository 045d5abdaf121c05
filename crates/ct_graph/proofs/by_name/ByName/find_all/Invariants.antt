use Rattle.std.proofs.Common.{◌≡◌, ◌||◌, ℕ, take}
use Rattle.std.specs.List.{list_any}
use Rattle.ct_base.specs.Numbers.{is_in}
use Rattle.ct_graph.specs.ByName.{tests_of}
use Rattle.ct_graph.specs.Found.{IsMarked}
use Rattle.ct_graph.proofs.by_name.ByName.find_all.Given as goal

abbrev pub invariant-loop-name : goal.invariant-loop-name
invariant-loop-name l =
    IsMarked l.found
    × ((n : ℕ) → is_in l.found.tests.items n ≡ (is_in l.fn.found.tests.items n || list_any (λ name. is_in (tests_of l.self name.now) n) (take l.name-index l.name-items)))
