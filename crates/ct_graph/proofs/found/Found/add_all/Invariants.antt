use Rattle.std.proofs.Common.{◌≡◌, ◌||◌, ℕ, take}
use Rattle.ct_base.specs.Numbers.{is_in}
use Rattle.ct_graph.specs.Found.{IsMarked}
use Rattle.ct_graph.proofs.found.Found.add_all.Given as goal

abbrev pub invariant-loop-test : goal.invariant-loop-test
invariant-loop-test l =
    IsMarked l.self
    × ((n : ℕ) → is_in l.self.tests.items n ≡ (is_in l.fn.self.tests.items n || is_in (take l.test-index l.tests) n))
