use Rattle.std.proofs.Common.{◌≡◌, ◌||◌, ◌&&◌, ◌==◌, List, ℕ, take}
use Rattle.ct_base.specs.Numbers.{is_in}
use Rattle.ct_graph.specs.ByName.{tests_of}
use Rattle.ct_graph.proofs.by_name.ByName.add_all.Given as goal
use Rattle.ct_base.specs.Names.{is_among}

abbrev pub invariant-loop-name : goal.invariant-loop-name
invariant-loop-name l = (other : List ℕ) (n : ℕ) → is_in (tests_of l.self other) n ≡ (is_in (tests_of l.fn.self other) n || (is_among other (take l.name-index l.names) && l.test == n))
