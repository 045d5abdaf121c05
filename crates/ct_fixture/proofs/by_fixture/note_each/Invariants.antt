use Rattle.std.proofs.Common.{◌≡◌, ℕ, List, take, eqb, ◌&&◌, ◌||◌}
use Rattle.ct_base.specs.Numbers.{is_in}
use Rattle.ct_fixture.specs.Kept.{fixture_tests}
use Rattle.ct_fixture.proofs.by_fixture.note_each.Given as goal
use Rattle.ct_base.specs.Names.{is_among}

abbrev pub invariant-loop-fixture : goal.invariant-loop-fixture
invariant-loop-fixture l =
    (asked : List ℕ) (test : ℕ) → is_in (fixture_tests l.tests asked) test ≡ (is_in (fixture_tests l.initial.tests asked) test || (eqb l.number test && is_among asked (take l.fixture-index l.fixtures)))
