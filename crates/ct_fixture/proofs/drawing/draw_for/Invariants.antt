use Rattle.std.proofs.Common.{take}
use Rattle.ct_fixture.specs.Kept.{HaveMarks, TakesFixtures}
use Rattle.ct_fixture.proofs.drawing.draw_for.Given as goal

abbrev pub invariant-loop-fixture : goal.invariant-loop-fixture
invariant-loop-fixture l = record {
  marks : HaveMarks l.fixtures l.members;
  taken : TakesFixtures (take l.fixture-index l.fixture-items) l.initial.matchers l.initial.fixtures l.initial.members l.matchers l.fixtures l.members;
}
