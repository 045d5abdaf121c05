use Rattle.ct_fixture.specs.Kept.{open_count}
use Rattle.ct_fixture.specs.Matching.{AreFixtureMatchersOf}
use Rattle.ct_fixture.proofs.PartwayLemmas.{IsPartway}
use Rattle.ct_fixture.proofs.drawing.draw_from.Given as goal

abbrev pub invariant-loop-number : goal.invariant-loop-number
invariant-loop-number l = record {
  matchers : AreFixtureMatchersOf l.choice l.matchers;
  partway : IsPartway l.choice l.props l.chosen l.fixtures l.members;
}

abbrev pub decreases-loop-number : goal.decreases-loop-number
decreases-loop-number l = open_count l.members
