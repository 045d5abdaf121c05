use Rattle.std.proofs.Common.{◌≡◌, take, sym, ap, ◌∙◌, arith}
use Rattle.std.proofs.lemmas.List.{take_all}
use Rattle.ct_props.specs.Numbered.{at_number}
use Rattle.ct_fixture.specs.Drawing.{required_by}
use Rattle.ct_props.proofs.NumberedLemmas.{at_number_read}
use Rattle.ct_fixture.proofs.KeptLemmas.{drawn_more, drawn_none, drawn_same, requires_own}
use Rattle.ct_fixture.proofs.drawing.draw_for.Goals as goal

pub loop-fixture-init : goal.loop-fixture-init
loop-fixture-init c = record {
  marks = c.requires.marks;
  taken = λ choice props matching left. (matching, left, drawn_none choice props c.args.members.now);
}

pub loop-fixture-preserved : goal.loop-fixture-preserved
loop-fixture-preserved c = record {
  marks = c.in_ok-draw.ensures.marks;
  taken = λ choice props matching left.
      let was = c.loop-fixture.invariant.taken choice props matching left in
      let is = c.in_ok-draw.ensures.taken choice props was.0 was.1 in
      (is.0, is.1, drawn_more choice props c.as_slice-fixture-items.result.now c.loop-fixture.fixture-index c.fixture-item.result c.args.members.now c.loop-fixture.members c.draw.new.members c.loop-fixture-test.true c.fixture-item.is was.2 is.2);
}

pub returns-clause-taken : goal.returns-clause-taken
returns-clause-taken c =
    let fixtures = c.as_slice-fixture-items.result.now in
    let at = c.loop-fixture.fixture-index in
    let own = c.index-props-number.result in
    let all : take at fixtures ≡ fixtures = take_all at fixtures c.loop-fixture-test.false in
    let there = at_number_read c.args.props.now c.args.number own (omega (arith, c.requires.low)) c.requires.there c.index-props-number.is in
    let same = all ∙ c.as_slice-fixture-items.ensures ∙ sym (requires_own own c.if-own.false) ∙ sym (ap required_by there) in
    λ choice props matching left.
    let was = c.loop-fixture.invariant.taken choice props matching left in
    (was.0, was.1, drawn_same choice props (take at fixtures) (required_by (at_number c.args.props.now c.args.number)) c.args.members.now c.loop-fixture.members same was.2)
