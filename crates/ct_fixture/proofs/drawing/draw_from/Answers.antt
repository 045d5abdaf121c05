use Rattle.std.proofs.Common.{◌≡◌, ◌∙◌, ◌-◌, length, filter}
use Rattle.std.specs.List.{range_with_len}
use Rattle.std.proofs.lemmas.Result.{IfOk-weaker}
use Rattle.ct_fixture.specs.Drawing.{members_of}
use Rattle.ct_fixture.specs.Kept.{AreLeft, is_drawn_in}
use Rattle.ct_fixture.proofs.KeptLemmas.{have_marks, left_still}
use Rattle.ct_fixture.proofs.MemberLemmas.{fewer_open}
use Rattle.ct_fixture.proofs.PartwayLemmas.{begun, ended, next_number, stepped}
use Rattle.ct_fixture.proofs.drawing.draw_from.Goals as goal

pub loop-number-init : goal.loop-number-init
loop-number-init c = record {
  matchers = c.in_ok-matchers.ensures;
  partway = begun c.args.choice.now c.args.props.now c.args.chosen.now c.args.fixtures.now c.in_ok-members.members c.add_all.new.self c.requires.within c.requires.untaken c.in_ok-members.ensures.long c.in_ok-members.ensures.none c.in_ok-members.ensures.waits c.in_ok-add_all.ensures;
}

pub draw_for-requires-clause-low : goal.draw_for-requires-clause-low
draw_for-requires-clause-low c = (next_number c.args.choice.now c.args.props.now c.args.chosen.now c.loop-number.fixtures c.loop-number.members c.next.new.self.waiting.items c.in-Some.number c.requires.within c.in-Some.ensures.waiting c.loop-number.invariant.partway).0

pub draw_for-requires-clause-there : goal.draw_for-requires-clause-there
draw_for-requires-clause-there c = (next_number c.args.choice.now c.args.props.now c.args.chosen.now c.loop-number.fixtures c.loop-number.members c.next.new.self.waiting.items c.in-Some.number c.requires.within c.in-Some.ensures.waiting c.loop-number.invariant.partway).1

pub draw_for-requires-clause-marks : goal.draw_for-requires-clause-marks
draw_for-requires-clause-marks c =
    have_marks c.args.choice.now c.args.props.now c.loop-number.fixtures c.next.new.self (left_still c.args.choice.now c.args.props.now c.loop-number.fixtures c.loop-number.members c.next.new.self c.in-Some.ensures.marks c.loop-number.invariant.partway.left)

pub loop-number-preserved : goal.loop-number-preserved
loop-number-preserved c =
    let choice = c.args.choice.now in
    let props = c.args.props.now in
    let taken = c.next.new.self in
    let left : AreLeft choice props c.loop-number.fixtures taken = left_still choice props c.loop-number.fixtures c.loop-number.members taken c.in-Some.ensures.marks c.loop-number.invariant.partway.left in
    let is = c.in_ok-draw_for.ensures.taken choice props c.loop-number.invariant.matchers left in
    record {
      matchers = is.0;
      partway = stepped choice props c.args.chosen.now c.loop-number.fixtures c.draw_for.new.fixtures c.loop-number.members taken c.draw_for.new.members c.in-Some.number c.in-Some.ensures.marks c.in-Some.ensures.waiting is.1 is.2 c.loop-number.invariant.partway;
    }

pub loop-number-smaller : goal.loop-number-smaller
loop-number-smaller c =
    let choice = c.args.choice.now in
    let props = c.args.props.now in
    let taken = c.next.new.self in
    let left : AreLeft choice props c.loop-number.fixtures taken = left_still choice props c.loop-number.fixtures c.loop-number.members taken c.in-Some.ensures.marks c.loop-number.invariant.partway.left in
    let is = c.in_ok-draw_for.ensures.taken choice props c.loop-number.invariant.matchers left in
    fewer_open c.loop-number.members taken c.draw_for.new.members c.in-Some.number c.in-Some.ensures.marks c.in-Some.ensures.waiting is.2.extends

pub returns : goal.returns
returns c =
    let choice = c.args.choice.now in
    let props = c.args.props.now in
    let chosen = c.args.chosen.now in
    let taken = c.next.new.self in
    let all : filter (is_drawn_in taken) (range_with_len 1 (length taken.marks.items - 1)) ≡ members_of choice props chosen = ended choice props chosen c.loop-number.fixtures c.loop-number.members taken c.requires.within c.in_default.ensures.marks c.in_default.ensures.waiting c.loop-number.invariant.partway in
    IfOk-weaker c.into_list.result (λ members. members ≡ filter (is_drawn_in taken) (range_with_len 1 (length taken.marks.items - 1))) (λ members. members ≡ members_of choice props chosen) (λ members is. is ∙ all) c.into_list.ensures
