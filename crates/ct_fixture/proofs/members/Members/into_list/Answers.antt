use Rattle.std.proofs.Common.{◌≡◌, ◌+◌, ◌-◌, ◌<◌, ◌≤◌, false, length, filter, get_or, sym, ap, ◌∙◌, arith}
use Rattle.std.specs.List.{range_with_len}
use Rattle.std.proofs.lemmas.List.{get_or_read}
use Rattle.ct_fixture.specs.Kept.{is_drawn_in}
use Rattle.ct_fixture.proofs.MemberLemmas.{listed, passed_over}
use Rattle.ct_fixture.proofs.members.Members.into_list.Goals as goal
use Rattle.ct_fixture.proofs.members.Members.into_list.Goals.{then-index+in_ok-push, else-index}

pub loop-number-preserved : goal.loop-number-preserved
loop-number-preserved c =
    let number = c.loop-number.number in
    let marks = c.args.self.marks in
    let within : number < length marks.items = omega (arith, c.loop-number-test.true, marks.ok.0) in
    let read : c.index.result.now ≡ get_or marks.items number false = get_or_read marks.items number c.index.result.now within c.index.ensures false in
    let low : 1 ≤ number + 1 = omega arith in
    let kept = c.loop-number.invariant in
    elim c.if-index.branch [
      | then-index+in_ok-push w ↦ (low, w.members-is ∙ w.in_ok-push.ensures.ok ∙ listed (is_drawn_in c.args.self) number c.loop-number.members kept.0 kept.1 (sym read ∙ w.if-index.true))
      | else-index w ↦ (low, w.members-is ∙ passed_over (is_drawn_in c.args.self) number c.loop-number.members kept.0 kept.1 (sym read ∙ w.if-index.false))
    ]

pub returns : goal.returns
returns c =
    let marks = c.args.self.marks in
    let end : c.loop-number.number - 1 ≡ length marks.items - 1 = omega (arith, c.loop-number-test.false, c.requires.low, marks.ok.0) in
    c.loop-number.invariant.1 ∙ ap (λ count. filter (is_drawn_in c.args.self) (range_with_len 1 count)) end
