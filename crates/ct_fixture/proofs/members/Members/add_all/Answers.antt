use Rattle.ct_fixture.proofs.MemberLemmas.{adds_more}
use Rattle.ct_fixture.proofs.members.Members.add_all.Goals as goal

pub loop-number-preserved : goal.loop-number-preserved
loop-number-preserved c =
    adds_more c.args.numbers.now c.loop-number.number-index c.args.self.now c.loop-number.self c.add.new.self c.loop-number-test.true c.loop-number.invariant c.in_ok-add.ensures
