use Rattle.std.proofs.Common.{rules, arith}
use Rattle.std.proofs.lemmas.Iterator.Adapters.{YieldsList-from_vec}
use Rattle.std.proofs.lemmas.Iterator.Consumers.{YieldsList-turn}
use Rattle.ct_trees.proofs.joining.plans_of.Goals as goal

pub push_reserved-requires : goal.push_reserved-requires
push_reserved-requires c =
    let road = YieldsList-from_vec {s = c.into_iter-rest-iterator.result} c.args.rests (cc) (search rules) in
    let turn = YieldsList-turn road c.loop-rest.yielded c.loop-rest.rest-iterator c.loop-rest.yielded_by c.next.result c.next.new.self c.in-Some.rest c.in-Some.is c.next.ensures.steps in
    omega (arith, turn.0, c.loop-rest.invariant.len, c.loop-rest.invariant.room)
