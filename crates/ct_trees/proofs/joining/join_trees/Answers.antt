use Rattle.std.proofs.Common.{rules, arith}
use Rattle.std.proofs.lemmas.Iterator.Adapters.{YieldsList-from_vec}
use Rattle.std.proofs.lemmas.Iterator.Consumers.{YieldsList-turn}
use Rattle.ct_trees.proofs.joining.join_trees.Goals as goal

pub push_reserved-requires : goal.push_reserved-requires
push_reserved-requires c =
    let road = YieldsList-from_vec {s = c.into_iter-tree-iterator.result} c.args.trees (cc) (search rules) in
    let turn = YieldsList-turn road c.loop-tree.yielded c.loop-tree.tree-iterator c.loop-tree.yielded_by c.next.result c.next.new.self c.in-Some.tree c.in-Some.is c.next.ensures.steps in
    omega (arith, turn.0, c.loop-tree.invariant.len, c.loop-tree.invariant.room)
