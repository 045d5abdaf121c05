use Rattle.std.proofs.Common.{rules, ◌≡◌, ◌+◌, List, Err, drop, length, sym, subst}
use Rattle.std.specs.Option.{option_copied}
use Rattle.std.proofs.lemmas.Iterator.Adapters.{YieldsList-from_vec}
use Rattle.std.proofs.lemmas.Iterator.Consumers.{YieldsList-so_far, YieldsList-turn}
use Rattle.ct_trees.specs.Planning.{LackTree}
use Rattle.ct_trees.specs.Trees.{plans_of}
use Rattle.ct_plan.specs.declared.whole.Tree.{Tree}
use Rattle.ct_trees.proofs.ForestLemmas.{one_more, split_at_turn, stops_here}
use Rattle.ct_trees.proofs.planning.plan_trees.Goals as goal

pub returns-in_err-count-clause-err : goal.returns-in_err-count-clause-err
returns-in_err-count-clause-err g c =
    let before = g.F.Files.tells c.args.files.now in
    let between = g.F.Files.tells c.loop-dir.files in
    let now = g.F.Files.tells c.add_tree.new.files in
    let lent = option_copied c.args.spec in
    let road = YieldsList-from_vec {s = c.into_iter-dir-iterator.result} c.args.dirs (cc) (search rules) in
    let so_far = YieldsList-so_far road c.loop-dir.yielded c.loop-dir.dir-iterator c.loop-dir.yielded_by in
    let turn = YieldsList-turn road c.loop-dir.yielded c.loop-dir.dir-iterator c.loop-dir.yielded_by c.next.result c.next.new.self c.in-Some.dir c.in-Some.is c.next.ensures.steps in
    let split = split_at_turn c.args.dirs c.loop-dir.yielded c.in-Some.dir so_far turn in
    let same : c.add_tree.new.trees ≡ c.loop-dir.trees = search rules in
    let bad = c.in_err-count.field-0.0 in
    let gave : c.from_residual.result ≡ Err bad = search rules in
    rw gave (subst (λ (ts : List Tree). LackTree c.args.invocation lent c.args.dirs before now (plans_of ts) bad.names bad.outcome) (sym same)
    (stops_here c.args.invocation c.loop-dir.invocation lent before between now c.loop-dir.yielded c.loop-dir.count c.loop-dir.trees c.loop-dir.invariant.so_far c.in-Some.dir c.args.dirs (drop (length c.loop-dir.yielded + 1) c.args.dirs) bad.names bad.outcome split c.in_err-count.ensures.err))

pub loop-dir-preserved : goal.loop-dir-preserved
loop-dir-preserved g c =
    let before = g.F.Files.tells c.args.files.now in
    let between = g.F.Files.tells c.loop-dir.files in
    let now = g.F.Files.tells c.add_tree.new.files in
    let bounds = c.loop-dir.invariant.bounded in
    record {
      bounded = record { some_level = bounds.some_level; most_level = bounds.most_level; some_times = bounds.some_times; most_times = bounds.most_times };
      so_far = one_more c.args.invocation c.loop-dir.invocation (option_copied c.args.spec) before between now c.loop-dir.yielded c.loop-dir.count c.loop-dir.trees c.loop-dir.invariant.so_far c.in-Some.dir c.in_ok-count.count c.add_tree.new.trees c.in_ok-count.ensures.ok;
    }
