use Rattle.std.proofs.Common.{rules, ◌≡◌, ◌++◌, ◌∷◌, []}
use Rattle.ct_env.specs.PlacementVariables.{kind_variable}
use Rattle.ct_env.proofs.FoldLemmas.{item_one_more}
use Rattle.ct_env.proofs.placement.push_kinds.Goals as goal

pub loop-kind-preserved : goal.loop-kind-preserved
loop-kind-preserved c =
    let pushed : c.push.new.self ≡ c.loop-kind.pairs ++ c.in_ok-kind_variable.field-0 ∷ [] = search rules in
    item_one_more (kind_variable c.args.group c.args.picks.now) c.args.kinds.now c.loop-kind.kind-index c.kind-item.result c.in_ok-kind_variable.field-0 c.args.pairs.now c.loop-kind.pairs c.push.new.self c.loop-kind-test.true c.kind-item.is c.in_ok-kind_variable.ensures c.loop-kind.invariant pushed
