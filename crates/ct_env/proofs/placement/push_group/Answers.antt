use Rattle.std.proofs.Common.{rules, ◌≡◌, ◌++◌, ◌∷◌, [], map}
use Rattle.ct_env.specs.PlacementVariables.{kinds_in, kind_variable, group_variable}
use Rattle.ct_env.proofs.FoldLemmas.{item_and_others}
use Rattle.ct_env.proofs.placement.push_group.Goals as goal

pub returns : goal.returns
returns c =
    let is : c.in_ok-group_variable.field-0 ≡ group_variable c.args.group c.in_ok-kinds.kinds = search rules in
    let first : c.push.new.self ≡ c.args.pairs.now ++ c.in_ok-group_variable.field-0 ∷ [] = search rules in
    let others : c.push_kinds.new.pairs ≡ c.push.new.self ++ map (kind_variable c.args.group c.args.picks.now) c.in_ok-kinds.kinds = search rules in
    item_and_others (kind_variable c.args.group c.args.picks.now) (group_variable c.args.group) c.args.pairs.now c.push.new.self c.push_kinds.new.pairs c.in_ok-group_variable.field-0 c.in_ok-kinds.kinds (kinds_in c.args.group c.args.picks.now) c.in_ok-kinds.ensures is first others
