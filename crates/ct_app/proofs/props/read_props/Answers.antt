use Rattle.std.proofs.Common.{rules, ◌≡◌, ◌++◌, ◌∷◌, [], arith}
use Rattle.ct_app.proofs.TestLemmas.{read_more}
use Rattle.ct_app.proofs.props.read_props.Goals as goal

pub loop-def-preserved : goal.loop-def-preserved
loop-def-preserved c =
    let own = c.in_ok-own.own in
    let pushed : c.push.new.self ≡ c.loop-def.props ++ own ∷ [] = search rules in (
      read_more c.args.defs.now c.loop-def.def-index c.def-item.result c.loop-def-test.true c.def-item.is c.loop-def.props c.push.new.self own c.loop-def.invariant.0 c.in_ok-own.ensures.ok c.in_ok-own.ensures.unrefused pushed,
      omega (arith, c.loop-def.invariant.1),
    )
