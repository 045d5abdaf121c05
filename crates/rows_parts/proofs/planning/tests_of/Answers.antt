use Rattle.std.proofs.Common.{◌≡◌, ◌++◌, ◌∷◌, [], sym, subst}
use Rattle.ct_plan.specs.Source.{HaveProps}
use Rattle.ct_plan.proofs.CallerLemmas.{have_props-snoc}
use Rattle.rows_parts.proofs.planning.tests_of.Goals as goal

pub loop-row-preserved : goal.loop-row-preserved
loop-row-preserved c =
    let tests = c.loop-row.tests in
    let def = c.in_ok-def.def in
    let own = c.in_ok-of.field-0 in
    let defs : c.push-in-loop-row.new.self ≡ tests.defs ++ def ∷ [] = c.in_ok-push-2.ensures.ok in
    let props : c.push.new.self ≡ tests.props ++ own ∷ [] = c.in_ok-push.ensures.ok in
    subst (λ ds. HaveProps ds c.push.new.self) (sym defs) (subst (HaveProps (tests.defs ++ def ∷ [])) (sym props) (have_props-snoc tests.defs tests.props def own c.loop-row.invariant c.in_ok-of.ensures.ok))
