use Rattle.std.proofs.Common.{◌≡◌, ◌++◌, ◌∷◌, [], sym, subst}
use Rattle.ct_plan.specs.Source.{HaveProps}
use Rattle.ct_plan.proofs.CallerLemmas.{have_props-snoc}
use Rattle.measure.proofs.drive.planning.tests_of.Goals as goal

pub loop-place-preserved : goal.loop-place-preserved
loop-place-preserved c =
    let tests = c.loop-place.tests in
    let def = c.in_ok-def.def in
    let own = c.in_ok-of.field-0 in
    let defs : c.push-in-loop-place.new.self ≡ tests.defs ++ def ∷ [] = c.in_ok-push-2.ensures.ok in
    let props : c.push.new.self ≡ tests.props ++ own ∷ [] = c.in_ok-push.ensures.ok in
    subst (λ ds. HaveProps ds c.push.new.self) (sym defs) (subst (HaveProps (tests.defs ++ def ∷ [])) (sym props) (have_props-snoc tests.defs tests.props def own c.loop-place.invariant c.in_ok-of.ensures.ok))
