use Rattle.std.proofs.Common.{◌≡◌, ◌<◌, ◌∙◌, List, ap, length, subst, sym}
use Rattle.std.proofs.lemmas.List.Edits.{map_over_more}
use Rattle.ct_props.specs.declared.props.Props.{Props}
use Rattle.ct_app.specs.Tests.{without_links}
use Rattle.ct_app.proofs.props.without_links.Goals as goal

pub loop-own-preserved : goal.loop-own-preserved
loop-own-preserved c =
    let first : c.deref_mut-own-items.result.now ≡ c.args.tests.props = c.deref_mut-own-items.ensures.value ∙ c.into_vec-props.ensures in
    let inside : c.loop-own.own-index < length c.args.tests.props = subst (λ (props : List Props). c.loop-own.own-index < length props) first c.loop-own-test.true in
    let dropped : c.drop_links.new.own ≡ without_links c.own-item.result = c.drop_links.ensures ∙ ap without_links (sym c.own-item.is) in
    rw dropped (map_over_more without_links c.args.tests.props c.loop-own.own-items c.loop-own.own-index c.own-item.result inside c.loop-own.invariant c.own-item.is)
