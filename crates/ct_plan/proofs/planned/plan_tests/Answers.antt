use Rattle.std.proofs.Common.{◌≡◌, ◌∙◌, ◌++◌, ◌∷◌, List, [], Option, arith, length, sym, ap, subst, rules}
use Rattle.std.specs.Option.{option_copied}
use Rattle.std.proofs.lemmas.Iterator.Adapters.{YieldsList-from_vec}
use Rattle.std.proofs.lemmas.Iterator.Consumers.{YieldsList-turn}
use Rattle.ct_props.proofs.NumberedLemmas.{at_number_read}
use Rattle.ct_verdict.specs.declared.verdict.Cause.{Cause}
use Rattle.ct_history.specs.declared.plan.PlanTest.{PlanTest}
use Rattle.ct_plan.specs.Planned.{IsFixed}
use Rattle.ct_alloc.specs.Lent.{lent}
use Rattle.ct_plan.specs.Linked.{AreLinked, test_from}
use Rattle.ct_plan.proofs.LinkLemmas.{linked-snoc, number_at}
use Rattle.ct_plan.proofs.planned.plan_tests.Goals as goal

pub overflow_sub-at : goal.overflow_sub-at
overflow_sub-at c =
    let turn = YieldsList-turn (YieldsList-from_vec {s = c.into_iter-links-iterator.result} c.args.links (cc) (search rules)) c.loop-links.yielded c.loop-links.links-iterator c.loop-links.yielded_by c.next.result c.next.new.self c.in-Some.links c.in-Some.is c.next.ensures.steps in
    let bounds = number_at (length c.args.defs.now) c.args.links (length c.loop-links.yielded) c.in-Some.links turn.0 turn.1 c.requires.within in
    omega (arith, bounds.0)

pub bounds-defs-at : goal.bounds-defs-at
bounds-defs-at c =
    let turn = YieldsList-turn (YieldsList-from_vec {s = c.into_iter-links-iterator.result} c.args.links (cc) (search rules)) c.loop-links.yielded c.loop-links.links-iterator c.loop-links.yielded_by c.next.result c.next.new.self c.in-Some.links c.in-Some.is c.next.ensures.steps in
    let bounds = number_at (length c.args.defs.now) c.args.links (length c.loop-links.yielded) c.in-Some.links turn.0 turn.1 c.requires.within in
    omega (arith, bounds.0, bounds.1)

pub bounds-props-at : goal.bounds-props-at
bounds-props-at c =
    let turn = YieldsList-turn (YieldsList-from_vec {s = c.into_iter-links-iterator.result} c.args.links (cc) (search rules)) c.loop-links.yielded c.loop-links.links-iterator c.loop-links.yielded_by c.next.result c.next.new.self c.in-Some.links c.in-Some.is c.next.ensures.steps in
    let bounds = number_at (length c.args.defs.now) c.args.links (length c.loop-links.yielded) c.in-Some.links turn.0 turn.1 c.requires.within in
    omega (arith, bounds.0, bounds.1, c.requires.paired)

pub loop-links-preserved : goal.loop-links-preserved
loop-links-preserved c =
    let taken : c.into_iter-links-iterator.result.rest.items ≡ c.into_vec-links-items.result.items = c.into_iter-links-iterator.ensures.into_iter_gives.0 in
    let kept : c.into_vec-links-items.result.items ≡ c.args.links = c.into_vec-links-items.ensures in
    let turn = YieldsList-turn (YieldsList-from_vec {s = c.into_iter-links-iterator.result} c.args.links (taken ∙ kept) (search rules)) c.loop-links.yielded c.loop-links.links-iterator c.loop-links.yielded_by c.next.result c.next.new.self c.in-Some.links c.in-Some.is c.next.ensures.steps in
    let defs = c.args.defs.now in
    let props = c.args.props.now in
    let links = c.in-Some.links in
    let bounds = number_at (length defs) c.args.links (length c.loop-links.yielded) links turn.0 turn.1 c.requires.within in
    let test = c.in_ok-plan_test.field-0 in
    let made = c.in_ok-plan_test.ensures in
    let fixed = ap (λ (t : PlanTest). t.fixed) made in
    let resources = lent (option_copied c.args.free) in
    let pushed : c.push.new.self ≡ c.loop-links.tests ++ test ∷ [] = c.in_ok-push.ensures.ok in
    subst (λ (ts : List PlanTest). AreLinked resources c.args.level defs props (c.loop-links.yielded ++ links ∷ []) ts) (sym pushed)
    (linked-snoc resources c.args.level defs props c.loop-links.yielded c.loop-links.tests links test c.loop-links.invariant (record {
      def = c.index-defs-at.result;
      own = c.index-props-at.result;
      def_is = at_number_read defs links.number c.index-defs-at.result bounds.0 bounds.1 c.index-defs-at.is;
      own_is = at_number_read props links.number c.index-props-at.result bounds.0 (omega (arith, bounds.1, c.requires.paired)) c.index-props-at.is;
      fixed = subst (λ (cause : Option Cause). IsFixed resources c.index-defs-at.result c.index-props-at.result cause) (sym fixed) c.in_ok-fixed.ensures;
      is = made ∙ ap (λ (cause : Option Cause). test_from c.args.level links c.index-defs-at.result c.index-props-at.result cause) (sym fixed);
    }))
