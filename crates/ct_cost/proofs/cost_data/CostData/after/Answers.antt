use Rattle.std.proofs.Common.{rules, sym, subst}
use Rattle.ct_cost.specs.CostLine.{AreCosts}
use Rattle.ct_cost.proofs.EndingLemmas.{costs_made}
use Rattle.ct_cost.proofs.SoundLemmas.{sound-after}
use Rattle.ct_cost.proofs.cost_data.CostData.after.Goals as goal

pub returns-clause-is : goal.returns-clause-is
returns-clause-is c =
    costs_made c.in_ok-courses.courses c.args.plan.now c.args.history.now.entries.items c.as_slice.result.now (search rules) c.in_ok-courses.ensures.are c.requires.ended c.args.self.now _ c.in_ok-lines.lines c.add_tests.new.self _ c.add_failed.new.self c.as_slice-tests.result.now (search rules) c.self.view_is
    c.in_ok-lines.ensures c.new-failed.ensures c.in_ok-add_tests.ensures c.in_ok-add_failed.ensures

pub returns-clause-sound : goal.returns-clause-sound
returns-clause-sound c =
    let made =
    costs_made c.in_ok-courses.courses c.args.plan.now c.args.history.now.entries.items c.as_slice.result.now (search rules) c.in_ok-courses.ensures.are c.requires.ended c.args.self.now _ c.in_ok-lines.lines c.add_tests.new.self _ c.add_failed.new.self c.as_slice-tests.result.now (search rules) c.self.view_is
    c.in_ok-lines.ensures c.new-failed.ensures c.in_ok-add_tests.ensures c.in_ok-add_failed.ensures in
    let before = subst AreCosts c.self.view_is c.self.invariant in
    subst AreCosts (sym made) (sound-after c.args.plan.now c.args.history.now.entries.items c.args.self.now before)

pub invariant_of-result : goal.invariant_of-result
invariant_of-result c =
    let made =
    costs_made c.in_ok-courses.courses c.args.plan.now c.args.history.now.entries.items c.as_slice.result.now (search rules) c.in_ok-courses.ensures.are c.requires.ended c.args.self.now _ c.in_ok-lines.lines c.add_tests.new.self _ c.add_failed.new.self c.as_slice-tests.result.now (search rules) c.self.view_is
    c.in_ok-lines.ensures c.new-failed.ensures c.in_ok-add_tests.ensures c.in_ok-add_failed.ensures in
    let before = subst AreCosts c.self.view_is c.self.invariant in
    subst AreCosts (sym made) (sound-after c.args.plan.now c.args.history.now.entries.items c.args.self.now before)
