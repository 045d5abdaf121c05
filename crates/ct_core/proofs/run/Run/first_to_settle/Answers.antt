use Rattle.std.proofs.Common.{◌≡◌, ◌∙◌, ap, get_or, length, refl, slice_get, List, arith}
use Rattle.std.specs.Prelude.{Some}
use Rattle.std.proofs.lemmas.Option.{slice_get_read, slice_get_within}
use Rattle.ct_history.specs.declared.plan.PlanTest.{PlanTest}
use Rattle.ct_history.specs.declared.plan.PlanParts.{PlanParts}
use Rattle.ct_core.specs.Run.{history_of_run}
use Rattle.ct_core.proofs.ChoiceLemmas.{marked_settles, marked_some}
use Rattle.ct_core.proofs.PickLemmas.{least_mark_settles, no_mark_settles}
use Rattle.ct_core.proofs.run.Run.first_to_settle.Goals as goal

pub returns-in_default-clause-found : goal.returns-in_default-clause-found
returns-in_default-clause-found c =
    let run = c.args.self.now in
    no_mark_settles run.plan c.parts.ensures.sound (history_of_run run) run.parts.settleable c.requires.queued.settleable c.in_default.ensures

pub offset_bounds-tests-place : goal.offset_bounds-tests-place
offset_bounds-tests-place c =
    let run = c.args.self.now in
    let at = least_mark_settles run.plan c.parts.ensures.sound (history_of_run run) run.parts.settleable c.requires.queued.settleable c.in-Some.place c.in-Some.ensures in
    let within = slice_get_within run.plan.tests c.in-Some.place at.test at.there in
    let same = ap length c.as_slice-tests.ensures in
    let count = ap (λ (p : PlanParts). length p.tests) c.parts.ensures.is in
    let most = c.as_slice-tests.type_inv in
    omega (arith, within, same, count, most)

pub bounds-tests-place : goal.bounds-tests-place
bounds-tests-place c =
    let run = c.args.self.now in
    let at = least_mark_settles run.plan c.parts.ensures.sound (history_of_run run) run.parts.settleable c.requires.queued.settleable c.in-Some.place c.in-Some.ensures in
    let within = slice_get_within run.plan.tests c.in-Some.place at.test at.there in
    let same = ap length c.as_slice-tests.ensures in
    let count = ap (λ (p : PlanParts). length p.tests) c.parts.ensures.is in
    omega (arith, within, same, count)

pub unreachable-requires : goal.unreachable-requires
unreachable-requires c =
    let run = c.args.self.now in
    let place = c.in-Some.place in
    let t = c.index-tests-place.result in
    let at = least_mark_settles run.plan c.parts.ensures.sound (history_of_run run) run.parts.settleable c.requires.queued.settleable place c.in-Some.ensures in
    let within = slice_get_within run.plan.tests place at.test at.there in
    let tests = c.as_slice-tests.ensures ∙ ap (λ (p : PlanParts). p.tests) c.parts.ensures.is in
    let there : slice_get run.plan.tests place ≡ Some t = slice_get_read run.plan.tests (length run.plan.tests) place t refl within (c.index-tests-place.is ∙ ap (λ (ts : List PlanTest). get_or ts place t) tests) in
    marked_some run.plan (history_of_run run) place t at there c.cause.result c.cause.ensures c.in-None.is

pub returns-clause-found : goal.returns-clause-found
returns-clause-found c =
    let run = c.args.self.now in
    let place = c.in-Some.place in
    let t = c.index-tests-place.result in
    let at = least_mark_settles run.plan c.parts.ensures.sound (history_of_run run) run.parts.settleable c.requires.queued.settleable place c.in-Some.ensures in
    let within = slice_get_within run.plan.tests place at.test at.there in
    let tests = c.as_slice-tests.ensures ∙ ap (λ (p : PlanParts). p.tests) c.parts.ensures.is in
    let there : slice_get run.plan.tests place ≡ Some t = slice_get_read run.plan.tests (length run.plan.tests) place t refl within (c.index-tests-place.is ∙ ap (λ (ts : List PlanTest). get_or ts place t) tests) in
    marked_settles run.plan (history_of_run run) place t at there c.cause.result c.in-Some-cause.cause c.cause.ensures c.in-Some-cause.is
