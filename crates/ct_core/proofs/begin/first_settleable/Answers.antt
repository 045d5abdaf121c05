use Rattle.std.proofs.Common.{◌≡◌, ◌∙◌, ◌<◌, ◌≤◌, ap, get_or, length, refl, slice_get, List, arith}
use Rattle.std.specs.Prelude.{Some}
use Rattle.std.proofs.lemmas.Option.{slice_get_read}
use Rattle.ct_history.specs.declared.plan.PlanTest.{PlanTest}
use Rattle.ct_core.proofs.BeginLemmas.{begins_settleable}
use Rattle.ct_core.proofs.FirstLemmas.{settleable_all, settleable_more}
use Rattle.ct_core.proofs.begin.first_settleable.Goals as goal

pub loop-place-preserved : goal.loop-place-preserved
loop-place-preserved c =
    let tests = c.args.plan.now.tests in
    let place = c.loop-place.place in
    let t = c.index-tests-place.result in
    let same = ap length c.as_slice-tests.ensures in
    let lt : place < length tests = omega (arith, same) in
    let there : slice_get tests place ≡ Some t = slice_get_read tests (length tests) place t refl lt (c.index-tests-place.is ∙ ap (λ (ts : List PlanTest). get_or ts place t) c.as_slice-tests.ensures) in
    settleable_more tests c.loop-place.marks c.set.new.self place t c.settles_first.result there c.settles_first.ensures c.set.ensures c.loop-place.invariant

pub returns : goal.returns
returns c =
    let tests = c.args.plan.now.tests in
    let same = ap length c.as_slice-tests.ensures in
    let all : length tests ≤ c.loop-place.place = omega (arith, same) in
    begins_settleable c.args.plan.now c.requires.sound c.loop-place.marks c.loop-place.invariant.0 (settleable_all tests c.loop-place.marks c.loop-place.place all c.loop-place.invariant.1)
