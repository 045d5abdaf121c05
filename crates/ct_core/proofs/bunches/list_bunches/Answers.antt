use Rattle.std.proofs.Common.{◌≡◌, ◌∙◌, ◌+◌, ◌<◌, ℕ, List, ap, get_or, length, subst, sym, arith}
use Rattle.ct_core.specs.Lines.{demand_at}
use Rattle.ct_core.proofs.BunchLemmas.{AreBunchesTo, bunches_all, bunches_more}
use Rattle.ct_core.proofs.LineLemmas.{line_demand, lines_as_many}
use Rattle.ct_core.proofs.bunches.list_bunches.Goals as goal

pub bunch_of-requires-clause-alike : goal.bunch_of-requires-clause-alike
bunch_of-requires-clause-alike c =
    let plan = c.args.plan.now in
    let place = c.loop-place.place in
    let lines = c.as_slice-line-items.ensures in
    let long = ap length lines in
    let many = lines_as_many plan c.args.lines.now c.requires.lines in
    let test = c.loop-place-test.true in
    let within : place < length plan.queue = omega (arith, test, long, many) in
    ap (λ (ls : List ℕ). demand_at plan (get_or ls place 0)) lines ∙ line_demand plan c.args.lines.now c.requires.lines place within

pub loop-place-preserved : goal.loop-place-preserved
loop-place-preserved c =
    let plan = c.args.plan.now in
    let place = c.loop-place.place in
    subst (λ (bunches : List ℕ). AreBunchesTo plan c.args.keys.now bunches (place + 1)) (sym c.in_ok-push.ensures.ok)
    (bunches_more plan c.args.keys.now c.loop-place.bunches place c.loop-place.invariant c.in_ok-bunch.bunch c.in_ok-bunch.ensures.within c.in_ok-bunch.ensures.locked c.in_ok-bunch.ensures.alike)

pub returns : goal.returns
returns c =
    let plan = c.args.plan.now in
    let place = c.loop-place.place in
    let long = ap length c.as_slice-line-items.ensures in
    let many = lines_as_many plan c.args.lines.now c.requires.lines in
    let test = c.loop-place-test.false in
    let end = c.loop-place.auto.place-end in
    let all : place ≡ length plan.queue = omega (arith, test, end, long, many) in
    bunches_all plan c.args.keys.now c.loop-place.bunches place c.loop-place.invariant all
