use Rattle.std.proofs.Common.{arith, ◌≡◌, ◌<◌, length, slice_get, slice_index}
use Rattle.ct_journal_text.specs.Completed.{pick_by, picks_by}
use Rattle.ct_journal_text.proofs.PlacementLemmas.{unequal, stops, goes_on}
use Rattle.ct_journal_text.proofs.placements.picks_at.Goals as goal

pub returns-then-needs-places : goal.returns-then-needs-places
returns-then-needs-places c = unequal c.args.resources.now c.args.needs.now c.args.places.now c.if-needs-places.true

pub returns-in-None : goal.returns-in-None
returns-in-None c =
    let resources = c.args.resources.now in
    let needs = c.args.needs.now in
    let places = c.args.places.now in
    let at = c.loop-at.at in
    let need = c.index-needs-at.result in
    let place = slice_index places at in
    let found = c.in_ok-pick_at.field-0 in
    let made : found ≡ pick_by need place (slice_get resources place) = c.in_ok-pick_at.ensures in
    let also : at < length places = omega (arith, c.loop-at-test.true, c.if-needs-places.false) in
    stops resources needs places at need found c.loop-at-test.true also c.index-needs-at.is made c.loop-at.picks (picks_by resources needs places) c.in-None.is c.loop-at.invariant

pub loop-at-preserved : goal.loop-at-preserved
loop-at-preserved c =
    let resources = c.args.resources.now in
    let needs = c.args.needs.now in
    let places = c.args.places.now in
    let at = c.loop-at.at in
    let need = c.index-needs-at.result in
    let place = slice_index places at in
    let found = c.in_ok-pick_at.field-0 in
    let made : found ≡ pick_by need place (slice_get resources place) = c.in_ok-pick_at.ensures in
    let also : at < length places = omega (arith, c.loop-at-test.true, c.if-needs-places.false) in
    let more = goes_on resources needs places at need found c.loop-at-test.true also c.index-needs-at.is made c.loop-at.picks c.in-Some.pick (picks_by resources needs places) c.in-Some.is c.loop-at.invariant in
    let room = c.in_ok-push-in-Some.ensures.ok in
    rw room more
