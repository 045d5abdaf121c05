use Rattle.std.proofs.Common.{◌≡◌, ◌∙◌, ap, subst, sym, false, arith}
use Rattle.std.specs.Prelude.{Option}
use Rattle.std.proofs.lemmas.Grind.{common_steps}
use Rattle.ct_alloc.specs.Free.{FreeValue}
use Rattle.ct_history.specs.declared.plan.PlanTest.{PlanTest}
use Rattle.ct_history.specs.declared.plan.PlanParts.{PlanParts}
use Rattle.ct_core.specs.declared.slots.Place.{Place}
use Rattle.ct_core.specs.Choice.{attempt_after, may_start_if_placed_at}
use Rattle.ct_core.specs.InUse.{has_room_beside}
use Rattle.ct_core.specs.Run.{history_of_run}
use Rattle.ct_core.specs.Slots.{IsPlaceFor}
use Rattle.ct_core.proofs.ChoiceLemmas.{due_at, failed, not_due, nowhere, starts_of}
use Rattle.ct_core.proofs.InUseLemmas.{free_beside}
use Rattle.ct_core.proofs.run.Run.next_start.Goals as goal

pub returns-then-not-has_room-clause-ok : goal.returns-then-not-has_room-clause-ok
returns-then-not-has_room-clause-ok c =
    let run = c.args.self.now in
    let t = c.index-tests-place.result in
    let tests = c.as_slice-tests.ensures ∙ ap (λ (p : PlanParts). p.tests) c.parts-plan.ensures.is in
    let at = due_at run.plan (history_of_run run) run.parts c.args.number c.expect_place-place.result t c.as_slice-tests.result.now c.requires.kept.current c.requires.due tests c.expect_place-place.ensures c.index-tests-place.is in
    let room = at.room ∙ sym (c.has_room.ensures ∙ ap (λ (p : PlanParts). has_room_beside p.level run.parts.in_use t) c.parts-plan.ensures.is) in
    let no : c.has_room.result ≡ false = first_of (cc, grind (arith, common_steps)) in
    not_due run.plan (history_of_run run) t c.args.number at.found (room ∙ no)

pub next_attempt-requires-clause-may : goal.next_attempt-requires-clause-may
next_attempt-requires-clause-may c =
    let run = c.args.self.now in
    let t = c.index-tests-place.result in
    let tests = c.as_slice-tests.ensures ∙ ap (λ (p : PlanParts). p.tests) c.parts-plan.ensures.is in
    let at = due_at run.plan (history_of_run run) run.parts c.args.number c.expect_place-place.result t c.as_slice-tests.result.now c.requires.kept.current c.requires.due tests c.expect_place-place.ensures c.index-tests-place.is in
    let room = at.room ∙ sym (c.has_room.ensures ∙ ap (λ (p : PlanParts). has_room_beside p.level run.parts.in_use t) c.parts-plan.ensures.is) in
    ap (λ (o : Option PlanTest). may_start_if_placed_at run.plan (history_of_run run) o) at.found ∙ room ∙ c.if-not-has_room.false

pub returns-in-Here-clause-ok : goal.returns-in-Here-clause-ok
returns-in-Here-clause-ok c =
    let run = c.args.self.now in
    let t = c.index-tests-place.result in
    let tests = c.as_slice-tests.ensures ∙ ap (λ (p : PlanParts). p.tests) c.parts-plan.ensures.is in
    let at = due_at run.plan (history_of_run run) run.parts c.args.number c.expect_place-place.result t c.as_slice-tests.result.now c.requires.kept.current c.requires.due tests c.expect_place-place.ensures c.index-tests-place.is in
    let room = at.room ∙ sym (c.has_room.ensures ∙ ap (λ (p : PlanParts). has_room_beside p.level run.parts.in_use t) c.parts-plan.ensures.is) in
    let free = run.parts.in_use.free in
    let found = subst (λ (o : Option FreeValue). IsPlaceFor o t.needs c.in_ok-placement.field-0) c.as_ref.ensures.value c.in_ok-placement.ensures in
    let placed = subst (λ (place : Place). IsPlaceFor free t.needs place) c.in-Here.is found in
    starts_of run.plan (history_of_run run) free t c.args.number c.next_attempt.result c.in-Here.placement (free_beside run.plan (history_of_run run) run.parts.in_use c.requires.kept.current.in_use) at.found (room ∙ c.if-not-has_room.false) placed
    (c.next_attempt.ensures ∙ ap (λ (o : Option PlanTest). attempt_after (history_of_run run) o) at.found)

pub returns-in-Nowhere-clause-ok : goal.returns-in-Nowhere-clause-ok
returns-in-Nowhere-clause-ok c =
    let run = c.args.self.now in
    let t = c.index-tests-place.result in
    let tests = c.as_slice-tests.ensures ∙ ap (λ (p : PlanParts). p.tests) c.parts-plan.ensures.is in
    let at = due_at run.plan (history_of_run run) run.parts c.args.number c.expect_place-place.result t c.as_slice-tests.result.now c.requires.kept.current c.requires.due tests c.expect_place-place.ensures c.index-tests-place.is in
    let free = run.parts.in_use.free in
    let found = subst (λ (o : Option FreeValue). IsPlaceFor o t.needs c.in_ok-placement.field-0) c.as_ref.ensures.value c.in_ok-placement.ensures in
    let none = subst (λ (place : Place). IsPlaceFor free t.needs place) c.in-Nowhere.is found in
    nowhere run.plan (history_of_run run) free t c.args.number (free_beside run.plan (history_of_run run) run.parts.in_use c.requires.kept.current.in_use) at.found none

pub returns-in_err-placement-clause-err : goal.returns-in_err-placement-clause-err
returns-in_err-placement-clause-err c =
    let run = c.args.self.now in
    let t = c.index-tests-place.result in
    let tests = c.as_slice-tests.ensures ∙ ap (λ (p : PlanParts). p.tests) c.parts-plan.ensures.is in
    let at = due_at run.plan (history_of_run run) run.parts c.args.number c.expect_place-place.result t c.as_slice-tests.result.now c.requires.kept.current c.requires.due tests c.expect_place-place.ensures c.index-tests-place.is in
    let room = at.room ∙ sym (c.has_room.ensures ∙ ap (λ (p : PlanParts). has_room_beside p.level run.parts.in_use t) c.parts-plan.ensures.is) in
    failed c.from_residual.result (ap (λ (o : Option PlanTest). may_start_if_placed_at run.plan (history_of_run run) o) at.found ∙ room ∙ c.if-not-has_room.false)
