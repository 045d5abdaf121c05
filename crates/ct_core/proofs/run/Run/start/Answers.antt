use Rattle.std.proofs.Common.{◌≡◌, ◌∙◌, ◌++◌, ◌∷◌, [], ◌+◌, ◌-◌, ◌<◌, ◌≤◌, ◌^◌, ℕ, List, length, get_or, ap, subst, sym, refl, arith}
use Rattle.std.specs.Prelude.{Option, slice_set, vec_capacity}
use Rattle.std.specs.Vec.{with_item}
use Rattle.ct_alloc.specs.declared.placement.Placement.{Placement}
use Rattle.ct_history.specs.Plan.{IsPlaceOf}
use Rattle.ct_history.specs.declared.plan.PlanTest.{PlanTest}
use Rattle.ct_history.specs.declared.plan.PlanParts.{PlanParts}
use Rattle.ct_history.specs.declared.history.Entry.{Entry}
use Rattle.ct_history.specs.declared.history.Entry.TheVariants.{Start}
use Rattle.ct_core.specs.declared.parts.Parts.{Parts}
use Rattle.ct_core.specs.declared.state.State.TheVariants.{Open}
use Rattle.ct_core.specs.InUse.{CanTake, Takes}
use Rattle.ct_core.specs.Parts.{IsKept}
use Rattle.ct_core.specs.Run.{history_of_run}
use Rattle.ct_core.proofs.NoteLemmas.{found_here}
use Rattle.ct_core.proofs.StartLemmas.{IsBegun, can_take, ended, is_member, kept-started, next, stands_queued}
use Rattle.ct_core.proofs.run.Run.start.Goals as goal

pub take-requires : goal.take-requires
take-requires c =
    let run = c.args.self.now in
    let es = history_of_run run in
    let room = vec_capacity run.history.entries in
    let place = c.expect_place-place.result in
    let start = c.args.start.now in
    let tests : c.as_slice.result.now ≡ run.plan.tests = c.as_slice.ensures ∙ ap (λ (p : PlanParts). p.tests) c.parts-plan.ensures.is in
    let at = subst (λ (ts : List PlanTest). IsPlaceOf ts start.test place) tests c.expect_place-place.ensures in
    let t = c.index-as_slice-place.result in
    let read : t ≡ get_or run.plan.tests place t = c.index-as_slice-place.is ∙ ap (λ (ts : List PlanTest). get_or ts place t) (c.as_slice-2.ensures ∙ ap (λ (p : PlanParts). p.tests) c.parts-plan.ensures.is) in
    let found = found_here run.plan.tests start.test place t at read in
    let copied : c.in_ok-kept.kept ≡ start.placement = c.in_ok-kept.ensures ∙ c.as_ref-2.ensures.value in
    let few : run.parts.in_use.open_count + 1 < 2 ^ 64 = omega (arith, c.in_ok-reserve.ensures.ok) in
    let small : c.parts-plan.result.now.level < 2 ^ 32 = omega arith in
    let level = subst (λ (p : PlanParts). p.level < 2 ^ 32) c.parts-plan.ensures.is small in
    subst (λ (p : Option Placement). CanTake t p run.parts.in_use) (sym (c.as_ref-3.ensures.value ∙ copied)) (can_take run.plan es room run.parts c.requires.kept c.args.worker c.requires.free start c.requires.startable place at t found level few)

pub out-requires-clause-stands : goal.out-requires-clause-stands
out-requires-clause-stands c =
    let run = c.args.self.now in
    let es = history_of_run run in
    let room = vec_capacity run.history.entries in
    let place = c.expect_place-place.result in
    let start = c.args.start.now in
    let tests : c.as_slice.result.now ≡ run.plan.tests = c.as_slice.ensures ∙ ap (λ (p : PlanParts). p.tests) c.parts-plan.ensures.is in
    let at = subst (λ (ts : List PlanTest). IsPlaceOf ts start.test place) tests c.expect_place-place.ensures in
    let t = c.index-as_slice-place.result in
    let read : t ≡ get_or run.plan.tests place t = c.index-as_slice-place.is ∙ ap (λ (ts : List PlanTest). get_or ts place t) (c.as_slice-2.ensures ∙ ap (λ (p : PlanParts). p.tests) c.parts-plan.ensures.is) in
    let found = found_here run.plan.tests start.test place t at read in
    let copied : c.in_ok-kept.kept ≡ start.placement = c.in_ok-kept.ensures ∙ c.as_ref-2.ensures.value in
    stands_queued run.plan es room run.parts c.requires.kept c.args.worker c.requires.free start c.requires.startable place at t found

pub out-requires-clause-member : goal.out-requires-clause-member
out-requires-clause-member c =
    let run = c.args.self.now in
    let es = history_of_run run in
    let room = vec_capacity run.history.entries in
    let place = c.expect_place-place.result in
    let start = c.args.start.now in
    let tests : c.as_slice.result.now ≡ run.plan.tests = c.as_slice.ensures ∙ ap (λ (p : PlanParts). p.tests) c.parts-plan.ensures.is in
    let at = subst (λ (ts : List PlanTest). IsPlaceOf ts start.test place) tests c.expect_place-place.ensures in
    let t = c.index-as_slice-place.result in
    let read : t ≡ get_or run.plan.tests place t = c.index-as_slice-place.is ∙ ap (λ (ts : List PlanTest). get_or ts place t) (c.as_slice-2.ensures ∙ ap (λ (p : PlanParts). p.tests) c.parts-plan.ensures.is) in
    let found = found_here run.plan.tests start.test place t at read in
    let copied : c.in_ok-kept.kept ≡ start.placement = c.in_ok-kept.ensures ∙ c.as_ref-2.ensures.value in
    is_member run.plan es room run.parts c.requires.kept c.args.worker c.requires.free start c.requires.startable place at t found

pub returns-clause-kept : goal.returns-clause-kept
returns-clause-kept c =
    let run = c.args.self.now in
    let es = history_of_run run in
    let room = vec_capacity run.history.entries in
    let place = c.expect_place-place.result in
    let start = c.args.start.now in
    let tests : c.as_slice.result.now ≡ run.plan.tests = c.as_slice.ensures ∙ ap (λ (p : PlanParts). p.tests) c.parts-plan.ensures.is in
    let at = subst (λ (ts : List PlanTest). IsPlaceOf ts start.test place) tests c.expect_place-place.ensures in
    let t = c.index-as_slice-place.result in
    let read : t ≡ get_or run.plan.tests place t = c.index-as_slice-place.is ∙ ap (λ (ts : List PlanTest). get_or ts place t) (c.as_slice-2.ensures ∙ ap (λ (p : PlanParts). p.tests) c.parts-plan.ensures.is) in
    let found = found_here run.plan.tests start.test place t at read in
    let copied : c.in_ok-kept.kept ≡ start.placement = c.in_ok-kept.ensures ∙ c.as_ref-2.ensures.value in
    let room' = vec_capacity c.append_reserved.new.entries in
    let parts : Parts = record run.parts {
      states = with_item run.parts.states place (Open (start.attempt - 1) c.in_ok-kept.kept);
      in_use = c.take.new.self;
      ready = c.out.new.self;
    } in
    let before : start.attempt - 1 ≡ ended run.plan es room run.parts c.requires.kept c.args.worker c.requires.free start c.requires.startable place at t found = let number = next run.plan es room run.parts c.requires.kept c.args.worker c.requires.free start c.requires.startable place at t found in omega (arith, number) in
    let begun : IsBegun place start.test (ended run.plan es room run.parts c.requires.kept c.args.worker c.requires.free start c.requires.startable place at t found) t start.placement run.parts parts = record {
      states =
          ap (λ (k : ℕ). slice_set run.parts.states.items place (Open k c.in_ok-kept.kept)) before
          ∙ ap (λ (p : Option Placement). slice_set run.parts.states.items place (Open (ended run.plan es room run.parts c.requires.kept c.args.worker c.requires.free start c.requires.startable place at t found) p)) copied;
      in_use = subst (λ (p : Option Placement). Takes t p run.parts.in_use c.take.new.self) (c.as_ref-3.ensures.value ∙ copied) c.take.ensures;
      ready = c.out.ensures;
      settleable = refl;
      followers = refl;
      keys = refl;
      stopped = refl;
      unfinished = refl;
    } in
    let lent : c.in_ok-lent.lent ≡ start.placement = c.in_ok-lent.ensures ∙ c.as_ref.ensures.value in
    let appended : c.append_reserved.new.entries.items ≡ es ++ Start start.test start.attempt c.args.worker start.placement ∷ [] =
    c.append_reserved.ensures.items
    ∙ ap (λ (xs : List Entry). xs ++ Start start.test start.attempt c.args.worker c.in_ok-lent.lent ∷ []) c.in_ok-reserve.ensures.items
    ∙ ap (λ (p : Option Placement). es ++ Start start.test start.attempt c.args.worker p ∷ []) lent in
    let fits : length es + (run.parts.in_use.open_count + 3) ≤ room' = omega (arith, c.in_ok-reserve.ensures.ok, c.append_reserved.ensures.room) in
    subst (λ (xs : List Entry). IsKept run.plan xs room' parts) (sym appended)
    (kept-started run.plan es room run.parts c.requires.kept c.args.worker c.requires.free start c.requires.startable place at t found parts begun room' fits)
