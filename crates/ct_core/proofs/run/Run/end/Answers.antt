use Rattle.std.proofs.Common.{◌≡◌, ◌∙◌, ◌++◌, ◌∷◌, [], ◌+◌, ℕ, true, false, List, get_or, ap, subst, sym, refl, arith}
use Rattle.std.specs.Prelude.{Option, Some, is_some, slice_set, vec_capacity}
use Rattle.std.specs.Vec.{with_item}
use Rattle.std.proofs.lemmas.List.{set-set}
use Rattle.std.proofs.lemmas.Bool.{true≢false}
use Rattle.ct_alloc.specs.declared.placement.Placement.{Placement}
use Rattle.ct_verdict.specs.declared.verdict.Verdict.{Verdict}
use Rattle.ct_verdict.specs.Verdict.{is_repeated, verdict_of}
use Rattle.ct_history.specs.declared.plan.PlanTest.{PlanTest}
use Rattle.ct_history.specs.declared.plan.PlanParts.{PlanParts}
use Rattle.ct_history.specs.declared.history.Entry.{Entry}
use Rattle.ct_history.specs.declared.history.Entry.TheVariants.{End}
use Rattle.ct_history.specs.Verdicts.{verdict_of_test}
use Rattle.ct_history.specs.Plan.{IsPlaceOf, test_at}
use Rattle.ct_history.proofs.LegalLemmas.{legal_allowed}
use Rattle.ct_core.specs.declared.in_use.InUse.{InUse}
use Rattle.ct_core.specs.declared.parts.Parts.{Parts}
use Rattle.ct_core.specs.declared.state.State.{State}
use Rattle.ct_core.specs.declared.state.State.TheVariants.{Final, Pending}
use Rattle.ct_core.specs.InUse.{CanGive, GivesBack}
use Rattle.ct_core.specs.Parts.{IsConcluding, IsKept}
use Rattle.ct_core.proofs.OpenStartLemmas.{held_open}
use Rattle.ct_core.specs.Run.{history_of_run}
use Rattle.ct_core.proofs.DueLemmas.{verdict_with_stop}
use Rattle.ct_core.proofs.EndLemmas.{IsClosed, can_give, concluding-ended, ended, final, is_gone, kept-again, next, no_verdict, none_added, open_here, open_is, open_read, placement, stands_queued, within_states}
use Rattle.ct_core.proofs.NoteLemmas.{found_here}
use Rattle.ct_core.proofs.run.Run.end.Goals as goal

pub expect_place-place-requires-clause-there : goal.expect_place-place-requires-clause-there
expect_place-place-requires-clause-there c =
    let run = c.args.self.now in
    let es = history_of_run run in
    let tests : c.as_slice.result.now ≡ run.plan.tests = c.as_slice.ensures ∙ ap (λ (p : PlanParts). p.tests) c.parts-plan.ensures.is in
    let held = held_open run.plan es c.args.number c.args.attempt c.args.worker (legal_allowed run.plan es c.requires.kept.legal) c.requires.holds in
    ap (λ (ts : List PlanTest). is_some (test_at ts c.args.number)) tests ∙ ap (λ (o : Option PlanTest). is_some o) held.found

pub unreachable-requires : goal.unreachable-requires
unreachable-requires c =
    let run = c.args.self.now in
    let es = history_of_run run in
    let room = vec_capacity run.history.entries in
    let place = c.expect_place-place.result in
    let tests : c.as_slice.result.now ≡ run.plan.tests = c.as_slice.ensures ∙ ap (λ (p : PlanParts). p.tests) c.parts-plan.ensures.is in
    let at = subst (λ (ts : List PlanTest). IsPlaceOf ts c.args.number place) tests c.expect_place-place.ensures in
    let t = c.index-as_slice-place.result in
    let read : t ≡ get_or run.plan.tests place t = c.index-as_slice-place.is ∙ ap (λ (ts : List PlanTest). get_or ts place t) (c.as_slice-2.ensures ∙ ap (λ (p : PlanParts). p.tests) c.parts-plan.ensures.is) in
    let found = found_here run.plan.tests c.args.number place t at read in
    let within = within_states run.plan es room run.parts c.requires.kept c.args.number c.args.attempt c.args.worker c.args.seen c.requires.holds place at t found in
    let here = open_here run.plan es room run.parts c.requires.kept c.args.number c.args.attempt c.args.worker c.args.seen c.requires.holds place at t found in
    c.in_default.not-Open _ _ (c.replace.ensures.value ∙ open_is run.parts.states.items place _ _ c.index_mut.result.now within here c.index_mut.ensures.value)

pub again-requires : goal.again-requires
again-requires c =
    let run = c.args.self.now in
    let es = history_of_run run in
    let room = vec_capacity run.history.entries in
    let place = c.expect_place-place.result in
    let tests : c.as_slice.result.now ≡ run.plan.tests = c.as_slice.ensures ∙ ap (λ (p : PlanParts). p.tests) c.parts-plan.ensures.is in
    let at = subst (λ (ts : List PlanTest). IsPlaceOf ts c.args.number place) tests c.expect_place-place.ensures in
    let t = c.index-as_slice-place.result in
    let read : t ≡ get_or run.plan.tests place t = c.index-as_slice-place.is ∙ ap (λ (ts : List PlanTest). get_or ts place t) (c.as_slice-2.ensures ∙ ap (λ (p : PlanParts). p.tests) c.parts-plan.ensures.is) in
    let found = found_here run.plan.tests c.args.number place t at read in
    let behind = next run.plan es room run.parts c.requires.kept c.args.number c.args.attempt c.args.worker c.args.seen c.requires.holds place at t found in
    (λ never. absurd (true≢false never), λ none. absurd (omega (arith, behind, none)))

pub give-requires : goal.give-requires
give-requires c =
    let run = c.args.self.now in
    let es = history_of_run run in
    let room = vec_capacity run.history.entries in
    let place = c.expect_place-place.result in
    let tests : c.as_slice.result.now ≡ run.plan.tests = c.as_slice.ensures ∙ ap (λ (p : PlanParts). p.tests) c.parts-plan.ensures.is in
    let at = subst (λ (ts : List PlanTest). IsPlaceOf ts c.args.number place) tests c.expect_place-place.ensures in
    let t = c.index-as_slice-place.result in
    let read : t ≡ get_or run.plan.tests place t = c.index-as_slice-place.is ∙ ap (λ (ts : List PlanTest). get_or ts place t) (c.as_slice-2.ensures ∙ ap (λ (p : PlanParts). p.tests) c.parts-plan.ensures.is) in
    let found = found_here run.plan.tests c.args.number place t at read in
    let within = within_states run.plan es room run.parts c.requires.kept c.args.number c.args.attempt c.args.worker c.args.seen c.requires.holds place at t found in
    let here = open_here run.plan es room run.parts c.requires.kept c.args.number c.args.attempt c.args.worker c.args.seen c.requires.holds place at t found in
    let opens = open_read run.parts.states.items place _ _ _ _ c.index_mut.result.now within here c.index_mut.ensures.value (sym c.replace.ensures.value ∙ c.in-Open.is) in
    subst (λ (p : Option Placement). CanGive t p run.parts.in_use) (sym (c.as_ref.ensures.value ∙ opens.1)) (can_give run.plan es room run.parts c.requires.kept c.args.number c.args.attempt c.args.worker c.args.seen c.requires.holds place at t found)

pub go_on-requires-clause-stands : goal.go_on-requires-clause-stands
go_on-requires-clause-stands c =
    let run = c.args.self.now in
    let es = history_of_run run in
    let room = vec_capacity run.history.entries in
    let place = c.expect_place-place.result in
    let tests : c.as_slice.result.now ≡ run.plan.tests = c.as_slice.ensures ∙ ap (λ (p : PlanParts). p.tests) c.parts-plan.ensures.is in
    let at = subst (λ (ts : List PlanTest). IsPlaceOf ts c.args.number place) tests c.expect_place-place.ensures in
    let t = c.index-as_slice-place.result in
    let read : t ≡ get_or run.plan.tests place t = c.index-as_slice-place.is ∙ ap (λ (ts : List PlanTest). get_or ts place t) (c.as_slice-2.ensures ∙ ap (λ (p : PlanParts). p.tests) c.parts-plan.ensures.is) in
    let found = found_here run.plan.tests c.args.number place t at read in
    stands_queued run.plan es room run.parts c.requires.kept c.args.number c.args.attempt c.args.worker c.args.seen c.requires.holds place at t found

pub go_on-requires-clause-gone : goal.go_on-requires-clause-gone
go_on-requires-clause-gone c =
    let run = c.args.self.now in
    let es = history_of_run run in
    let room = vec_capacity run.history.entries in
    let place = c.expect_place-place.result in
    let tests : c.as_slice.result.now ≡ run.plan.tests = c.as_slice.ensures ∙ ap (λ (p : PlanParts). p.tests) c.parts-plan.ensures.is in
    let at = subst (λ (ts : List PlanTest). IsPlaceOf ts c.args.number place) tests c.expect_place-place.ensures in
    let t = c.index-as_slice-place.result in
    let read : t ≡ get_or run.plan.tests place t = c.index-as_slice-place.is ∙ ap (λ (ts : List PlanTest). get_or ts place t) (c.as_slice-2.ensures ∙ ap (λ (p : PlanParts). p.tests) c.parts-plan.ensures.is) in
    let found = found_here run.plan.tests c.args.number place t at read in
    is_gone run.plan es room run.parts c.requires.kept c.args.number c.args.attempt c.args.worker c.args.seen c.requires.holds place at t found

pub returns-then-again-clause-kept : goal.returns-then-again-clause-kept
returns-then-again-clause-kept c =
    let run = c.args.self.now in
    let es = history_of_run run in
    let room = vec_capacity run.history.entries in
    let place = c.expect_place-place.result in
    let tests : c.as_slice.result.now ≡ run.plan.tests = c.as_slice.ensures ∙ ap (λ (p : PlanParts). p.tests) c.parts-plan.ensures.is in
    let at = subst (λ (ts : List PlanTest). IsPlaceOf ts c.args.number place) tests c.expect_place-place.ensures in
    let t = c.index-as_slice-place.result in
    let read : t ≡ get_or run.plan.tests place t = c.index-as_slice-place.is ∙ ap (λ (ts : List PlanTest). get_or ts place t) (c.as_slice-2.ensures ∙ ap (λ (p : PlanParts). p.tests) c.parts-plan.ensures.is) in
    let found = found_here run.plan.tests c.args.number place t at read in
    let same : is_repeated run.plan.repeat (ended run.plan es room run.parts c.requires.kept c.args.number c.args.attempt c.args.worker c.args.seen c.requires.holds place at t found + 1) (Some (verdict_of t.rules c.args.seen)) ≡ true =
    ap (λ (k : ℕ). is_repeated run.plan.repeat k (Some (verdict_of t.rules c.args.seen))) (sym (next run.plan es room run.parts c.requires.kept c.args.number c.args.attempt c.args.worker c.args.seen c.requires.holds place at t found))
    ∙ ap (λ (v : Verdict). is_repeated run.plan.repeat c.args.attempt (Some v)) (sym c.one-verdict.ensures)
    ∙ ap (λ (p : PlanParts). is_repeated p.repeat c.args.attempt (Some c.one-verdict.result)) (sym c.parts-plan.ensures.is)
    ∙ sym c.again.ensures
    ∙ c.if-again.true in
    let within = within_states run.plan es room run.parts c.requires.kept c.args.number c.args.attempt c.args.worker c.args.seen c.requires.holds place at t found in
    let here = open_here run.plan es room run.parts c.requires.kept c.args.number c.args.attempt c.args.worker c.args.seen c.requires.holds place at t found in
    let opens = open_read run.parts.states.items place _ _ _ _ c.index_mut.result.now within here c.index_mut.ensures.value (sym c.replace.ensures.value ∙ c.in-Open.is) in
    let gives = subst (λ (p : Option Placement). GivesBack t p run.parts.in_use c.give.new.self) (c.as_ref.ensures.value ∙ opens.1) c.give.ensures in
    let room' = vec_capacity c.append_reserved.new.entries in
    let closed : IsClosed place t (placement run.plan es room run.parts c.requires.kept c.args.number c.args.attempt c.args.worker c.args.seen c.requires.holds place at t found) (Pending (ended run.plan es room run.parts c.requires.kept c.args.number c.args.attempt c.args.worker c.args.seen c.requires.holds place at t found + 1)) run.parts c.go_on.new.self = record {
      states =
          c.go_on.ensures.states
          ∙ set-set run.parts.states.items place c.replace.new.dest (Pending c.args.attempt)
          ∙ ap (λ (k : ℕ). slice_set run.parts.states.items place (Pending k)) (next run.plan es room run.parts c.requires.kept c.args.number c.args.attempt c.args.worker c.args.seen c.requires.holds place at t found);
      in_use = subst (λ (u : InUse). GivesBack t (placement run.plan es room run.parts c.requires.kept c.args.number c.args.attempt c.args.worker c.args.seen c.requires.holds place at t found) run.parts.in_use u) (sym c.go_on.ensures.in_use) gives;
      followers = c.go_on.ensures.followers;
      keys = c.go_on.ensures.keys;
      stopped = c.go_on.ensures.stopped;
      unfinished = c.go_on.ensures.unfinished;
    } in
    subst (λ (xs : List Entry). IsKept run.plan xs room' c.go_on.new.self) (sym c.append_reserved.ensures.items)
    (kept-again run.plan es room run.parts c.requires.kept c.args.number c.args.attempt c.args.worker c.args.seen c.requires.holds place at t found same c.go_on.new.self closed c.go_on.ensures.ready c.go_on.ensures.halted c.go_on.ensures.settleable room' c.append_reserved.ensures.room)

pub returns-then-again-clause-ended : goal.returns-then-again-clause-ended
returns-then-again-clause-ended c =
    let run = c.args.self.now in
    let es = history_of_run run in
    let room = vec_capacity run.history.entries in
    let place = c.expect_place-place.result in
    let tests : c.as_slice.result.now ≡ run.plan.tests = c.as_slice.ensures ∙ ap (λ (p : PlanParts). p.tests) c.parts-plan.ensures.is in
    let at = subst (λ (ts : List PlanTest). IsPlaceOf ts c.args.number place) tests c.expect_place-place.ensures in
    let t = c.index-as_slice-place.result in
    let read : t ≡ get_or run.plan.tests place t = c.index-as_slice-place.is ∙ ap (λ (ts : List PlanTest). get_or ts place t) (c.as_slice-2.ensures ∙ ap (λ (p : PlanParts). p.tests) c.parts-plan.ensures.is) in
    let found = found_here run.plan.tests c.args.number place t at read in
    let same : is_repeated run.plan.repeat (ended run.plan es room run.parts c.requires.kept c.args.number c.args.attempt c.args.worker c.args.seen c.requires.holds place at t found + 1) (Some (verdict_of t.rules c.args.seen)) ≡ true =
    ap (λ (k : ℕ). is_repeated run.plan.repeat k (Some (verdict_of t.rules c.args.seen))) (sym (next run.plan es room run.parts c.requires.kept c.args.number c.args.attempt c.args.worker c.args.seen c.requires.holds place at t found))
    ∙ ap (λ (v : Verdict). is_repeated run.plan.repeat c.args.attempt (Some v)) (sym c.one-verdict.ensures)
    ∙ ap (λ (p : PlanParts). is_repeated p.repeat c.args.attempt (Some c.one-verdict.result)) (sym c.parts-plan.ensures.is)
    ∙ sym c.again.ensures
    ∙ c.if-again.true in
    c.append_reserved.ensures.items ∙ sym (none_added run.plan es room run.parts c.requires.kept c.args.number c.args.attempt c.args.worker c.args.seen c.requires.holds place at t found same)

pub returns-then-again-clause-verdict : goal.returns-then-again-clause-verdict
returns-then-again-clause-verdict c =
    let run = c.args.self.now in
    let es = history_of_run run in
    let room = vec_capacity run.history.entries in
    let place = c.expect_place-place.result in
    let tests : c.as_slice.result.now ≡ run.plan.tests = c.as_slice.ensures ∙ ap (λ (p : PlanParts). p.tests) c.parts-plan.ensures.is in
    let at = subst (λ (ts : List PlanTest). IsPlaceOf ts c.args.number place) tests c.expect_place-place.ensures in
    let t = c.index-as_slice-place.result in
    let read : t ≡ get_or run.plan.tests place t = c.index-as_slice-place.is ∙ ap (λ (ts : List PlanTest). get_or ts place t) (c.as_slice-2.ensures ∙ ap (λ (p : PlanParts). p.tests) c.parts-plan.ensures.is) in
    let found = found_here run.plan.tests c.args.number place t at read in
    let same : is_repeated run.plan.repeat (ended run.plan es room run.parts c.requires.kept c.args.number c.args.attempt c.args.worker c.args.seen c.requires.holds place at t found + 1) (Some (verdict_of t.rules c.args.seen)) ≡ true =
    ap (λ (k : ℕ). is_repeated run.plan.repeat k (Some (verdict_of t.rules c.args.seen))) (sym (next run.plan es room run.parts c.requires.kept c.args.number c.args.attempt c.args.worker c.args.seen c.requires.holds place at t found))
    ∙ ap (λ (v : Verdict). is_repeated run.plan.repeat c.args.attempt (Some v)) (sym c.one-verdict.ensures)
    ∙ ap (λ (p : PlanParts). is_repeated p.repeat c.args.attempt (Some c.one-verdict.result)) (sym c.parts-plan.ensures.is)
    ∙ sym c.again.ensures
    ∙ c.if-again.true in
    sym (ap (λ (xs : List Entry). verdict_of_test run.plan xs c.args.number) c.append_reserved.ensures.items ∙ no_verdict run.plan es room run.parts c.requires.kept c.args.number c.args.attempt c.args.worker c.args.seen c.requires.holds place at t found same)

pub conclude-requires : goal.conclude-requires
conclude-requires c =
    let run = c.args.self.now in
    let es = history_of_run run in
    let room = vec_capacity run.history.entries in
    let place = c.expect_place-place.result in
    let tests : c.as_slice.result.now ≡ run.plan.tests = c.as_slice.ensures ∙ ap (λ (p : PlanParts). p.tests) c.parts-plan.ensures.is in
    let at = subst (λ (ts : List PlanTest). IsPlaceOf ts c.args.number place) tests c.expect_place-place.ensures in
    let t = c.index-as_slice-place.result in
    let read : t ≡ get_or run.plan.tests place t = c.index-as_slice-place.is ∙ ap (λ (ts : List PlanTest). get_or ts place t) (c.as_slice-2.ensures ∙ ap (λ (p : PlanParts). p.tests) c.parts-plan.ensures.is) in
    let found = found_here run.plan.tests c.args.number place t at read in
    let same : is_repeated run.plan.repeat (ended run.plan es room run.parts c.requires.kept c.args.number c.args.attempt c.args.worker c.args.seen c.requires.holds place at t found + 1) (Some (verdict_of t.rules c.args.seen)) ≡ false =
    ap (λ (k : ℕ). is_repeated run.plan.repeat k (Some (verdict_of t.rules c.args.seen))) (sym (next run.plan es room run.parts c.requires.kept c.args.number c.args.attempt c.args.worker c.args.seen c.requires.holds place at t found))
    ∙ ap (λ (v : Verdict). is_repeated run.plan.repeat c.args.attempt (Some v)) (sym c.one-verdict.ensures)
    ∙ ap (λ (p : PlanParts). is_repeated p.repeat c.args.attempt (Some c.one-verdict.result)) (sym c.parts-plan.ensures.is)
    ∙ sym c.again.ensures
    ∙ c.if-again.false in
    let within = within_states run.plan es room run.parts c.requires.kept c.args.number c.args.attempt c.args.worker c.args.seen c.requires.holds place at t found in
    let here = open_here run.plan es room run.parts c.requires.kept c.args.number c.args.attempt c.args.worker c.args.seen c.requires.holds place at t found in
    let opens = open_read run.parts.states.items place _ _ _ _ c.index_mut.result.now within here c.index_mut.ensures.value (sym c.replace.ensures.value ∙ c.in-Open.is) in
    let gives = subst (λ (p : Option Placement). GivesBack t p run.parts.in_use c.give.new.self) (c.as_ref.ensures.value ∙ opens.1) c.give.ensures in
    let room' = vec_capacity c.append_reserved.new.entries in
    let parts : Parts = record run.parts {
      states = with_item run.parts.states place c.replace.new.dest;
      in_use = c.give.new.self;
    } in
    let closed : IsClosed place t (placement run.plan es room run.parts c.requires.kept c.args.number c.args.attempt c.args.worker c.args.seen c.requires.holds place at t found) (Final (verdict_of t.rules c.args.seen)) run.parts parts = record {
      states =
          ap (λ (s : State). slice_set run.parts.states.items place s) c.replace.ensures.after
          ∙ ap (λ (v : Verdict). slice_set run.parts.states.items place (Final v)) c.one-verdict.ensures;
      in_use = gives;
      followers = refl;
      keys = refl;
      stopped = refl;
      unfinished = refl;
    } in
    record {
      concluding =
          subst (λ (xs : List Entry). IsConcluding run.plan xs room' c.args.number c.one-verdict.result parts) (sym c.append_reserved.ensures.items)
          (subst (λ (v : Verdict). IsConcluding run.plan (es ++ End c.args.number c.args.attempt c.args.worker c.args.seen ∷ []) room' c.args.number v parts) (sym c.one-verdict.ensures)
          (concluding-ended run.plan es room run.parts c.requires.kept c.args.number c.args.attempt c.args.worker c.args.seen c.requires.holds place at t found same parts closed refl refl room' c.append_reserved.ensures.room));
    }

pub returns-clause-verdict : goal.returns-clause-verdict
returns-clause-verdict c =
    let run = c.args.self.now in
    let es = history_of_run run in
    let room = vec_capacity run.history.entries in
    let place = c.expect_place-place.result in
    let tests : c.as_slice.result.now ≡ run.plan.tests = c.as_slice.ensures ∙ ap (λ (p : PlanParts). p.tests) c.parts-plan.ensures.is in
    let at = subst (λ (ts : List PlanTest). IsPlaceOf ts c.args.number place) tests c.expect_place-place.ensures in
    let t = c.index-as_slice-place.result in
    let read : t ≡ get_or run.plan.tests place t = c.index-as_slice-place.is ∙ ap (λ (ts : List PlanTest). get_or ts place t) (c.as_slice-2.ensures ∙ ap (λ (p : PlanParts). p.tests) c.parts-plan.ensures.is) in
    let found = found_here run.plan.tests c.args.number place t at read in
    let same : is_repeated run.plan.repeat (ended run.plan es room run.parts c.requires.kept c.args.number c.args.attempt c.args.worker c.args.seen c.requires.holds place at t found + 1) (Some (verdict_of t.rules c.args.seen)) ≡ false =
    ap (λ (k : ℕ). is_repeated run.plan.repeat k (Some (verdict_of t.rules c.args.seen))) (sym (next run.plan es room run.parts c.requires.kept c.args.number c.args.attempt c.args.worker c.args.seen c.requires.holds place at t found))
    ∙ ap (λ (v : Verdict). is_repeated run.plan.repeat c.args.attempt (Some v)) (sym c.one-verdict.ensures)
    ∙ ap (λ (p : PlanParts). is_repeated p.repeat c.args.attempt (Some c.one-verdict.result)) (sym c.parts-plan.ensures.is)
    ∙ sym c.again.ensures
    ∙ c.if-again.false in
    sym (
    ap (λ (xs : List Entry). verdict_of_test run.plan xs c.args.number) c.conclude.ensures.stopped
    ∙ verdict_with_stop run.plan c.append_reserved.new.entries.items c.args.number
    ∙ ap (λ (xs : List Entry). verdict_of_test run.plan xs c.args.number) c.append_reserved.ensures.items
    ∙ final run.plan es room run.parts c.requires.kept c.args.number c.args.attempt c.args.worker c.args.seen c.requires.holds place at t found same
    ∙ ap (λ (v : Verdict). Some v) (sym c.one-verdict.ensures)
    )
