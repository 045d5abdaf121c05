use Rattle.std.proofs.Common.{◌≡◌, ◌∙◌, refl, sym, ap, subst, ℕ, List, get_or, true, false}
use Rattle.std.specs.Prelude.{Option, is_some}
use Rattle.ct_verdict.specs.declared.verdict.Cause.{Cause}
use Rattle.ct_history.specs.Plan.{IsPlaceOf}
use Rattle.ct_history.specs.declared.plan.PlanTest.{PlanTest}
use Rattle.ct_history.specs.declared.plan.PlanParts.{PlanParts}
use Rattle.ct_core.specs.Waiting.{cause_then}
use Rattle.ct_queue.specs.Ready.{ReadyValue, StandsIn, is_in_ready_set, lowered}
use Rattle.ct_core.specs.Run.{history_of_run}
use Rattle.ct_core.specs.Parts.{followers_at}
use Rattle.ct_core.proofs.NoteLemmas.{found_here, open_one, read_waiting, settles, settles_not, stands_in, waits_on}
use Rattle.ct_core.proofs.run.Run.lower_follower.Goals as goal

pub lower-requires-clause-stands : goal.lower-requires-clause-stands
lower-requires-clause-stands c =
    let run = c.args.self.now in
    let es = history_of_run run in
    let x = get_or c.as_slice.result.now c.args.at 0 in
    let ws : c.as_slice.result.now ≡ followers_at run.parts c.args.place = c.as_slice.ensures ∙ read_waiting run.plan es run.parts c.args.place c.requires.current c.requires.there c.index.result.now c.index.ensures in
    let is : x ≡ get_or (followers_at run.parts c.args.place) c.args.at 0 = ap (λ (l : List ℕ). get_or l c.args.at 0) ws in
    stands_in run.plan c.requires.current.sound es c.requires.goes_on run.parts c.requires.current c.args.place c.args.at x c.requires.there c.requires.within is c.requires.queued

pub lower-requires-clause-open_before : goal.lower-requires-clause-open_before
lower-requires-clause-open_before c =
    let run = c.args.self.now in
    let es = history_of_run run in
    let x = get_or c.as_slice.result.now c.args.at 0 in
    let ws : c.as_slice.result.now ≡ followers_at run.parts c.args.place = c.as_slice.ensures ∙ read_waiting run.plan es run.parts c.args.place c.requires.current c.requires.there c.index.result.now c.index.ensures in
    let is : x ≡ get_or (followers_at run.parts c.args.place) c.args.at 0 = ap (λ (l : List ℕ). get_or l c.args.at 0) ws in
    open_one run.plan c.requires.current.sound es c.requires.goes_on run.parts c.requires.current c.args.place c.args.at x c.requires.there c.requires.within is c.requires.queued

pub is_ready-requires : goal.is_ready-requires
is_ready-requires c =
    let run = c.args.self.now in
    let es = history_of_run run in
    let x = get_or c.as_slice.result.now c.args.at 0 in
    let ws : c.as_slice.result.now ≡ followers_at run.parts c.args.place = c.as_slice.ensures ∙ read_waiting run.plan es run.parts c.args.place c.requires.current c.requires.there c.index.result.now c.index.ensures in
    let is : x ≡ get_or (followers_at run.parts c.args.place) c.args.at 0 = ap (λ (l : List ℕ). get_or l c.args.at 0) ws in
    record { stands = subst (λ (r : ReadyValue). StandsIn r.order x) (sym c.lower.ensures) (stands_in run.plan c.requires.current.sound es c.requires.goes_on run.parts c.requires.current c.args.place c.args.at x c.requires.there c.requires.within is c.requires.queued) }

pub returns-then-not-is_ready-clause-queued : goal.returns-then-not-is_ready-clause-queued
returns-then-not-is_ready-clause-queued c =
    let run = c.args.self.now in
    let es = history_of_run run in
    let x = get_or c.as_slice.result.now c.args.at 0 in
    let ws : c.as_slice.result.now ≡ followers_at run.parts c.args.place = c.as_slice.ensures ∙ read_waiting run.plan es run.parts c.args.place c.requires.current c.requires.there c.index.result.now c.index.ensures in
    let is : x ≡ get_or (followers_at run.parts c.args.place) c.args.at 0 = ap (λ (l : List ℕ). get_or l c.args.at 0) ws in
    let waits : is_in_ready_set (lowered run.parts.ready x) x ≡ false = sym (ap (λ (r : ReadyValue). is_in_ready_set r x) c.lower.ensures) ∙ sym c.is_ready.ensures ∙ c.if-not-is_ready.true in
    waits_on run.plan c.requires.current.sound es c.requires.goes_on run.parts c.requires.current c.args.place c.args.at x c.requires.there c.requires.within is c.requires.queued (record run.parts { ready = c.lower.new.self }) c.lower.ensures refl waits refl

pub returns-then-is_some-clause-queued : goal.returns-then-is_some-clause-queued
returns-then-is_some-clause-queued c =
    let run = c.args.self.now in
    let es = history_of_run run in
    let x = get_or c.as_slice.result.now c.args.at 0 in
    let ws : c.as_slice.result.now ≡ followers_at run.parts c.args.place = c.as_slice.ensures ∙ read_waiting run.plan es run.parts c.args.place c.requires.current c.requires.there c.index.result.now c.index.ensures in
    let is : x ≡ get_or (followers_at run.parts c.args.place) c.args.at 0 = ap (λ (l : List ℕ). get_or l c.args.at 0) ws in
    let tests : c.as_slice-tests.result.now ≡ run.plan.tests = c.as_slice-tests.ensures ∙ ap (λ (p : PlanParts). p.tests) c.parts.ensures.is in
    let here = subst (λ (ts : List PlanTest). IsPlaceOf ts x c.expect_place-here.result) tests c.expect_place-here.ensures in
    let t = c.index-tests-here.result in
    let read : t ≡ get_or run.plan.tests c.expect_place-here.result t = c.index-tests-here.is ∙ ap (λ (ts : List PlanTest). get_or ts c.expect_place-here.result t) tests in
    let found = found_here run.plan.tests x c.expect_place-here.result t here read in
    let now : is_in_ready_set (lowered run.parts.ready x) x ≡ true = sym (ap (λ (r : ReadyValue). is_in_ready_set r x) c.lower.ensures) ∙ sym c.is_ready.ensures ∙ c.if-not-is_ready.false in
    let some : is_some (cause_then run.plan es t) ≡ true = sym (ap (λ (o : Option Cause). is_some o) c.cause_then.ensures) ∙ sym c.is_some.ensures ∙ c.if-is_some.true in
    settles run.plan c.requires.current.sound es c.requires.goes_on run.parts c.requires.current c.args.place c.args.at x c.requires.there c.requires.within is c.requires.queued (record run.parts { ready = c.lower.new.self; settleable = c.set.new.self }) c.lower.ensures refl t c.expect_place-here.result found here now some c.set.ensures

pub returns-else-is_some-clause-queued : goal.returns-else-is_some-clause-queued
returns-else-is_some-clause-queued c =
    let run = c.args.self.now in
    let es = history_of_run run in
    let x = get_or c.as_slice.result.now c.args.at 0 in
    let ws : c.as_slice.result.now ≡ followers_at run.parts c.args.place = c.as_slice.ensures ∙ read_waiting run.plan es run.parts c.args.place c.requires.current c.requires.there c.index.result.now c.index.ensures in
    let is : x ≡ get_or (followers_at run.parts c.args.place) c.args.at 0 = ap (λ (l : List ℕ). get_or l c.args.at 0) ws in
    let tests : c.as_slice-tests.result.now ≡ run.plan.tests = c.as_slice-tests.ensures ∙ ap (λ (p : PlanParts). p.tests) c.parts.ensures.is in
    let here = subst (λ (ts : List PlanTest). IsPlaceOf ts x c.expect_place-here.result) tests c.expect_place-here.ensures in
    let t = c.index-tests-here.result in
    let read : t ≡ get_or run.plan.tests c.expect_place-here.result t = c.index-tests-here.is ∙ ap (λ (ts : List PlanTest). get_or ts c.expect_place-here.result t) tests in
    let found = found_here run.plan.tests x c.expect_place-here.result t here read in
    let now : is_in_ready_set (lowered run.parts.ready x) x ≡ true = sym (ap (λ (r : ReadyValue). is_in_ready_set r x) c.lower.ensures) ∙ sym c.is_ready.ensures ∙ c.if-not-is_ready.false in
    let none : is_some (cause_then run.plan es t) ≡ false = sym (ap (λ (o : Option Cause). is_some o) c.cause_then.ensures) ∙ sym c.is_some.ensures ∙ c.if-is_some.false in
    settles_not run.plan c.requires.current.sound es c.requires.goes_on run.parts c.requires.current c.args.place c.args.at x c.requires.there c.requires.within is c.requires.queued (record run.parts { ready = c.lower.new.self }) c.lower.ensures refl t c.expect_place-here.result found here now none refl
