use Rattle.std.proofs.Common.{◌≡◌, ◌∙◌, ◌+◌, ◌<◌, ◌^◌, ℕ, List, ap, subst, sym, true, length, arith}
use Rattle.std.specs.Prelude.{Option}
use Rattle.ct_history.specs.Plan.{IsPlaceOf}
use Rattle.ct_history.specs.declared.plan.PlanTest.{PlanTest}
use Rattle.ct_history.specs.declared.plan.PlanParts.{PlanParts}
use Rattle.ct_history.specs.History.{attempts_of}
use Rattle.ct_history.specs.Rules.{may_start_if_placed}
use Rattle.ct_core.specs.Choice.{attempt_after, may_start_if_placed_at}
use Rattle.ct_core.specs.Run.{history_of_run}
use Rattle.ct_core.proofs.ChoiceLemmas.{attempt_fits, attempts_stand, due_stands}
use Rattle.ct_core.proofs.run.Run.next_attempt.Goals as goal

pub overflow_add-result : goal.overflow_add-result
overflow_add-result c =
    let run = c.args.self.now in
    let t = c.requires.due.test in
    let ended = length (attempts_of t.number t.rules (history_of_run run)) in
    let here = subst (λ (ts : List PlanTest). IsPlaceOf ts c.args.number c.expect_place-place.result) (c.as_slice.ensures ∙ ap (λ (p : PlanParts). p.tests) c.parts-plan.ensures.is) c.expect_place-place.ensures in
    let stands = due_stands run.plan (history_of_run run) run.parts c.args.number c.expect_place-place.result c.index.result.now c.requires.kept.current c.requires.due here c.index.ensures in
    let count : c.in-Pending.attempts ≡ ended = attempts_stand c.index.result.now c.in-Pending.attempts ended c.in-Pending.is stands in
    let read : c.parts-plan.result.now.repeat.times < 2 ^ 32 = omega arith in
    let small = subst (λ (p : PlanParts). p.repeat.times < 2 ^ 32) c.parts-plan.ensures.is read in
    let may : may_start_if_placed run.plan t (history_of_run run) ≡ true = sym (ap (λ (o : Option PlanTest). may_start_if_placed_at run.plan (history_of_run run) o) c.requires.due.planned) ∙ c.requires.may in
    omega (arith, count, attempt_fits run.plan t (history_of_run run) may small)

pub unreachable-requires : goal.unreachable-requires
unreachable-requires c =
    let run = c.args.self.now in
    let t = c.requires.due.test in
    let here = subst (λ (ts : List PlanTest). IsPlaceOf ts c.args.number c.expect_place-place.result) (c.as_slice.ensures ∙ ap (λ (p : PlanParts). p.tests) c.parts-plan.ensures.is) c.expect_place-place.ensures in
    let stands = due_stands run.plan (history_of_run run) run.parts c.args.number c.expect_place-place.result c.index.result.now c.requires.kept.current c.requires.due here c.index.ensures in
    c.in_default.not-Pending (length (attempts_of t.number t.rules (history_of_run run))) stands

pub returns : goal.returns
returns c =
    let run = c.args.self.now in
    let t = c.requires.due.test in
    let ended = length (attempts_of t.number t.rules (history_of_run run)) in
    let here = subst (λ (ts : List PlanTest). IsPlaceOf ts c.args.number c.expect_place-place.result) (c.as_slice.ensures ∙ ap (λ (p : PlanParts). p.tests) c.parts-plan.ensures.is) c.expect_place-place.ensures in
    let stands = due_stands run.plan (history_of_run run) run.parts c.args.number c.expect_place-place.result c.index.result.now c.requires.kept.current c.requires.due here c.index.ensures in
    let count : c.in-Pending.attempts ≡ ended = attempts_stand c.index.result.now c.in-Pending.attempts ended c.in-Pending.is stands in
    ap (λ (k : ℕ). k + 1) count ∙ sym (ap (λ (o : Option PlanTest). attempt_after (history_of_run run) o) c.requires.due.planned)
