use Rattle.std.proofs.Common.{◌≡◌, ◌∙◌, ◌≤◌, ◌∷◌, ◌++◌, [], List, true, false, sym, ap, subst}
use Rattle.std.specs.Prelude.{◌&&◌, is_some, vec_capacity}
use Rattle.ct_verdict.specs.Verdict.{is_failing_verdict}
use Rattle.ct_history.specs.declared.plan.PlanParts.{PlanParts}
use Rattle.ct_history.specs.declared.plan.PlanTest.{PlanTest}
use Rattle.ct_history.specs.Plan.{IsPlaceOf, test_at}
use Rattle.ct_history.specs.declared.history.Entry.{Entry}
use Rattle.ct_history.specs.declared.history.Entry.TheVariants.{Stop}
use Rattle.ct_history.specs.declared.history.History.{History}
use Rattle.ct_history.specs.History.{has_stop}
use Rattle.ct_core.specs.Parts.{IsKept}
use Rattle.ct_core.specs.Run.{history_of_run}
use Rattle.ct_core.proofs.ConcludeLemmas.{due_here, followers_here, is_planned, kept_halted}
use Rattle.ct_core.proofs.NoteLemmas.{followers_are}
use Rattle.ct_core.proofs.run.Run.conclude.Goals as goal

pub expect_place-place-requires-clause-there : goal.expect_place-place-requires-clause-there
expect_place-place-requires-clause-there c =
    let run = c.args.self.now in
    let tests : c.as_slice.result.now ≡ run.plan.tests = c.as_slice.ensures ∙ ap (λ (p : PlanParts). p.tests) c.parts.ensures.is in
    ap (λ (ts : List PlanTest). is_some (test_at ts c.args.number)) tests
    ∙ is_planned run.plan (history_of_run run) (test_at run.plan.tests c.args.number) c.args.verdict c.requires.concluding.final

pub lower_followers-requires-clause-queued : goal.lower_followers-requires-clause-queued
lower_followers-requires-clause-queued c =
    let run = c.args.self.now in
    let es = history_of_run run in
    let current = c.requires.concluding.current in
    let going : has_stop es ≡ false = sym current.stopped ∙ c.if-self.false in
    let tests : c.as_slice.result.now ≡ run.plan.tests = c.as_slice.ensures ∙ ap (λ (p : PlanParts). p.tests) c.parts.ensures.is in
    let at = subst (λ (ts : List PlanTest). IsPlaceOf ts c.args.number c.expect_place-place.result) tests c.expect_place-place.ensures in
    followers_here run.plan es (vec_capacity run.history.entries) c.args.number c.args.verdict run.parts c.requires.concluding c.expect_place-place.result at
    (followers_are run.plan es run.parts c.args.number c.expect_place-place.result current at) going

pub returns-then-stops_at-clause-kept : goal.returns-then-stops_at-clause-kept
returns-then-stops_at-clause-kept c =
    let run = c.args.self.now in
    let low = c.lower_followers.new.self in
    let es = history_of_run run in
    let current = c.requires.concluding.current in
    let room = vec_capacity run.history.entries in
    let room' = vec_capacity c.append_reserved.new.entries in
    let going : has_stop es ≡ false = sym current.stopped ∙ c.if-self.false in
    let stops : (run.plan.stop_on_failure && is_failing_verdict c.args.verdict) ≡ true = sym (ap (λ (p : PlanParts). p.stop_on_failure && is_failing_verdict c.args.verdict) (c.parts-2.ensures.is ∙ c.lower_followers.ensures.plan)) ∙ sym c.stops_at.ensures ∙ c.if-stops_at.true in
    let due = due_here run.plan es room c.args.number c.args.verdict run.parts c.requires.concluding going true stops in
    let items : c.append_reserved.new.entries.items ≡ es ++ Stop ∷ [] = c.append_reserved.ensures.items ∙ ap (λ (h : History). h.entries.items ++ Stop ∷ []) c.lower_followers.ensures.history in
    let le : room ≤ room' = subst (λ (h : History). vec_capacity h.entries ≤ room') c.lower_followers.ensures.history c.append_reserved.ensures.room in
    subst (λ (p : PlanParts). IsKept p c.append_reserved.new.entries.items room' c.stop.new.self) (sym c.lower_followers.ensures.plan)
    (subst (λ (xs : List Entry). IsKept run.plan xs room' c.stop.new.self) (sym items)
    (kept_halted run.plan es room c.args.number c.args.verdict run.parts c.requires.concluding going due room' le low.parts c.stop.new.self c.lower_followers.ensures.lowered c.lower_followers.ensures.queued c.stop.ensures))
