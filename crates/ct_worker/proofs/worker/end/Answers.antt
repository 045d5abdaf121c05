use Rattle.std.proofs.Common.{◌∙◌, sym, ap, subst, ℕ, refl}
use Rattle.std.specs.Prelude.{is_some}
use Rattle.ct_history.specs.declared.plan.PlanParts.{PlanParts}
use Rattle.ct_turn.specs.Pass.{idle_pass}
use Rattle.ct_turn.specs.Seen.{moment}
use Rattle.ct_worker.proofs.EventLemmas.{IsStep, begins, end_step, ends, free, gave_back, idle_after, known_after_end, may_finish, may_give, next_step, plan_stays, step_then, suits_after}
use Rattle.ct_worker.proofs.worker.end.Goals as goal

pub finish-requires : goal.finish-requires
finish-requires g c = may_finish c.args.pass.now.known c.take-state.result c.take-state.ensures.suits c.args.ticket c.requires.holds c.args.seen

pub next_of-answer-requires : goal.next_of-answer-requires
next_of-answer-requires g c =
    let known = c.args.pass.now.known in
    let old = c.take-state.result in
    let finished = c.finish.new.self in
    let suits = suits_after known old c.take-state.ensures.suits c.args.ticket c.requires.holds c.args.seen finished c.finish.ensures.finished c.finish.ensures.legal in
    let idle = idle_after known old c.take-state.ensures.suits c.args.ticket c.requires.holds c.args.seen finished c.finish.ensures.finished c.finish.ensures.legal in
    free c.args.worker (known_after_end known old c.take-state.ensures.suits c.args.ticket c.requires.holds c.args.seen finished c.finish.ensures.finished c.finish.ensures.legal) finished c.requires.worker suits idle

pub give-requires-clause-continues : goal.give-requires-clause-continues
give-requires-clause-continues g c =
    let known = c.args.pass.now.known in
    let old = c.take-state.result in
    let finished = c.finish.new.self in
    let new = c.next_of-answer.new.state in
    let suits = suits_after known old c.take-state.ensures.suits c.args.ticket c.requires.holds c.args.seen finished c.finish.ensures.finished c.finish.ensures.legal in
    let idle = idle_after known old c.take-state.ensures.suits c.args.ticket c.requires.holds c.args.seen finished c.finish.ensures.finished c.finish.ensures.legal in
    let seen = known_after_end known old c.take-state.ensures.suits c.args.ticket c.requires.holds c.args.seen finished c.finish.ensures.finished c.finish.ensures.legal in
    let ended = end_step known old c.take-state.ensures.suits c.args.ticket c.requires.holds c.args.seen finished c.finish.ensures.finished c.finish.ensures.legal in
    let began = next_step c.args.worker seen finished c.requires.worker suits idle new c.next_of-answer.ensures.legal c.next_of-answer.result.next c.next_of-answer.ensures.next in
    may_give c.args.pass.now c.take-state.new.pass old new c.take-state.ensures.pass c.take-state.ensures.suits
    (step_then known.worker old finished new ended (subst (λ (w : ℕ). IsStep w finished new) (sym c.requires.worker) began))

pub returns-clause-ends : goal.returns-clause-ends
returns-clause-ends g c =
    let known = c.args.pass.now.known in
    let old = c.take-state.result in
    let finished = c.finish.new.self in
    let new = c.next_of-answer.new.state in
    let suits = suits_after known old c.take-state.ensures.suits c.args.ticket c.requires.holds c.args.seen finished c.finish.ensures.finished c.finish.ensures.legal in
    let idle = idle_after known old c.take-state.ensures.suits c.args.ticket c.requires.holds c.args.seen finished c.finish.ensures.finished c.finish.ensures.legal in
    let seen = known_after_end known old c.take-state.ensures.suits c.args.ticket c.requires.holds c.args.seen finished c.finish.ensures.finished c.finish.ensures.legal in
    let middle = idle_pass c.args.pass.now.turn seen in
    let gave = gave_back c.args.pass.now c.take-state.new.pass c.give.new.pass (moment old.entries (is_some old.halt)) (moment new.entries (is_some new.halt)) c.take-state.ensures.pass c.give.ensures in record {
      middle = middle;
      ended = ends known old c.take-state.ensures.suits c.args.ticket c.requires.holds c.args.seen finished c.finish.ensures.finished c.finish.ensures.legal c.args.pass.now refl c.requires.idle middle refl;
      asked = begins c.args.worker seen finished c.requires.worker suits idle new c.next_of-answer.ensures.legal middle refl refl c.give.new.pass gave c.next_of-answer.result.next c.next_of-answer.ensures.next;
    }

pub returns-clause-lends : goal.returns-clause-lends
returns-clause-lends g c =
    let finished = c.finish.new.self in
    let suits = suits_after c.args.pass.now.known c.take-state.result c.take-state.ensures.suits c.args.ticket c.requires.holds c.args.seen finished c.finish.ensures.finished c.finish.ensures.legal in
    let same = plan_stays c.args.worker c.next_of-answer.result.next finished c.next_of-answer.new.state c.next_of-answer.ensures.next in
    c.next_of-answer.ensures.lends ∙ ap (λ (p : PlanParts). is_some p.resources) (same ∙ suits.plan)
