use Rattle.std.proofs.Common.{◌∙◌, sym, ap, subst, ℕ, refl}
use Rattle.std.specs.Prelude.{is_some}
use Rattle.ct_history.specs.declared.plan.PlanParts.{PlanParts}
use Rattle.ct_turn.specs.Seen.{moment}
use Rattle.ct_worker.proofs.EventLemmas.{IsStep, begins, free, gave_back, may_give, next_step, plan_stays}
use Rattle.ct_worker.proofs.worker.begin.Goals as goal

pub next_of-answer-requires : goal.next_of-answer-requires
next_of-answer-requires g c = free c.args.worker c.args.pass.now.known c.take-state.result c.requires.worker c.take-state.ensures.suits c.requires.idle.1

pub give-requires-clause-continues : goal.give-requires-clause-continues
give-requires-clause-continues g c =
    let new = c.next_of-answer.new.state in
    let step = next_step c.args.worker c.args.pass.now.known c.take-state.result c.requires.worker c.take-state.ensures.suits c.requires.idle.1 new c.next_of-answer.ensures.legal c.next_of-answer.result.next c.next_of-answer.ensures.next in
    may_give c.args.pass.now c.take-state.new.pass c.take-state.result new c.take-state.ensures.pass c.take-state.ensures.suits (subst (λ (w : ℕ). IsStep w c.take-state.result new) (sym c.requires.worker) step)

pub returns-clause-begins : goal.returns-clause-begins
returns-clause-begins g c =
    let new = c.next_of-answer.new.state in
    let gave = gave_back c.args.pass.now c.take-state.new.pass c.give.new.pass (moment c.take-state.result.entries (is_some c.take-state.result.halt)) (moment new.entries (is_some new.halt)) c.take-state.ensures.pass c.give.ensures in
    begins c.args.worker c.args.pass.now.known c.take-state.result c.requires.worker c.take-state.ensures.suits c.requires.idle.1 new c.next_of-answer.ensures.legal c.args.pass.now refl c.requires.idle.0 c.give.new.pass gave c.next_of-answer.result.next c.next_of-answer.ensures.next

pub returns-clause-lends : goal.returns-clause-lends
returns-clause-lends g c =
    let same = plan_stays c.args.worker c.next_of-answer.result.next c.take-state.result c.next_of-answer.new.state c.next_of-answer.ensures.next in
    c.next_of-answer.ensures.lends ∙ ap (λ (p : PlanParts). is_some p.resources) (same ∙ c.take-state.ensures.suits.plan)
