use Rattle.std.proofs.Common.{sym, subst, ℕ, refl}
use Rattle.std.specs.Prelude.{is_some}
use Rattle.ct_turn.specs.Seen.{moment}
use Rattle.ct_worker.proofs.EventLemmas.{IsStep, begins, free, gave_back, may_give, next_step}
use Rattle.tests_app.proofs.states.begin.Goals as goal

pub next-next-requires : goal.next-next-requires
next-next-requires g c = free c.args.worker c.args.pass.now.known c.take-state.result c.requires.worker c.take-state.ensures.suits c.requires.idle.1

pub give-requires-clause-continues : goal.give-requires-clause-continues
give-requires-clause-continues g c =
    let new = c.next-next.new.self in
    let step = next_step c.args.worker c.args.pass.now.known c.take-state.result c.requires.worker c.take-state.ensures.suits c.requires.idle.1 new c.next-next.ensures.legal c.next-next.result c.next-next.ensures.step in
    may_give c.args.pass.now c.take-state.new.pass c.take-state.result new c.take-state.ensures.pass c.take-state.ensures.suits (subst (λ (w : ℕ). IsStep w c.take-state.result new) (sym c.requires.worker) step)

pub returns : goal.returns
returns g c =
    let new = c.next-next.new.self in
    let gave = gave_back c.args.pass.now c.take-state.new.pass c.give.new.pass (moment c.take-state.result.entries (is_some c.take-state.result.halt)) (moment new.entries (is_some new.halt)) c.take-state.ensures.pass c.give.ensures in
    begins c.args.worker c.args.pass.now.known c.take-state.result c.requires.worker c.take-state.ensures.suits c.requires.idle.1 new c.next-next.ensures.legal c.args.pass.now refl c.requires.idle.0 c.give.new.pass gave c.next-next.result c.next-next.ensures.step
