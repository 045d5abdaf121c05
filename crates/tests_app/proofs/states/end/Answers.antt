use Rattle.std.proofs.Common.{refl}
use Rattle.std.specs.Prelude.{is_some}
use Rattle.ct_turn.specs.Seen.{moment}
use Rattle.ct_worker.proofs.EventLemmas.{end_step, ends, gave_back, may_finish, may_give}
use Rattle.tests_app.proofs.states.end.Goals as goal

pub finish-requires : goal.finish-requires
finish-requires g c = may_finish c.args.pass.now.known c.take-state.result c.take-state.ensures.suits c.args.ticket c.requires.holds c.args.seen

pub give-requires-clause-continues : goal.give-requires-clause-continues
give-requires-clause-continues g c =
    may_give c.args.pass.now c.take-state.new.pass c.take-state.result c.finish.new.self c.take-state.ensures.pass c.take-state.ensures.suits
    (end_step c.args.pass.now.known c.take-state.result c.take-state.ensures.suits c.args.ticket c.requires.holds c.args.seen c.finish.new.self c.finish.ensures.finished c.finish.ensures.legal)

pub returns : goal.returns
returns g c =
    let new = c.finish.new.self in
    let gave = gave_back c.args.pass.now c.take-state.new.pass c.give.new.pass (moment c.take-state.result.entries (is_some c.take-state.result.halt)) (moment new.entries (is_some new.halt)) c.take-state.ensures.pass c.give.ensures in
    ends c.args.pass.now.known c.take-state.result c.take-state.ensures.suits c.args.ticket c.requires.holds c.args.seen new c.finish.ensures.finished c.finish.ensures.legal c.args.pass.now refl c.requires.idle c.give.new.pass gave
