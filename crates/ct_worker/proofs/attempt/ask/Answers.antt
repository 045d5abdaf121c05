use Rattle.std.proofs.Common.{◌≡◌, ℕ, subst}
use Rattle.std.specs.Prelude.{Some}
use Rattle.ct_props.specs.Numbered.{at_number}
use Rattle.ct_core.specs.Ticket.{run_of}
use Rattle.ct_worker.specs.Gates.{terms_of}
use Rattle.ct_worker.proofs.AskLemmas.{ran_attempt, unasked_attempt}
use Rattle.ct_worker.proofs.attempt.ask.Goals as goal

pub returns : goal.returns
returns g c =
    let there = subst (λ (n : ℕ). at_number c.args.jobs.now.defs.now n ≡ Some c.def-def.result.now) c.test.ensures c.def-def.ensures in
    let has = subst (λ (n : ℕ). at_number c.args.jobs.now.props.now n ≡ Some c.props-props.result.now) c.test-2.ensures c.props-props.ensures in
    ran_attempt (terms_of c.args.jobs.now c.args.lends) c.args.pass.now (run_of c.args.ticket.now) c.def-def.result.now c.props-props.result.now there has c.in-Ok.request c.in-Ok.ensures (g.G.Gate.tells c.args.gate.now) (g.G.Gate.tells c.run-ended.new.self) c.in-Ok-new.ear c.run-ended.new.ear c.in-Ok-new.ensures.hears c.in-Ok-new.ensures.props c.run-ended.ensures.kept c.run-ended.result c.seen.result c.run-ended.ensures.runs c.seen.ensures.seen c.seen.ensures.how
