use Rattle.std.proofs.Common.{◌∙◌, sym, ap, subst, Bool}
use Rattle.std.specs.Prelude.{is_some}
use Rattle.ct_core.specs.Ticket.{run_of}
use Rattle.ct_turn.specs.Pass.{PassValue}
use Rattle.ct_worker.specs.Attempt.{RunsAttempt}
use Rattle.ct_worker.specs.Gates.{terms_of}
use Rattle.ct_worker.specs.Work.{GoesAlong, terms_in}
use Rattle.ct_worker.proofs.WorkLemmas.{along_none, along_then_stays, done_stays, settled_stays, way_attempt, way_lends}
use Rattle.ct_worker.proofs.worker.attend.Goals as goal

pub loop-init : goal.loop-init
loop-init g c = (
  record {
    before = c.args.pass.now;
    along = along_none (terms_in c.args.jobs.now c.args.pass.now.known.plan) c.args.pass.now (g.G.Gate.tells c.args.gate.now) c.requires.idle.1;
    asked = c.begin-answer.ensures.begins;
  },
  c.begin-answer.ensures.lends,
)

pub returns-in-Done-clause-along : goal.returns-in-Done-clause-along
returns-in-Done-clause-along g c =
    let way = c.loop.invariant.0 in
    along_then_stays (terms_in c.args.jobs.now c.args.pass.now.known.plan) c.args.pass.now c.loop.pass (g.G.Gate.tells c.args.gate.now) (g.G.Gate.tells c.loop.gate) c.loop.answer.next way
    (done_stays c.loop.answer.next way.before c.loop.pass way.asked.follows c.in-Done.is)

pub loop-preserved-in-Start : goal.loop-preserved-in-Start
loop-preserved-in-Start g c =
    let terms = terms_in c.args.jobs.now c.args.pass.now.known.plan in
    let way = c.loop.invariant.0 in
    let starts = rw c.in-Start.is at way.asked.follows in
    let runs = subst (λ (b : Bool). RunsAttempt (terms_of c.args.jobs.now b) c.loop.pass (run_of c.in-Start.ticket) c.ask-seen.result (g.G.Gate.tells c.loop.gate) (g.G.Gate.tells c.ask-seen.new.gate)) c.loop.invariant.1 c.ask-seen.ensures in (
      way_attempt terms c.args.pass.now c.loop.pass c.end.new.pass (g.G.Gate.tells c.args.gate.now) (g.G.Gate.tells c.loop.gate) (g.G.Gate.tells c.ask-seen.new.gate) c.loop.answer.next c.end.result.next c.in-Start.ticket c.ask-seen.result way starts runs c.end.ensures.ends,
      way_lends terms c.args.pass.now c.loop.pass (g.G.Gate.tells c.args.gate.now) (g.G.Gate.tells c.loop.gate) c.loop.answer.next c.end.result.lends way c.end.ensures.lends,
    )

pub loop-preserved-in-Wait : goal.loop-preserved-in-Wait
loop-preserved-in-Wait g c =
    let terms = terms_in c.args.jobs.now c.args.pass.now.known.plan in
    let way = c.loop.invariant.0 in
    let stays = rw c.in-Wait.is at way.asked.follows in
    let along = along_then_stays terms c.args.pass.now c.loop.pass (g.G.Gate.tells c.args.gate.now) (g.G.Gate.tells c.loop.gate) c.loop.answer.next way stays in (
      record {
        before = c.pause.new.pass;
        along = subst (λ (p : PassValue). GoesAlong terms c.args.pass.now p (g.G.Gate.tells c.args.gate.now) (g.G.Gate.tells c.loop.gate)) (sym c.pause.ensures) along;
        asked = c.begin.ensures.begins;
      },
      way_lends terms c.args.pass.now c.loop.pass (g.G.Gate.tells c.args.gate.now) (g.G.Gate.tells c.loop.gate) c.loop.answer.next c.begin.result.lends way
          (c.begin.ensures.lends ∙ ap (λ (p : PassValue). is_some p.known.plan.resources) c.pause.ensures),
    )

pub loop-preserved : goal.loop-preserved
loop-preserved g c =
    let terms = terms_in c.args.jobs.now c.args.pass.now.known.plan in
    let way = c.loop.invariant.0 in
    let stays = settled_stays c.loop.answer.next way.before c.loop.pass way.asked.follows c.in-Settled.is in (
      record {
        before = c.loop.pass;
        along = along_then_stays terms c.args.pass.now c.loop.pass (g.G.Gate.tells c.args.gate.now) (g.G.Gate.tells c.loop.gate) c.loop.answer.next way stays;
        asked = c.begin-in-Settled.ensures.begins;
      },
      way_lends terms c.args.pass.now c.loop.pass (g.G.Gate.tells c.args.gate.now) (g.G.Gate.tells c.loop.gate) c.loop.answer.next c.begin-in-Settled.result.lends way c.begin-in-Settled.ensures.lends,
    )
