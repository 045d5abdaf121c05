use borrow.Author.Rules.{rules}
use denote.Param.{param}
use denote.Param.Send.{IsSend, IsSync}
use Rattle.std.proofs.Common.{refl}
use Rattle.ct_worker.proofs.CrewLemmas.{part_halves, ready_halves}
use Rattle.ct_worker.proofs.CrossLemmas.{closure_send}
use Rattle.ct_worker.proofs.crew.+crew.Goals as goal

pub both-join_mut-requires-send-F : goal.both-join_mut-requires-send-F
both-join_mut-requires-send-F g t c κs within =
    let rt : IsSync (param 0 g.row.R) = search rules in
    let gate : IsSend (param 1 g.row.G) = search rules in
    let sink : IsSend (param 2 g.row.S) = search rules in
    closure_send (param 0 g.row.R) (param 1 g.row.G) (param 2 g.row.S) g.S.Sink _ _ _ _ _ _ _ _ _ _ _ rt gate sink

pub both-join_mut-requires-after_bounds : goal.both-join_mut-requires-after_bounds
both-join_mut-requires-after_bounds g t c κs within =
    let cut = c.split_at_mut-low in
    let halves = ready_halves c.args.jobs.now c.args.turn.now c.args.worker _ _ c.args.passes.now cut.result.0.now cut.result.1.now cut.ensures.value cut.ensures.front_len refl c.requires.ready in
    search rules

pub both-returns : goal.both-returns
both-returns g t c = search (rules, part_halves)
