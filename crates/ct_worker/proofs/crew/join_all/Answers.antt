use Rattle.std.proofs.Common.{◌∙◌, ap}
use Rattle.ct_turn.specs.Pass.{PassValue}
use Rattle.ct_worker.proofs.CrewLemmas.{join_known, join_own, joined_worker}
use Rattle.ct_worker.proofs.crew.join_all.Goals as goal

pub join-requires-clause-opener : goal.join-requires-clause-opener
join-requires-clause-opener g c =
    ap (λ (p : PassValue). p.known.worker) c.loop-pass.invariant.known ∙ joined_worker c.args.first.now.known c.loop-pass.yielded ∙ c.requires.opener

pub loop-pass-preserved : goal.loop-pass-preserved
loop-pass-preserved g c =
    let so_far = c.loop-pass.invariant in
    let joined = c.join.ensures in
    record {
      known = join_known c.args.first.now c.loop-pass.first c.join.new.pass c.in-Some.pass c.loop-pass.yielded so_far.known joined.pass;
      own = join_own c.args.first.now c.loop-pass.first c.join.new.pass c.in-Some.pass c.loop-pass.yielded so_far.known so_far.own joined.own;
      held = joined.held ∙ so_far.held;
    }
