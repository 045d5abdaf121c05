use Rattle.std.proofs.Common.{◌∙◌, ap, ℕ, get_or}
use Rattle.ct_explain.specs.Picture.{line_of_row, row_line}
use Rattle.ct_explain.proofs.SinkLemmas.{pushed-next}
use Rattle.ct_explain.proofs.frame.push_rows.Goals as goal

pub loop-worker-preserved : goal.loop-worker-preserved
loop-worker-preserved c =
    let workers = c.args.workers.now in
    let at = c.loop-worker.worker-index in
    let worker = get_or workers at 0 in
    pushed-next (row_line workers) workers at 0 c.args.lines.now c.loop-worker.lines c.push.new.self _ c.loop-worker-test.true c.loop-worker.invariant c.in_ok-push.ensures.ok
    (c.in_ok-line.ensures ∙ ap (λ (n : ℕ). line_of_row n worker) c.worker_place.ensures.is)
