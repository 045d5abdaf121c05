use Rattle.std.proofs.Common.{◌∙◌, sym, ap, ◌+◌, ◌≤◌, ◌<◌, arith, drop, length, Bool}
use Rattle.std.specs.Prelude.{◌||◌}
use Rattle.ct_worker.specs.Gates.{some_hits}
use Rattle.ct_worker.proofs.ListenerLemmas.{scan_here, scans_done}
use Rattle.ct_worker.proofs.listener.some_ended.Goals as goal

pub returns-then-ended : goal.returns-then-ended
returns-then-ended c patterns text stand =
    let rest = c.loop-scan.invariant patterns text stand in
    let inside : c.loop-scan.scan-index < length c.args.scans.now = omega arith in
    let here = scan_here c.loop-scan.scan-index patterns c.args.scans.now text c.scan-item.result c.ended.result inside c.scan-item.is c.ended.ensures rest.0 in
    sym (sym rest.1 ∙ here.0 ∙ ap (λ (b : Bool). b || some_hits (drop (c.loop-scan.scan-index + 1) patterns) text) c.if-ended.true)

pub loop-scan-preserved : goal.loop-scan-preserved
loop-scan-preserved c patterns text stand =
    let rest = c.loop-scan.invariant patterns text stand in
    let inside : c.loop-scan.scan-index < length c.args.scans.now = omega arith in
    let here = scan_here c.loop-scan.scan-index patterns c.args.scans.now text c.scan-item.result c.ended.result inside c.scan-item.is c.ended.ensures rest.0 in
    (here.1, sym (here.0 ∙ ap (λ (b : Bool). b || some_hits (drop (c.loop-scan.scan-index + 1) patterns) text) c.if-ended.false) ∙ rest.1)

pub returns : goal.returns
returns c patterns text stand =
    let rest = c.loop-scan.invariant patterns text stand in
    let done : length c.args.scans.now ≤ c.loop-scan.scan-index = omega arith in
    sym (sym rest.1 ∙ scans_done c.loop-scan.scan-index patterns c.args.scans.now text done rest.0)
