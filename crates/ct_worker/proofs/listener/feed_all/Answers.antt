use Rattle.std.proofs.Common.{◌<◌, ◌≤◌, arith, length, subst, sym}
use Rattle.ct_regex.specs.declared.scan.Scan.{Scan}
use Rattle.ct_worker.proofs.ListenerLemmas.{IsFed, fed_all, fed_next, fed_none}
use Rattle.ct_worker.proofs.listener.feed_all.Goals as goal

pub loop-scan-init : goal.loop-scan-init
loop-scan-init c = fed_none c.args.piece.now c.args.scans.now

pub loop-scan-preserved : goal.loop-scan-preserved
loop-scan-preserved c =
    let inside : c.loop-scan.scan-index < length c.loop-scan.scans = omega (arith, c.loop-scan.auto.scans) in
    let fed : IsFed c.args.piece.now c.scan-item.result c.feed.new.self = subst (λ (s : Scan). IsFed c.args.piece.now s c.feed.new.self) (sym c.scan-item.is) c.feed.ensures in
    fed_next c.args.piece.now c.loop-scan.scan-index c.args.scans.now c.loop-scan.scans c.scan-item.result c.feed.new.self inside c.scan-item.is fed c.loop-scan.invariant

pub returns : goal.returns
returns c =
    let done : length c.loop-scan.scans ≤ c.loop-scan.scan-index = omega (arith, c.loop-scan.auto.scans) in
    fed_all c.args.piece.now c.args.scans.now c.loop-scan.scans c.loop-scan.scan-index done c.loop-scan.invariant
