use Rattle.std.proofs.Common.{take, ◌++◌}
use Rattle.ct_base.proofs.ListLemmas.{parts-more}
use Rattle.ct_edge.proofs.TransferLemmas.{adds-more}
use Rattle.ct_edge.proofs.transfer.write_whole.Goals as goal

pub loop-preserved : goal.loop-preserved
loop-preserved g c =
    let was = c.loop.invariant in
    let left = c.loop.left.now in
    let front = take c.in_ok-taken.taken left in
    let held = g.W.Write.contents in (
      was.0 ++ front,
      parts-more c.args.piece.now was.0 left c.in_ok-taken.taken was.1,
      adds-more (held c.args.writer.now) (held c.loop.writer) (held c.write.new.self) was.0 front was.2 c.in_ok-taken.ensures.bytes,
    )
