use Rattle.std.proofs.Common.{take}
use Rattle.ct_edge.proofs.HeardLemmas.{consumed}
use Rattle.ct_edge.proofs.pipe.hear_piece.Goals as goal

pub returns-clause-moved : goal.returns-clause-moved
returns-clause-moved g c =
    let heard = take c.in_ok-got.got c.read.new.buf in
    record {
      heard = heard;
      moved = consumed (g.R.Read.remaining c.args.output.now) (g.R.Read.remaining c.read.new.self) heard c.in_ok-got.ensures.bytes.0;
      said = c.hear.ensures.text;
    }
