use Rattle.std.proofs.Common.{take}
use Rattle.ct_edge.proofs.KeepLemmas.{moves_piece}
use Rattle.ct_edge.proofs.pipe.keep_piece.Goals as goal

pub returns-clause-moved : goal.returns-clause-moved
returns-clause-moved g c = moves_piece (g.R.Read.remaining c.args.errors.now) (g.R.Read.remaining c.read.new.self) (g.K.Keep.holds c.args.kept.now) (g.K.Keep.holds c.keep.new.self) (take c.in_ok-got.got c.read.new.buf) c.in_ok-got.ensures.bytes.0 c.in_ok-keep.ensures
