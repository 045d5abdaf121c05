use Rattle.std.proofs.Common.{◌∷◌, [], ◌+◌, drop, take, slice_index, length-drop, arith}
use Rattle.std.proofs.lemmas.List.{drop_more, take_rest}
use Rattle.std.proofs.lemmas.Result.{err_from_is_err_and}
use Rattle.ct_suite.proofs.RunLemmas.{run-inner, run-next}
use Rattle.ct_suite.proofs.TakesLemmas.{stands-on, takes-stopped}
use Rattle.ct_suite.proofs.reader.Reader.take_piece.Goals as goal

pub returns-in_err-take_byte : goal.returns-in_err-take_byte
returns-in_err-take_byte c =
    let piece = c.args.piece.now in
    let i = c.loop-at.at in
    let p = err_from_is_err_and c.from_residual.result c.from_residual.ensures.1 in
    rw (p.1, p.2) (takes-stopped c.args.limits.now c.args.self.now c.loop-at.self c.take_byte.new.self piece (drop i piece) (slice_index piece i ∷ []) (drop (i + 1) piece) c.in_err-take_byte.field-0.0 (drop_more piece i 0 c.loop-at-test.true) c.loop-at.invariant.same c.in_err-take_byte.ensures.stopped)

pub returns-in_err-take_run : goal.returns-in_err-take_run
returns-in_err-take_run c =
    let piece = c.args.piece.now in
    let i = c.loop-at.at in
    let n = c.inner_len-inner.result in
    let p = err_from_is_err_and c.from_residual-in_err-take_run.result c.from_residual-in_err-take_run.ensures.1 in
    let took = rw take_rest at c.in_err-take_run.ensures in
    rw (p.1, p.2) (takes-stopped c.args.limits.now c.args.self.now c.loop-at.self c.take_run.new.self piece (drop i piece) (take n (drop i piece)) (drop (i + n) piece) c.in_err-take_run.field-0.0 (run-next piece i n) c.loop-at.invariant.same took.stopped)

pub take_run-requires-clause-inner : goal.take_run-requires-clause-inner
take_run-requires-clause-inner c =
    let run = rw take_rest at c.inner_len-inner.ensures in
    rw take_rest (run-inner (drop c.loop-at.at c.args.piece.now) c.inner_len-inner.result run.count)

pub loop-at-preserved-then-inner-eq0 : goal.loop-at-preserved-then-inner-eq0
loop-at-preserved-then-inner-eq0 c =
    let piece = c.args.piece.now in
    let i = c.loop-at.at in record {
      fits = omega (arith, c.loop-at-test.true);
      within = c.in_ok-take_byte.ensures.within;
      same = stands-on c.args.self.now c.loop-at.self c.take_byte.new.self piece (drop i piece) (slice_index piece i ∷ []) (drop (i + 1) piece) (drop_more piece i 0 c.loop-at-test.true) c.loop-at.invariant.same c.in_ok-take_byte.ensures.taken;
    }

pub loop-at-preserved : goal.loop-at-preserved
loop-at-preserved c =
    let piece = c.args.piece.now in
    let i = c.loop-at.at in
    let n = c.inner_len-inner.result in
    let run = rw take_rest at c.inner_len-inner.ensures in
    let took = rw take_rest at c.in_ok-take_run.ensures in record {
      fits = omega (arith, length-drop i piece, run.within, c.loop-at-test.true);
      within = took.within;
      same = stands-on c.args.self.now c.loop-at.self c.take_run.new.self piece (drop i piece) (take n (drop i piece)) (drop (i + n) piece) (run-next piece i n) c.loop-at.invariant.same took.taken;
    }
