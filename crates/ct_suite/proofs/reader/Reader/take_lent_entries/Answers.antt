use Rattle.std.proofs.Common.{[]}
use Rattle.std.proofs.lemmas.Result.{err_from_is_err_and}
use Rattle.ct_suite.proofs.TakesLemmas.{entries-ended, entries-long, entries-stopped}
use Rattle.ct_suite.proofs.reader.Reader.take_lent_entries.Goals as goal

pub returns-in_err-take_piece-clause-stopped : goal.returns-in_err-take_piece-clause-stopped
returns-in_err-take_piece-clause-stopped c =
    let p = err_from_is_err_and c.from_residual.result c.from_residual.ensures.1 in
    rw (p.1, p.2) (entries-stopped c.args.limits.now c.args.self.now c.args.run.now c.requires c.in_err-take_piece.field-0.0 (c.in_err-take_piece.ensures.stopped []))

pub returns-clause-values : goal.returns-clause-values
returns-clause-values c =
    entries-ended c.args.limits.now c.args.self.now c.args.run.now c.requires c.take_piece.new.self c.end_entries.new.self c.end_entries.result (c.in_ok-take_piece.ensures.taken []) c.end_entries.ensures.values

pub returns-clause-stopped : goal.returns-clause-stopped
returns-clause-stopped c =
    entries-long c.args.limits.now c.args.self.now c.args.run.now c.requires c.take_piece.new.self c.end_entries.result (c.in_ok-take_piece.ensures.taken []) c.end_entries.ensures.stopped
