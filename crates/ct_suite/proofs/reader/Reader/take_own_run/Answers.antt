use Rattle.std.proofs.Common.{refl}
use Rattle.std.proofs.lemmas.Result.{err_from_is_err_and}
use Rattle.ct_suite.proofs.RunLemmas.{run-stopped, takes-run}
use Rattle.ct_suite.proofs.reader.Reader.take_own_run.Goals as goal

pub returns-in_err-release : goal.returns-in_err-release
returns-in_err-release c =
    let p = err_from_is_err_and c.from_residual.result c.from_residual.ensures.1 in
    rw (p.1, p.2) (run-stopped c.args.limits.now c.args.self.now c.release.new.self c.args.run c.requires.some c.requires.inner c.release.new.self c.in_err-release.field-0.0 c.in_err-release.ensures.stopped)

pub returns : goal.returns
returns c =
    let between = c.release.new.self in
    takes-run c.args.limits.now c.args.self.now between c.args.run c.requires.some c.requires.inner (record { values = between.values; bytes = between.bytes; text = c.join_own.new.text; held = between.held }) c.join_own.result c.in_ok-release.ensures.held c.in_ok-release.ensures.within c.in_ok-release.ensures.taken refl refl refl c.join_own.ensures.joined c.join_own.ensures.within c.join_own.ensures.stopped
