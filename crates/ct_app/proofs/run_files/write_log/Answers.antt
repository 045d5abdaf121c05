use Rattle.std.proofs.Common.{rules, ◌≡◌, ◌∙◌, sym}
use Rattle.std.specs.Prelude.{Err}
use Rattle.ct_app.proofs.StepLemmas.{log_spared, log_unwritten, log_written}
use Rattle.ct_app.proofs.run_files.write_log.Goals as goal

pub returns-then-is_empty : goal.returns-then-is_empty
returns-then-is_empty g c =
    log_spared c.args.dir.now c.args.log.now (g.F.Files.tells c.args.files.now) (sym c.is_empty.ensures ∙ c.if-is_empty.true)

pub returns-in_err-write : goal.returns-in_err-write
returns-in_err-write g c =
    let fault = c.in_err-write.field-0.0 in
    let gave : c.from_residual.result ≡ Err fault = search rules in
    rw gave (log_unwritten c.args.dir.now c.args.log.now (g.F.Files.tells c.args.files.now) (g.F.Files.tells c.write.new.files) fault (sym c.is_empty.ensures ∙ c.if-is_empty.false) c.in_err-write.ensures)

pub returns : goal.returns
returns g c =
    log_written c.args.dir.now c.args.log.now (g.F.Files.tells c.args.files.now) (g.F.Files.tells c.write.new.files) (sym c.is_empty.ensures ∙ c.if-is_empty.false) c.in_ok-write.ensures
