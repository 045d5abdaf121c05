use Rattle.std.proofs.Common.{◌∙◌, ap, ℕ, List}
use Rattle.ct_base.specs.Path.{joined}
use Rattle.ct_app.proofs.RunFilesLemmas.{costs_unread, looked, reads_last}
use Rattle.ct_app.proofs.run_files.read_costs.Goals as goal

pub returns-in_ok-costs_of-in-Ok : goal.returns-in_ok-costs_of-in-Ok
returns-in_ok-costs_of-in-Ok g c =
    let before = g.F.Files.tells c.args.files.now in
    let named = c.in_ok-path.ensures ∙ ap (λ (name : List ℕ). joined c.args.dir.now name) c.in_ok-of.ensures in
    let is = c.in_ok-costs_of-in-Ok.ensures in
    (reads_last c.args.dir.now c.in_ok-path.path before.held c.in-Ok.held c.in_ok-costs_of-in-Ok.field-0 named c.in-Ok.ensures.ok is, looked c.in_ok-path.path before (g.F.Files.tells c.read.new.self) c.in-Ok.held c.in-Ok.ensures.looks)

pub returns-in-Err : goal.returns-in-Err
returns-in-Err g c =
    let named = c.in_ok-path.ensures ∙ ap (λ (name : List ℕ). joined c.args.dir.now name) c.in_ok-of.ensures in
    rw c.fault_at.ensures (costs_unread c.in_ok-path.path (g.F.Files.tells c.args.files.now) (g.F.Files.tells c.read.new.self) c.args.dir.now c.in-Err.fault named c.in-Err.ensures.looks)
