use Rattle.ct_app.proofs.RunFilesLemmas.{looked}
use Rattle.ct_app.proofs.SpecLemmas.{path_read}
use Rattle.ct_app.proofs.spec_file.read_path.Goals as goal

pub returns-in-Ok : goal.returns-in-Ok
returns-in-Ok g c =
    let before = g.F.Files.tells c.args.files.now in
    let now = g.F.Files.tells c.read.new.self in
    path_read c.in_ok-path.path c.args.path.now before now c.in-Ok.held c.spec_in.result c.in_ok-path.ensures c.in-Ok.ensures.ok (looked c.in_ok-path.path before now c.in-Ok.held c.in-Ok.ensures.looks) c.spec_in.ensures
