use Rattle.ct_app.proofs.StepLemmas.{planned_folder, unplanned_folder}
use Rattle.ct_app.proofs.planning.plan_asked.Goals as goal

pub returns-in-Ok-clause-ok : goal.returns-in-Ok-clause-ok
returns-in-Ok-clause-ok g c =
    let folder = c.in-Ok.folder in
    planned_folder c.args.invocation.now (g.F.Files.tells c.args.files.now) (g.F.Files.tells c.read_folder.new.files) folder.tests folder.inputs.spec folder.inputs.costs folder.inputs.only c.in-Ok.ensures.ok c.plan_read.result c.plan_read.ensures.kept c.plan_read.ensures.ok

pub returns-in-Ok-clause-err : goal.returns-in-Ok-clause-err
returns-in-Ok-clause-err g c =
    let folder = c.in-Ok.folder in
    unplanned_folder c.args.invocation.now (g.F.Files.tells c.args.files.now) (g.F.Files.tells c.read_folder.new.files) folder.tests folder.inputs.spec folder.inputs.costs folder.inputs.only c.in-Ok.ensures.ok c.plan_read.result c.plan_read.ensures.err
