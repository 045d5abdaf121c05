use Rattle.ct_explain.proofs.StepLemmas.{found_at}
use Rattle.ct_explain.proofs.find.find_at.Goals as goal

pub returns-in_ok-find-in-Ok-clause-ok : goal.returns-in_ok-find-in-Ok-clause-ok
returns-in_ok-find-in-Ok-clause-ok g c =
    found_at c.args.path.now c.in_ok-path.path c.args.plan.now (g.F.Files.tells c.args.files.now) (g.F.Files.tells c.read.new.self) c.in-Ok.held c.in_ok-find-in-Ok.field-0 c.in_ok-path.ensures c.in-Ok.ensures.ok c.in-Ok.ensures.looks c.in_ok-find-in-Ok.ensures
