use Rattle.ct_journal.proofs.CheckStepLemmas.{unfound_then}
use Rattle.ct_explain.proofs.StepLemmas.{found_then}
use Rattle.ct_explain.proofs.find.find_for.Goals as goal

pub returns-in-Err : goal.returns-in-Err
returns-in-Err g c =
    unfound_then c.args.path.now c.args.words.now (g.F.Files.tells c.args.files.now) (g.F.Files.tells c.plan_words.new.files) (g.F.Files.tells c.find_at.new.files) c.in_ok-plan.plan c.in_ok-plan.ensures.ok c.unread.result c.in-Err.outcome c.unread.ensures c.in-Err.ensures.err

pub returns-in-Ok : goal.returns-in-Ok
returns-in-Ok g c =
    found_then c.args.path.now c.args.words.now (g.F.Files.tells c.args.files.now) (g.F.Files.tells c.plan_words.new.files) (g.F.Files.tells c.find_at.new.files) c.in_ok-plan.plan c.in_ok-plan.ensures.ok c.in-Ok.finding c.in-Ok.ensures.ok
