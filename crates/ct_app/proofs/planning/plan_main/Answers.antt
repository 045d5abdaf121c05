use Rattle.ct_app.proofs.CompleteLemmas.{plan_completes}
use Rattle.ct_app.proofs.planning.plan_main.Goals as goal

pub returns-in-Err-clause-complete : goal.returns-in-Err-clause-complete
returns-in-Err-clause-complete g c = plan_completes c.args.words.now (g.F.Files.tells c.args.files.now) (g.F.Files.tells c.plan_words.new.files) c.in-Err.bad.names c.in-Err.bad.outcome c.in-Err.ensures.err
