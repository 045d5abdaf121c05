use Rattle.std.proofs.Common.{[]}
use Rattle.ct_app.proofs.planning.plan_words.Goals as goal

pub returns-in-Err-plan_folder-clause-err : goal.returns-in-Err-plan_folder-clause-err
returns-in-Err-plan_folder-clause-err g c sink = c.in-Err-plan_folder.ensures.err c.args.words.now [] [] sink c.in-Ok.ensures.exact
