use Rattle.ct_plan.proofs.CallerLemmas.{have_processors, length-have_props}
use Rattle.ct_app.proofs.planning.Folder.plan.Goals as goal

pub plan-requires-clause-paired : goal.plan-requires-clause-paired
plan-requires-clause-paired c = length-have_props c.args.self.now.tests.defs c.args.self.now.tests.props c.requires.have

pub plan-requires-clause-processors : goal.plan-requires-clause-processors
plan-requires-clause-processors c = have_processors c.args.self.now.tests.defs c.args.self.now.tests.props c.requires.have
