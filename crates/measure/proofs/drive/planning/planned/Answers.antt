use Rattle.ct_plan.proofs.CallerLemmas.{have_processors, length-have_props}
use Rattle.measure.proofs.drive.planning.planned.Goals as goal

pub plan-requires-clause-paired : goal.plan-requires-clause-paired
plan-requires-clause-paired c = length-have_props c.args.tests.now.defs c.args.tests.now.props c.requires.props

pub plan-requires-clause-processors : goal.plan-requires-clause-processors
plan-requires-clause-processors c = have_processors c.args.tests.now.defs c.args.tests.now.props c.requires.props
