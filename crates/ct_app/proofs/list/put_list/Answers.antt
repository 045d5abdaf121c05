use Rattle.ct_plan.proofs.CallerLemmas.{length-have_props}
use Rattle.ct_app.proofs.list.put_list.Goals as goal

pub members-requires-clause-paired : goal.members-requires-clause-paired
members-requires-clause-paired g c = length-have_props c.args.tests.now.defs c.args.tests.now.props c.requires.together
