use Rattle.std.proofs.Common.{◌∙◌}
use Rattle.ct_trees.proofs.PlannedRunLemmas.{rests_plans}
use Rattle.ct_trees.proofs.joining.prepare.Goals as goal

pub returns-in-Err-clause-plans : goal.returns-in-Err-clause-plans
returns-in-Err-clause-plans c = c.plans_of.ensures ∙ rests_plans c.args.trees c.join_trees-joined.result.1 c.join_trees-joined.ensures.rests
