use Rattle.std.proofs.Common.{rules, ◌≡◌, ◌∙◌, sym, subst}
use Rattle.ct_env.specs.Environment.{IsAscending}
use Rattle.ct_env.proofs.VariableLemmas.{names_ascend}
use Rattle.ct_env.proofs.variables.Variables.into_list.Goals as goal

pub returns-clause-ordered : goal.returns-clause-ordered
returns-clause-ordered c =
    let same : c.loop-name.pairs ≡ c.args.self = search rules in
    subst IsAscending (c.self.view_is ∙ sym same) (names_ascend c.self.inside.values.entries c.self.invariant)
