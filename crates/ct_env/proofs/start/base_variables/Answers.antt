use Rattle.std.proofs.Common.{rules, ◌≡◌, [], None}
use Rattle.ct_env.specs.Assignment.{assignments_in}
use Rattle.ct_env.specs.PlacementVariables.{group_count}
use Rattle.ct_env.specs.Variables.{SetsAll, PutsVariable}
use Rattle.ct_env.proofs.FoldLemmas.{base_is}
use Rattle.ct_env.proofs.start.base_variables.Goals as goal

pub returns : goal.returns
returns c =
    let assigned : c.as_slice.result.now ≡ assignments_in c.args.entries.now = search rules in
    let sets : SetsAll c.args.own.now [] c.in_ok-own.own = search rules in
    let takes : PutsVariable group_count None c.in_ok-own.own c.without-kept.result = search rules in
    let adds : SetsAll c.as_slice.result.now c.without-kept.result c.in_ok-variables.variables = search rules in
    base_is c.args.own.now c.as_slice.result.now c.in_ok-own.own c.without-kept.result c.in_ok-variables.variables c.args.entries.now assigned sets takes adds
