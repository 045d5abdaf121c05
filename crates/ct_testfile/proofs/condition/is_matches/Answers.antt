use Rattle.std.proofs.Common.{◌∙◌}
use Rattle.ct_testfile.proofs.ConditionLemmas.{not-matches, matches-is}
use Rattle.ct_testfile.proofs.condition.is_matches.Goals as goal

pub returns-then-values-ne3-clause-is : goal.returns-then-values-ne3-clause-is
returns-then-values-ne3-clause-is c = not-matches c.args.values.now c.if-values-ne3.true

pub returns-clause-is : goal.returns-clause-is
returns-clause-is c =
    c.is_word.ensures ∙ matches-is c.args.values.now c.index-values-1.result c.if-values-ne3.false c.index-values-1.is
