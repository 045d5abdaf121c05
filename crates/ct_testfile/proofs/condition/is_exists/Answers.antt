use Rattle.std.proofs.Common.{◌∙◌}
use Rattle.ct_testfile.proofs.ConditionLemmas.{not-exists, exists-is}
use Rattle.ct_testfile.proofs.condition.is_exists.Goals as goal

pub returns-then-values-ne2-clause-is : goal.returns-then-values-ne2-clause-is
returns-then-values-ne2-clause-is c = not-exists c.args.values.now c.if-values-ne2.true

pub returns-clause-is : goal.returns-clause-is
returns-clause-is c =
    c.is_word.ensures ∙ exists-is c.args.values.now c.index-values-0.result c.if-values-ne2.false c.index-values-0.is
