use Rattle.std.proofs.Common.{◌-◌, ◌^◌}
use Rattle.ct_suite.specs.Entries.{name_count}
use Rattle.ct_suite.proofs.NameLemmas.{capped-more}
use Rattle.ct_suite.proofs.named.count_named.Goals as goal

pub loop-name-preserved : goal.loop-name-preserved
loop-name-preserved c =
    capped-more (name_count c.args.tests.now) c.args.names.now c.loop-name.name-index c.name-item.result c.loop-name.count c.saturating_add-count.result c.named.result (2 ^ 64 - 1) c.loop-name-test.true c.name-item.is c.named.ensures c.loop-name.invariant c.saturating_add-count.ensures
