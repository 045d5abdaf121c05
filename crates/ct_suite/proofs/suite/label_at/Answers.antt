use Rattle.std.proofs.Common.{arith}
use Rattle.ct_suite.specs.Tests.{taking_labels}
use Rattle.ct_suite.specs.declared.open_test.OpenTest.{OpenTest}
use Rattle.ct_suite.specs.Entries.{def_of}
use Rattle.ct_suite.proofs.PlaceLemmas.{changed-set}
use Rattle.ct_suite.proofs.suite.label_at.Goals as goal

pub returns-clause-is : goal.returns-clause-is
returns-clause-is c =
    let here = c.index_mut-test.result.now in
    let now : OpenTest = record here { dir_labels = c.add_labels.new.own } in
    changed-set def_of (taking_labels c.args.labels.now) c.args.place c.args.tests.now.items here now (omega (arith, c.args.tests.now.ok.0)) c.index_mut-test.ensures.value (λ i. record { name = here.name; command = here.command; dir = here.dir; props = here.props; dir_labels = c.in_ok-add_labels.ensures i })
