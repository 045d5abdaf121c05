use Rattle.std.proofs.Common.{arith}
use Rattle.ct_suite.specs.Tests.{taking_props}
use Rattle.ct_suite.specs.declared.open_test.OpenTest.{OpenTest}
use Rattle.ct_suite.specs.Entries.{def_of}
use Rattle.ct_suite.proofs.PlaceLemmas.{changed-set}
use Rattle.ct_suite.proofs.suite.set_at.Goals as goal

pub returns-clause-is : goal.returns-clause-is
returns-clause-is c =
    let here = c.index_mut-test.result.now in
    let now : OpenTest = record here { props = c.set.new.self } in
    changed-set def_of (taking_props c.args.pairs) c.args.place c.args.tests.now.items here now (omega (arith, c.args.tests.now.ok.0)) c.index_mut-test.ensures.value (λ i. record { name = here.name; command = here.command; dir = here.dir; props = c.in_ok-set.ensures i; dir_labels = here.dir_labels })
