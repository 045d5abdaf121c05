use Rattle.std.proofs.Common.{◌≡◌, ◌++◌, drop}
use Rattle.ct_app.specs.Lists.{listed_tests}
use Rattle.ct_app.proofs.list.listed_entries.Given as goal

abbrev pub invariant-loop-number : goal.invariant-loop-number
invariant-loop-number l = l.entries.items ++ listed_tests l.tests.defs l.tests.props (drop l.number-index l.members) ≡ listed_tests l.tests.defs l.tests.props l.members
