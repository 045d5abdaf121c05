use Rattle.std.proofs.Common.{◌≡◌, fold, take}
use Rattle.ct_suite.specs.Tests.{taking_props}
use Rattle.ct_suite.specs.Entries.{of_name}
use Rattle.ct_suite.proofs.named.set_named.Given as goal

abbrev pub invariant-loop-name : goal.invariant-loop-name
invariant-loop-name l =
    l.after ≡ fold (of_name (taking_props l.fn.props)) l.initial.after (take l.name-index l.front)
