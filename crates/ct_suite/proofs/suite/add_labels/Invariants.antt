use Rattle.std.proofs.Common.{◌≡◌, ◌++◌, take}
use Rattle.ct_suite.proofs.suite.add_labels.Given as goal

abbrev pub invariant-loop-label : goal.invariant-loop-label
invariant-loop-label l = l.own ≡ l.initial.own ++ take l.label-index l.labels
