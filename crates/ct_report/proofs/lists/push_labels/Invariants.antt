use Rattle.std.proofs.Common.{◌≡◌, ◌++◌, map, take}
use Rattle.ct_report.specs.Lists.{label_entry}
use Rattle.ct_report.proofs.lists.push_labels.Given as goal

abbrev pub invariant-loop-label : goal.invariant-loop-label
invariant-loop-label l = l.lines ≡ l.initial.lines ++ map label_entry (take l.label-index l.labels)
