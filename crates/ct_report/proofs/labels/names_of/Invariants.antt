use Rattle.std.proofs.Common.{◌≡◌, ◌++◌}
use Rattle.ct_report.specs.Labels.{kept_labels}
use Rattle.ct_report.proofs.labels.names_of.Given as goal

abbrev pub invariant-loop-label : goal.invariant-loop-label
invariant-loop-label l = l.names ++ kept_labels l.label-iterator ≡ kept_labels l.fn.labels.keys
