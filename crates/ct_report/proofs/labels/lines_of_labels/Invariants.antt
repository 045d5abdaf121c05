use Rattle.std.proofs.Common.{◌≡◌, map, take}
use Rattle.ct_report.specs.Labels.{label_count}
use Rattle.ct_report.specs.Report.{label_line}
use Rattle.ct_report.proofs.labels.lines_of_labels.Given as goal

abbrev pub invariant-loop-label : goal.invariant-loop-label
invariant-loop-label l = l.lines ≡ map (λ label. label_line label (label_count l.good label) (label_count l.all label)) (take l.label-index l.labels)
