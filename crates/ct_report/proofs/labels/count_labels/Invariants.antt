use Rattle.std.proofs.Common.{take}
use Rattle.ct_base.specs.NameSets.{AreNames}
use Rattle.ct_report.specs.Labels.{CountsLabels}
use Rattle.ct_report.proofs.labels.count_labels.Given as goal

abbrev pub invariant-loop-label : goal.invariant-loop-label
invariant-loop-label l = record {
  seen : AreNames (take l.label-index l.labels) l.seen;
  counted : CountsLabels (take l.label-index l.labels) l.initial.counts l.counts;
}
