use Rattle.std.proofs.Common.{◌≡◌, drop}
use Rattle.ct_regex.specs.PatternOf.{pattern_of}
use Rattle.ct_select.specs.Chosen.{hits_label}
use Rattle.ct_select.proofs.patterns.hits_label.Given as goal

abbrev pub invariant-loop-label : goal.invariant-loop-label
invariant-loop-label l = record {
  same : hits_label (drop l.label-index l.labels) (pattern_of l.matcher) ≡ hits_label l.labels (pattern_of l.fn.matcher);
  kept : pattern_of l.matcher ≡ pattern_of l.fn.matcher;
}
