use Rattle.std.proofs.Common.{◌≡◌, drop, map}
use Rattle.ct_regex.specs.PatternOf.{pattern_of}
use Rattle.ct_select.specs.Chosen.{hit_labels}
use Rattle.ct_select.proofs.patterns.hit_labels.Given as goal

abbrev pub invariant-loop-i : goal.invariant-loop-i
invariant-loop-i l = record {
  same : hit_labels (map pattern_of (drop l.i l.matchers)) l.labels ≡ hit_labels (map pattern_of l.fn.matchers) l.labels;
  kept : map pattern_of l.matchers ≡ map pattern_of l.fn.matchers;
}
