use Rattle.std.proofs.Common.{◌≡◌, drop, fold}
use Rattle.std.specs.Ordering.{nat_cmp}
use Rattle.std.specs.Cmp.Lexicographic.{slice_cmp}
use Rattle.std.specs.BTreeSet.{insert_key}
use Rattle.ct_report.specs.Labels.{kept_labels}
use Rattle.ct_report.proofs.labels.put_labels.Given as goal

abbrev pub invariant-loop-name : goal.invariant-loop-name
invariant-loop-name l = fold (insert_key (slice_cmp nat_cmp)) (kept_labels l.labels.keys) (drop l.name-index l.names) ≡ fold (insert_key (slice_cmp nat_cmp)) (kept_labels l.initial.labels.keys) l.names
