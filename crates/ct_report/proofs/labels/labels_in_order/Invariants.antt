use Rattle.std.proofs.Common.{◌≡◌, flat_map, drop, fold}
use Rattle.std.specs.Ordering.{nat_cmp}
use Rattle.std.specs.Cmp.Lexicographic.{slice_cmp}
use Rattle.std.specs.BTreeSet.{insert_key}
use Rattle.ct_history.specs.declared.plan.PlanTest.{PlanTest}
use Rattle.ct_history.specs.Plan.{enabled}
use Rattle.ct_report.specs.Labels.{kept_labels}
use Rattle.ct_report.specs.Report.{labels_in_order}
use Rattle.ct_report.proofs.labels.labels_in_order.Given as goal

abbrev pub invariant-loop-test : goal.invariant-loop-test
invariant-loop-test l = fold (insert_key (slice_cmp nat_cmp)) (kept_labels l.labels.keys) (flat_map (λ (t : PlanTest). t.labels) (enabled (drop l.test-index l.tests))) ≡ labels_in_order l.tests
