use Rattle.std.proofs.Common.{◌∙◌, ap}
use Rattle.std.specs.Ordering.{nat_cmp}
use Rattle.std.specs.Cmp.Lexicographic.{slice_cmp}
use Rattle.std.specs.BTreeSet.{insert_key}
use Rattle.ct_report.specs.Labels.{kept_labels}
use Rattle.ct_report.proofs.LabelLemmas.{labels-insert_key}
use Rattle.ct_report.proofs.labels.put_label.Goals as goal

pub returns : goal.returns
returns c =
    ap kept_labels c.in_ok-insert.ensures.keys
    ∙ labels-insert_key c.args.labels.now.keys c.bytes.result
    ∙ ap (insert_key (slice_cmp nat_cmp) (kept_labels c.args.labels.now.keys)) c.bytes.ensures
