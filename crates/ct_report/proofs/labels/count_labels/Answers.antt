use Rattle.std.proofs.Common.{◌≡◌, ◌∙◌, ◌+◌, ◌-◌, ◌^◌, ◌<◌, ◌||◌, ap, cond, sym, subst, take, bytes_eq, false, add-zero}
use Rattle.std.specs.List.{list_any}
use Rattle.std.proofs.lemmas.Bool.{not-false, not-true}
use Rattle.std.proofs.lemmas.List.Folds.{list_any_more}
use Rattle.ct_base.specs.Names.{is_among}
use Rattle.ct_base.specs.NameSets.{contains_name}
use Rattle.ct_report.specs.Labels.{CountsLabels, label_count}
use Rattle.ct_report.proofs.LabelLemmas.{counts_first, counts_again, key_of, seen_more}
use Rattle.ct_report.proofs.labels.count_labels.Goals as goal
use Rattle.ct_report.proofs.labels.count_labels.Goals.{then-is_new+in_ok-count_label, else-is_new}

pub count_label-requires : goal.count_label-requires
count_label-requires c =
    let label = c.label-item.result in
    let before = c.args.counts.now in
    let set = c.loop-label.seen in
    let first : list_any (bytes_eq label) (take c.loop-label.label-index c.args.labels.now) ≡ false =
    sym (c.loop-label.invariant.seen label) ∙ ap (contains_name set) (sym c.bytes.ensures) ∙ not-true (contains_name set c.bytes.result.now) (sym c.in_ok-is_new.ensures.added ∙ c.if-is_new.true) in
    let same : label_count c.loop-label.counts label ≡ label_count before label =
    c.loop-label.invariant.counted label ∙ ap (λ b. label_count before label + cond b 1 0) first ∙ add-zero (label_count before label) in
    record { room = subst (λ n. n < 2 ^ 64 - 1) (sym same) (c.requires.room label) }

pub loop-label-preserved : goal.loop-label-preserved
loop-label-preserved c =
    let labels = c.args.labels.now in
    let at = c.loop-label.label-index in
    let before = c.args.counts.now in
    let now = c.loop-label.counts in
    let label = c.label-item.result in
    let set = c.loop-label.seen in
    let known : list_any (bytes_eq label) (take at labels) ≡ contains_name set c.bytes.result.now =
    sym (c.loop-label.invariant.seen label) ∙ ap (contains_name set) (sym c.bytes.ensures) in
    record {
      seen = λ asked.
          seen_more asked c.bytes.result.now _ _ _ (c.in_ok-is_new.ensures.updates.0 (key_of asked)) (c.loop-label.invariant.seen asked)
          ∙ ap (λ name. is_among asked (take at labels) || bytes_eq asked name) (c.bytes.ensures ∙ c.label-item.is)
          ∙ sym (list_any_more (λ other. bytes_eq asked other) labels at label c.loop-label-test.true);
      counted = elim c.if-is_new.branch [
        | then-is_new+in_ok-count_label w ↦
            let first = known ∙ not-true (contains_name set c.bytes.result.now) (sym c.in_ok-is_new.ensures.added ∙ w.if-is_new.true) in
            subst (λ m. CountsLabels (take (at + 1) labels) before m) (sym w.counts-is) (counts_first before now labels at label c.loop-label-test.true c.loop-label.invariant.counted w.count_label.new.counts c.label-item.is first w.in_ok-count_label.ensures)
        | else-is_new w ↦
            let again = known ∙ not-false (contains_name set c.bytes.result.now) (sym c.in_ok-is_new.ensures.added ∙ w.if-is_new.false) in
            subst (λ m. CountsLabels (take (at + 1) labels) before m) (sym w.counts-is) (counts_again before now labels at label c.loop-label-test.true c.loop-label.invariant.counted c.label-item.is again)
      ];
    }
