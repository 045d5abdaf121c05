use Rattle.std.proofs.Common.{◌≡◌, ◌∙◌, ◌+◌, ap, sym, subst, unwrap_or, arith}
use Rattle.std.specs.BTreeMap.{insert_entry}
use Rattle.std.specs.Cmp.Lexicographic.{slice_cmp}
use Rattle.std.specs.Ordering.{nat_cmp}
use Rattle.ct_report.specs.Labels.{CountsLabel, label_count}
use Rattle.ct_report.proofs.LabelLemmas.{counts_label, counts_more}
use Rattle.ct_report.proofs.labels.count_label.Goals as goal

pub overflow_add-count : goal.overflow_add-count
overflow_add-count c =
    let count : c.in-Some.count.now ≡ label_count c.args.counts.now c.args.label.now = ap (λ found. unwrap_or found 0) c.in-Some.ensures.value ∙ ap (label_count c.args.counts.now) c.bytes.ensures in
    omega (arith, count, c.requires.room)

pub returns-in-Some : goal.returns-in-Some
returns-in-Some c =
    let before = c.args.counts.now in
    let count = c.in-Some.count.now in
    let after = c.get_mut.follows.lender (count + 1) in
    subst (λ label. CountsLabel label before after) c.bytes.ensures (counts_more before after c.bytes.result.now count (c.get_mut.follows.holds (count + 1)).0 (sym c.in-Some.ensures.value))

pub returns-in_ok-insert-in-None : goal.returns-in_ok-insert-in-None
returns-in_ok-insert-in-None c =
    let before = c.args.counts.now in
    let key = c.in_ok-from_slice-in-None.field-0 in
    let bytes : key.items ≡ c.bytes.result.now = c.in_ok-from_slice-in-None.ensures.items ∙ c.bytes-in-None.ensures ∙ sym c.bytes.ensures in
    let first : 1 ≡ label_count before key.items + 1 = ap (λ found. unwrap_or found 0 + 1) c.in-None.ensures.value ∙ ap (λ label. label_count before label + 1) (sym bytes) in
    let put = rw c.get_mut.follows.holds-at-none at c.in_ok-insert-in-None.ensures.entries in
    subst (λ label. CountsLabel label before c.insert.new.self) (bytes ∙ c.bytes.ensures) (counts_label before c.insert.new.self key (put ∙ ap (λ n. insert_entry (λ x y. slice_cmp nat_cmp x.items y.items) before.entries key n) first))
