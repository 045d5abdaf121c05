use Rattle.std.proofs.Common.{◌≡◌, ◌∙◌, ℕ, List, map, length, sym, ap, subst}
use Rattle.ct_queue.specs.Kept.{AreFoundByNumber, AreMarkedAtZero, IsReadySet, waiting, ready_of}
use Rattle.ct_queue.specs.declared.ready.Standing.{Standing}
use Rattle.ct_queue.proofs.ReadyLemmas.{kept_new, ready_new}
use Rattle.ct_queue.proofs.ready.Ready.in_lines.Goals as goal

pub invariant_of-result : goal.invariant_of-result
invariant_of-result c =
    let lines = c.in_ok-lines_at_zero.field-0 in
    let standings : c.in_ok-standings.field-0.items ≡ map waiting c.args.counts.now = c.in_ok-standings.ensures ∙ ap (λ (l : List ℕ). map waiting l) c.as_slice-2.ensures in
    let found = subst (λ (o : List ℕ). AreFoundByNumber c.in_ok-places.field-0 o) c.as_slice.ensures c.in_ok-places.ensures in
    let lined : length lines.lines ≡ length c.args.order.now = ap length (c.in_ok-lines_at_zero.ensures.lines ∙ c.as_slice-3.ensures) ∙ c.requires.lined in
    let bunched : length lines.bunches ≡ length c.args.order.now = ap length (c.in_ok-lines_at_zero.ensures.bunches ∙ c.as_slice-4.ensures) ∙ c.requires.bunched in
    let seated : length lines.members ≡ length c.args.order.now = c.in_ok-lines_at_zero.ensures.room ∙ ap length c.as_slice-3.ensures ∙ c.requires.lined in
    let in_lines = subst (λ (l : List ℕ). AreMarkedAtZero l lines.members) c.as_slice-5.ensures c.in_ok-lines_at_zero.ensures.marked in
    let kept = kept_new c.args.order.now c.args.counts.now c.in_ok-places.field-0 lines c.requires.few found c.requires.counted lined bunched seated in_lines in
    subst (λ (o : List ℕ). IsReadySet o c.in_ok-places.field-0 c.in_ok-standings.field-0.items lines) (sym c.of.ensures)
    (subst (λ (ss : List Standing). IsReadySet c.args.order.now c.in_ok-places.field-0 ss lines) (sym standings) kept)

pub returns : goal.returns
returns c =
    let lines = c.in_ok-lines_at_zero.field-0 in
    let standings : c.in_ok-standings.field-0.items ≡ map waiting c.args.counts.now = c.in_ok-standings.ensures ∙ ap (λ (l : List ℕ). map waiting l) c.as_slice-2.ensures in
    ap (λ (ss : List Standing). ready_of c.of.result.value ss lines.lines lines.bunches) standings
    ∙ ap (λ (o : List ℕ). ready_of o (map waiting c.args.counts.now) lines.lines lines.bunches) c.of.ensures
    ∙ ap (λ (ls : List ℕ). ready_of c.args.order.now (map waiting c.args.counts.now) ls lines.bunches) (c.in_ok-lines_at_zero.ensures.lines ∙ c.as_slice-3.ensures)
    ∙ ap (λ (bs : List ℕ). ready_of c.args.order.now (map waiting c.args.counts.now) c.args.lines.now bs) (c.in_ok-lines_at_zero.ensures.bunches ∙ c.as_slice-4.ensures)
    ∙ ready_new c.args.order.now c.args.counts.now c.args.lines.now c.args.bunches.now c.requires.counted
