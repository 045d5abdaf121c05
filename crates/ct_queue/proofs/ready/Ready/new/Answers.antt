use Rattle.std.proofs.Common.{ℕ, ◌≡◌, ◌∙◌, List, length, IfOk, sym, ap, subst}
use Rattle.std.proofs.lemmas.List.FromFn.{length-range_with_len}
use Rattle.ct_queue.specs.Ready.{none_out}
use Rattle.ct_queue.specs.Lines.{AreNumbered, own_lines}
use Rattle.ct_queue.proofs.ReadyLemmas.{own_numbered}
use Rattle.ct_queue.proofs.ready.Ready.new.Goals as goal

pub in_lines-requires-clause-lined : goal.in_lines-requires-clause-lined
in_lines-requires-clause-lined c = ap length c.in_ok-lines.ensures ∙ length-range_with_len 0 c.len.result ∙ c.len.ensures

pub in_lines-requires-clause-numbered : goal.in_lines-requires-clause-numbered
in_lines-requires-clause-numbered c = subst (λ (l : List ℕ). AreNumbered l) (sym c.in_ok-lines.ensures) (own_numbered c.len.result)

pub in_lines-requires-clause-bunched : goal.in_lines-requires-clause-bunched
in_lines-requires-clause-bunched c = ap length c.in_ok-lines.ensures ∙ length-range_with_len 0 c.len.result ∙ c.len.ensures

pub in_lines-requires-clause-bunches : goal.in_lines-requires-clause-bunches
in_lines-requires-clause-bunches c = subst (λ (l : List ℕ). AreNumbered l) (sym c.in_ok-lines.ensures) (own_numbered c.len.result)

pub returns : goal.returns
returns c =
    subst (λ (l : List ℕ). IfOk c.in_lines.result (λ ready. ready ≡ none_out c.args.order.now c.args.counts.now l l)) (c.in_ok-lines.ensures ∙ ap own_lines c.len.ensures) c.in_lines.ensures
