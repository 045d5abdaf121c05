use Rattle.std.proofs.Common.{◌∙◌, ap, sym, subst}
use Rattle.ct_history.specs.Legal.{StaysWithin, is_legal}
use Rattle.ct_core.specs.CoreValue.{CoreValue}
use Rattle.ct_worker.specs.State.{IsStateNext, StateValue}
use Rattle.ct_worker.proofs.StateLemmas.{seen_as}
use Rattle.ct_worker.proofs.StepLemmas.{next_kept, next_of}
use Rattle.ct_worker.proofs.state.State.next.Goals as goal

pub invariant_of-self : goal.invariant_of-self
invariant_of-self g c =
    next_kept g.S.Sink.tells c.self.inside.core c.next-next.new.self c.self.inside.halt c.self.inside.lines (g.S.Sink.tells c.self.inside.opened.value) c.self.invariant c.args.worker
    c.put_for-put.new.self c.put_for-put.result c.heed.new.core c.heed.new.halt c.heed.ensures.core c.heed.ensures.halt c.next-next.result c.next-next.ensures.step c.put_for-put.ensures

pub returns-clause-step : goal.returns-clause-step
returns-clause-step g c =
    subst (λ (s : StateValue). IsStateNext s c.args.worker c.next-next.result (seen_as c.heed.new.core c.heed.new.halt (g.S.Sink.tells c.self.inside.opened.value) (g.S.Sink.tells c.put_for-put.new.self.sink))) c.self.view_is
    (next_of g.S.Sink.tells c.self.inside.core c.next-next.new.self c.self.inside.halt c.self.inside.lines (g.S.Sink.tells c.self.inside.opened.value) c.self.invariant c.args.worker
    c.put_for-put.new.self c.put_for-put.result c.heed.new.core c.heed.new.halt c.heed.ensures.core c.heed.ensures.halt c.next-next.result c.next-next.ensures.step c.put_for-put.ensures)

pub returns-clause-legal : goal.returns-clause-legal
returns-clause-legal g c = ap (λ (k : CoreValue). is_legal k.plan k.entries) c.heed.ensures.core ∙ c.next-next.ensures.legal

pub returns-clause-within : goal.returns-clause-within
returns-clause-within g c = subst (λ (k : CoreValue). StaysWithin k.plan k.entries) (sym c.heed.ensures.core) c.next-next.ensures.within
