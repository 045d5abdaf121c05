use Rattle.std.proofs.Common.{sym, subst, true}
use Rattle.std.specs.Prelude.{Option}
use Rattle.ct_core.specs.CoreValue.{CoreValue}
use Rattle.ct_worker.specs.declared.state.Halt.{Halt}
use Rattle.ct_worker.specs.Kept.{IsKeptState}
use Rattle.ct_worker.proofs.StepLemmas.{kept_short}
use Rattle.ct_worker.proofs.state.State.give_up_for_memory.Goals as goal

pub invariant_of-self : goal.invariant_of-self
invariant_of-self g c =
    let core = c.self.inside.core in
    let lines = c.self.inside.lines in
    let opened = g.S.Sink.tells c.self.inside.opened.value in
    let sink = g.S.Sink.tells c.self.inside.lines.sink in
    subst (λ (k : CoreValue). IsKeptState k c.give_up.new.halt lines.known lines.count opened sink) (sym c.give_up.ensures.core)
    (subst (λ (h : Option Halt). IsKeptState (record core { aborted = true }) h lines.known lines.count opened sink) (sym c.give_up.ensures.halt)
    (kept_short g.S.Sink.tells core core c.self.inside.halt lines opened c.self.invariant 0))
