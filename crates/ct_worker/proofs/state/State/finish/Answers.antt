use Rattle.std.proofs.Common.{ℕ, ◌≡◌, ◌∙◌, ap, sym, refl, subst}
use Rattle.ct_history.specs.declared.plan.PlanParts.{PlanParts}
use Rattle.ct_history.specs.Verdicts.{verdict_of_test}
use Rattle.ct_history.specs.Legal.{is_legal, StaysWithin}
use Rattle.ct_core.specs.CoreValue.{CoreValue}
use Rattle.ct_core.specs.Gate.{is_no_memory}
use Rattle.ct_core.specs.Ticket.{test_of}
use Rattle.ct_worker.specs.Lines.{PutsEnd}
use Rattle.ct_worker.specs.State.{IsFinished, StateValue}
use Rattle.ct_worker.proofs.StateLemmas.{seen_as}
use Rattle.ct_worker.proofs.StepLemmas.{end_finished, end_kept, given_up_kept}
use Rattle.ct_worker.proofs.state.State.finish.Goals as goal

pub put_end-put-requires-clause-verdict : goal.put_end-put-requires-clause-verdict
put_end-put-requires-clause-verdict g c =
    let plan : c.self.inside.core.plan ≡ c.finish-verdict.new.self.plan = ap (λ (v : CoreValue). v.plan) (sym c.finish-verdict.ensures.appended) in
    c.finish-verdict.ensures.verdict
    ∙ ap (λ (p : PlanParts). verdict_of_test p c.finish-verdict.new.self.entries (test_of c.args.ticket)) plan
    ∙ ap (verdict_of_test c.finish-verdict.new.self.plan c.finish-verdict.new.self.entries) (sym c.test-test.ensures)

pub invariant_of-self : goal.invariant_of-self
invariant_of-self g c =
    let says : PutsEnd g.S.Sink.tells (is_no_memory c.args.seen.how) (test_of c.args.ticket) c.finish-verdict.new.self c.self.inside.lines c.put_end-put.new.self c.put_end-put.result =
    subst (λ (n : ℕ). PutsEnd g.S.Sink.tells (is_no_memory c.args.seen.how) n c.finish-verdict.new.self c.self.inside.lines c.put_end-put.new.self c.put_end-put.result) c.test-test.ensures c.put_end-put.ensures in
    end_kept g.S.Sink.tells c.self.inside.core c.finish-verdict.new.self c.self.inside.halt c.self.inside.lines (g.S.Sink.tells c.self.inside.opened.value) c.self.invariant c.args.ticket c.args.seen c.finish-verdict.ensures.appended
    c.if-is_none.ensures c.put_end-put.new.self c.put_end-put.result c.heed.new.core c.heed.new.halt c.heed.ensures.core c.heed.ensures.halt (is_no_memory c.args.seen.how) refl says

pub invariant_of-self-else-is_none : goal.invariant_of-self-else-is_none
invariant_of-self-else-is_none g c =
    given_up_kept g.S.Sink.tells c.self.inside.core c.finish-verdict.new.self c.self.inside.halt c.self.inside.lines (g.S.Sink.tells c.self.inside.opened.value) c.self.invariant c.args.ticket c.args.seen c.finish-verdict.ensures.appended c.if-is_none.ensures

pub returns-then-is_none-clause-finished : goal.returns-then-is_none-clause-finished
returns-then-is_none-clause-finished g c =
    let says : PutsEnd g.S.Sink.tells (is_no_memory c.args.seen.how) (test_of c.args.ticket) c.finish-verdict.new.self c.self.inside.lines c.put_end-put.new.self c.put_end-put.result =
    subst (λ (n : ℕ). PutsEnd g.S.Sink.tells (is_no_memory c.args.seen.how) n c.finish-verdict.new.self c.self.inside.lines c.put_end-put.new.self c.put_end-put.result) c.test-test.ensures c.put_end-put.ensures in
    subst (λ (s : StateValue). IsFinished s c.args.ticket c.args.seen (seen_as c.heed.new.core c.heed.new.halt (g.S.Sink.tells c.self.inside.opened.value) (g.S.Sink.tells c.put_end-put.new.self.sink))) c.self.view_is
    (end_finished g.S.Sink.tells c.self.inside.core c.finish-verdict.new.self c.self.inside.halt c.self.inside.lines (g.S.Sink.tells c.self.inside.opened.value) c.self.invariant c.args.ticket c.args.seen c.finish-verdict.ensures.appended
    c.if-is_none.ensures c.put_end-put.new.self c.put_end-put.result c.heed.new.core c.heed.new.halt c.heed.ensures.core c.heed.ensures.halt says)

pub returns-then-is_none-clause-legal : goal.returns-then-is_none-clause-legal
returns-then-is_none-clause-legal g c = ap (λ (k : CoreValue). is_legal k.plan k.entries) c.heed.ensures.core ∙ c.finish-verdict.ensures.legal

pub returns-then-is_none-clause-within : goal.returns-then-is_none-clause-within
returns-then-is_none-clause-within g c = subst (λ (k : CoreValue). StaysWithin k.plan k.entries) (sym c.heed.ensures.core) c.finish-verdict.ensures.within
