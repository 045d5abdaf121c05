use Rattle.std.proofs.Common.{◌≡◌, ◌∙◌, sym, ap, subst, false, true, List}
use Rattle.ct_history.specs.declared.history.Entry.{Entry}
use Rattle.ct_history.specs.declared.plan.PlanParts.{PlanParts}
use Rattle.ct_history.specs.declared.history.History.{History}
use Rattle.ct_history.specs.Legal.{is_legal}
use Rattle.ct_turn.specs.Pass.{PassValue, idle_pass}
use Rattle.ct_turn.specs.Seen.{has_seen, moment}
use Rattle.measure.specs.Race.{IsFresh}
use Rattle.measure.proofs.RaceLemmas.{legal-empty, same-again}
use Rattle.measure.proofs.turn.turns.take_often.Goals as goal

pub loop-preserved : goal.loop-preserved
loop-preserved g c =
    let pass = c.loop.pass in
    let suits = c.take-tally.ensures.suits in
    let fresh = subst (λ (p : PassValue). IsFresh c.args.turn.now p) (sym c.loop.invariant) c.requires.fresh in
    let empty = ap (λ (h : History). h.entries.items) c.count.ensures.kept
    ∙ legal-empty c.take-tally.result.history.entries.items (subst (λ (plan : PlanParts). is_legal plan c.take-tally.result.history.entries.items ≡ true) (sym suits.plan) suits.legal) in
    c.give.ensures
    ∙ ap (λ (p : PassValue). idle_pass p.turn (has_seen p.known (moment c.count.new.self.history.entries.items false))) c.take-tally.ensures.pass
    ∙ ap (λ (entries : List Entry). idle_pass pass.turn (has_seen pass.known (moment entries false))) empty
    ∙ same-again pass fresh.idle fresh.seen
    ∙ c.loop.invariant
