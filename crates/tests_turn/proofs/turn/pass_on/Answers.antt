use Rattle.std.proofs.Common.{◌≡◌, ◌∙◌, sym, ap, subst, refl, true}
use Rattle.std.specs.Prelude.{IsSomeAnd}
use Rattle.ct_history.specs.declared.plan.PlanParts.{PlanParts}
use Rattle.ct_history.specs.Legal.{is_legal}
use Rattle.ct_core.specs.Core.{no_base}
use Rattle.ct_turn.specs.Pass.{PassValue}
use Rattle.ct_turn.specs.Seen.{Continues, moment}
use Rattle.ct_turn.proofs.CallerLemmas.{adds_none}
use Rattle.tests_turn.proofs.TurnLemmas.{Works, continues}
use Rattle.tests_turn.proofs.turn.pass_on.Goals as goal

pub give-requires-clause-continues : goal.give-requires-clause-continues
give-requires-clause-continues g c =
    let old = c.take-core.result in
    let suits = c.take-core.ensures.suits in
    let known = c.loop.pass.known in
    let works : Works known.worker old old = record { plan = refl; history = adds_none known.worker old.entries; halted = refl } in
    let legal : is_legal old.plan old.entries ≡ true = ap (λ (p : PlanParts). is_legal p old.entries) suits.plan ∙ suits.legal in
    subst (λ (p : PassValue). IsSomeAnd p.taken (λ taken. Continues p.known taken (record { plan = old.plan; base = no_base; now = moment old.entries old.aborted }))) (sym c.take-core.ensures.pass)
    (continues known known.worker old old refl suits.plan suits.base works legal)
