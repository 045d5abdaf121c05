use Rattle.std.proofs.Common.{◌≡◌, ◌∙◌, sym, ap, Bool, true, List}
use Rattle.std.specs.Prelude.{IfOk}
use Rattle.std.specs.declared.result.Result.{Result}
use Rattle.std.specs.declared.result.Result.TheVariants.{Ok, Err}
use Rattle.ct_base.specs.declared.memory.NoMemory.{NoMemory}
use Rattle.ct_history.specs.declared.plan.PlanParts.{PlanParts}
use Rattle.ct_history.specs.declared.history.Entry.{Entry}
use Rattle.ct_history.specs.Legal.{StaysWithin, is_legal}
use Rattle.ct_history.proofs.LegalLemmas.{legal_allowed}
use Rattle.ct_history.proofs.WithinLemmas.{stays_within}
use Rattle.ct_history.proofs.legal.judge.Goals as goal

legal_stays : (plan : PlanParts) (judged : List Entry) (es : List Entry) (result : Result Bool NoMemory) → judged ≡ es → IfOk result (λ legal. legal ≡ is_legal plan judged) → IfOk result (λ legal. legal ≡ true → StaysWithin plan es)
legal_stays plan judged es (Ok legal) are is = λ holds. stays_within plan es (legal_allowed plan es (sym (is ∙ ap (is_legal plan) are) ∙ holds))
legal_stays plan judged es (Err lack) are is = tt

pub returns-clause-within : goal.returns-clause-within
returns-clause-within c =
    legal_stays c.args.plan.now c.as_slice.result.now c.args.history.now.entries.items c.is_legal.result c.as_slice.ensures.value c.is_legal.ensures
