use Rattle.std.proofs.Common.{arith, ◌≡◌, ◌∙◌, ◌-◌, sym, subst, false, get_or}
use Rattle.std.proofs.lemmas.List.{get_or_read}
use Rattle.std.proofs.lemmas.List.Sorted.{all_adjacent_more}
use Rattle.ct_core.specs.declared.gate.Told.{Told}
use Rattle.ct_core.specs.ScriptValue.{is_before}
use Rattle.ct_core.proofs.script.are_in_order.Goals as goal

pub loop-at-preserved : goal.loop-at-preserved
loop-at-preserved c =
    let told = c.args.told.now in
    let at = c.loop-at.at in
    let front = c.index-told-at.result in
    let here = c.index-told-at-in-loop-at.result in
    let rises : is_before here front.test front.attempt ≡ false = sym c.is_before.ensures ∙ c.if-is_before.false in
    all_adjacent_more told (λ (t u : Told). is_before u t.test t.attempt ≡ false) at (omega arith) c.loop-at.invariant (λ d.
    subst (λ (t : Told). is_before (get_or told at d) t.test t.attempt ≡ false) (get_or_read told (at - 1) front (omega arith) c.index-told-at.is d)
    (subst (λ (u : Told). is_before u front.test front.attempt ≡ false) (get_or_read told at here (omega arith) c.index-told-at-in-loop-at.is d) rises))
