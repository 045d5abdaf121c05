use Rattle.std.proofs.Common.{◌≡◌, false}
use Rattle.std.specs.List.{AllAdjacentBelow}
use Rattle.ct_core.specs.declared.gate.Told.{Told}
use Rattle.ct_core.specs.ScriptValue.{is_before}
use Rattle.ct_core.proofs.script.are_in_order.Given as goal

abbrev pub invariant-loop-at : goal.invariant-loop-at
invariant-loop-at l = AllAdjacentBelow (λ (t u : Told). is_before u t.test t.attempt ≡ false) l.told l.at
