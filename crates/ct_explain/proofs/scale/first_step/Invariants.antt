use Rattle.std.proofs.Common.{◌≡◌, ◌*◌, drop}
use Rattle.std.specs.Prelude.{find, nat_le}
use Rattle.ct_explain.proofs.scale.first_step.Given as goal

abbrev pub invariant-loop-step : goal.invariant-loop-step
invariant-loop-step l = find (λ step. nat_le l.length (10 * step)) (drop l.step-index l.steps) ≡ find (λ step. nat_le l.length (10 * step)) l.steps
