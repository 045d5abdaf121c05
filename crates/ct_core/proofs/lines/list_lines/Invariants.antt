use Rattle.std.proofs.Common.{◌≡◌, ℕ, ◌<◌, All, length, map, take}
use Rattle.ct_core.specs.Lines.{demand_at, demand_of_test}
use Rattle.ct_core.proofs.lines.list_lines.Given as goal

abbrev pub invariant-loop-place : goal.invariant-loop-place
invariant-loop-place l = record {
  within : All (λ (line : ℕ). line < length l.plan.queue) l.lines;
  alike : map (demand_at l.plan) l.lines ≡ map (demand_of_test l.plan) (take l.place l.plan.queue);
}
