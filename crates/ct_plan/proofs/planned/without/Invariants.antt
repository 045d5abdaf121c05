use Rattle.std.proofs.Common.{◌≡◌, ◌++◌, drop}
use Rattle.ct_plan.specs.Planned.{without}
use Rattle.ct_plan.proofs.planned.without.Given as goal

abbrev pub invariant-loop-name : goal.invariant-loop-name
invariant-loop-name l = l.copies ++ without l.locks (drop l.name-index l.names) ≡ without l.locks l.names
