use Rattle.std.proofs.Common.{◌≡◌, ◌++◌}
use Rattle.ct_spec.proofs.kinds.push_all.Given as goal

abbrev pub invariant-loop-resource : goal.invariant-loop-resource
invariant-loop-resource l = l.resources ≡ l.initial.resources ++ l.yielded
