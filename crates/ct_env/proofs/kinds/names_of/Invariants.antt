use Rattle.std.proofs.Common.{◌≡◌, ◌++◌}
use Rattle.ct_env.specs.Variables.{names_in}
use Rattle.ct_env.proofs.kinds.names_of.Given as goal

abbrev pub invariant-loop-kind : goal.invariant-loop-kind
invariant-loop-kind l = l.names ++ names_in l.kind-iterator ≡ names_in l.fn.kinds.keys
