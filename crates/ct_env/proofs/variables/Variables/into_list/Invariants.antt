use Rattle.std.proofs.Common.{◌≡◌, ◌++◌, map}
use Rattle.ct_env.specs.Variables.{pair_of}
use Rattle.ct_env.proofs.variables.Variables.into_list.Given as goal

abbrev pub invariant-loop-name : goal.invariant-loop-name
invariant-loop-name l = l.pairs ++ map pair_of l.name-iterator ≡ l.fn.self
