use Rattle.std.proofs.Common.{◌≡◌, ◌-◌, ◌^◌, min, take}
use Rattle.ct_suite.specs.Values.{size}
use Rattle.ct_suite.proofs.value.size.Given as goal

abbrev pub invariant-loop-value : goal.invariant-loop-value
invariant-loop-value l = l.bytes ≡ min (size (take l.value-index l.values)) (2 ^ 64 - 1)
