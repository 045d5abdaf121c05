use Rattle.std.proofs.Common.{◌≡◌, ◌-◌, ◌^◌, min, take}
use Rattle.ct_suite.specs.Tests.{label_bytes}
use Rattle.ct_suite.proofs.words.label_bytes.Given as goal

abbrev pub invariant-loop-prop : goal.invariant-loop-prop
invariant-loop-prop l = l.bytes ≡ min (label_bytes (take l.prop-index l.props)) (2 ^ 64 - 1)
