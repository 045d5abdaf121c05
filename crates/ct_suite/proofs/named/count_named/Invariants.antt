use Rattle.std.proofs.Common.{◌≡◌, ◌-◌, ◌^◌, min, sum_by, take}
use Rattle.ct_suite.specs.Entries.{name_count}
use Rattle.ct_suite.proofs.named.count_named.Given as goal

abbrev pub invariant-loop-name : goal.invariant-loop-name
invariant-loop-name l = l.count ≡ min (sum_by (name_count l.tests) (take l.name-index l.names)) (2 ^ 64 - 1)
