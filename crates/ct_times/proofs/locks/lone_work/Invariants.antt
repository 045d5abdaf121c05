use Rattle.std.proofs.Common.{◌≡◌, ◌^◌, take}
use Rattle.std.specs.Prelude.{min, ◌-◌}
use Rattle.ct_times.specs.Bounds.{done_by}
use Rattle.ct_times.specs.Locks.{lone_work}
use Rattle.ct_times.proofs.locks.lone_work.Given as goal

abbrev pub invariant-loop-test : goal.invariant-loop-test
invariant-loop-test l = l.lone ≡ min (lone_work l.level (done_by l.works) (take l.test-index l.tests)) (2 ^ 128 - 1)
