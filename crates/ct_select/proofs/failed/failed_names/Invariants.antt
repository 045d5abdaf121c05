use Rattle.std.proofs.Common.{◌≡◌, map, filter_map}
use Rattle.ct_select.specs.FailedLog.{name_in}
use Rattle.ct_select.proofs.failed.failed_names.Given as goal

abbrev pub invariant-loop-line : goal.invariant-loop-line
invariant-loop-line l = l.names ≡ filter_map name_in (map (λ line. line.now) l.yielded)
