use Rattle.std.proofs.Common.{[], take}
use Rattle.ct_worker.specs.Listener.{AllStandFor}
use Rattle.ct_worker.proofs.listener.scans_of.Given as goal

abbrev pub invariant-loop-pattern : goal.invariant-loop-pattern
invariant-loop-pattern l = AllStandFor (take l.pattern-index l.patterns) [] l.scans.items
