use Rattle.std.proofs.Common.{◌≡◌, drop, fold}
use Rattle.ct_explain.specs.Bars.{keep_starter, workers}
use Rattle.ct_explain.proofs.bars.workers_of.Given as goal

abbrev pub invariant-loop-entry : goal.invariant-loop-entry
invariant-loop-entry l = fold keep_starter l.kept.keys (drop l.entry-index l.entries) ≡ workers l.entries
