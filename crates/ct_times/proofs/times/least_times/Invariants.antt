use Rattle.std.proofs.Common.{take}
use Rattle.ct_times.proofs.CodeLemmas.{AreNoted}
use Rattle.ct_times.proofs.times.least_times.Given as goal

abbrev pub invariant-loop-entry : goal.invariant-loop-entry
invariant-loop-entry l = AreNoted l.times l.now l.starts l.entry-index (take l.entry-index l.entries)
