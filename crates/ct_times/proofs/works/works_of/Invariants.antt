use Rattle.std.proofs.Common.{take}
use Rattle.ct_times.specs.Bounds.{HasThoseThatRan}
use Rattle.ct_times.proofs.CodeLemmas.{AreAdded}
use Rattle.ct_times.proofs.works.works_of.Given as goal

abbrev pub invariant-loop-entry : goal.invariant-loop-entry
invariant-loop-entry l = record {
  added : AreAdded l.works l.entry-index (take l.entry-index l.entries);
  those : HasThoseThatRan l.works (take l.entry-index l.entries);
}
