use Rattle.std.proofs.Common.{take}
use Rattle.ct_history.specs.Course.{AreCourses}
use Rattle.ct_history.proofs.course.courses_of.Given as goal

abbrev pub invariant-loop-entry : goal.invariant-loop-entry
invariant-loop-entry l = AreCourses l.courses (take l.entry-index l.entries)
