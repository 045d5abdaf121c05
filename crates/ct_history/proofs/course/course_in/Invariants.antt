use Rattle.std.proofs.Common.{◌≡◌, take}
use Rattle.ct_history.specs.Course.{course_in}
use Rattle.ct_history.proofs.course.course_in.Given as goal

abbrev pub invariant-loop-entry : goal.invariant-loop-entry
invariant-loop-entry l = l.course ≡ course_in (take l.entry-index l.entries) l.test
