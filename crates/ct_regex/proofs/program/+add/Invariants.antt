use Rattle.std.proofs.Common.{◌≡◌, true, false, ◌∷◌, ◌++◌, map, drop, length}
use Rattle.ct_regex.specs.Tree.{sequence_of, branch_of}
use Rattle.ct_regex.specs.Meaning.{meaning}
use Rattle.ct_regex.specs.Walk.{step_of, fork, no_marks, steps_of}
use Rattle.ct_regex.proofs.program.+add.Given as goal

abbrev pub invariant-add_parts-loop-i : goal.invariant-add_parts-loop-i
invariant-add_parts-loop-i l = record {
  steps : map step_of l.all.steps.items ++ steps_of false (length l.all.marks.items) (sequence_of (map meaning (drop l.i l.parts)))
      ≡ map step_of l.fn.program.steps.items ++ steps_of false (length l.fn.program.marks.items) (sequence_of (map meaning l.parts));
  marks : l.all.marks.items ++ no_marks (sequence_of (map meaning (drop l.i l.parts))) ≡ l.fn.program.marks.items ++ no_marks (sequence_of (map meaning l.parts));
}

abbrev pub invariant-add_branches-loop-i : goal.invariant-add_branches-loop-i
invariant-add_branches-loop-i l = record {
  steps : map step_of l.all.steps.items ++ steps_of true (length l.all.marks.items) (branch_of (map meaning (drop l.i l.branches)))
      ≡ map step_of l.fn.program.steps.items ++ fork ∷ steps_of true (length l.fn.program.marks.items) (branch_of (map meaning l.branches));
  marks : l.all.marks.items ++ no_marks (branch_of (map meaning (drop l.i l.branches))) ≡ l.fn.program.marks.items ++ no_marks (branch_of (map meaning l.branches));
}
