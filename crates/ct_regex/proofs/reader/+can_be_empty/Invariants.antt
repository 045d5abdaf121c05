use Rattle.std.proofs.Common.{◌≡◌, map, drop}
use Rattle.ct_regex.specs.Tree.{sequence_of, branch_of}
use Rattle.ct_regex.specs.Meaning.{meaning}
use Rattle.ct_regex.specs.Reading.{can_be_empty}
use Rattle.ct_regex.proofs.reader.+can_be_empty.Given as goal

abbrev pub invariant-all_can_be_empty-loop-i : goal.invariant-all_can_be_empty-loop-i
invariant-all_can_be_empty-loop-i l = can_be_empty (sequence_of (map meaning (drop l.i l.parts))) ≡ can_be_empty (sequence_of (map meaning l.parts))

abbrev pub invariant-any_can_be_empty-loop-i : goal.invariant-any_can_be_empty-loop-i
invariant-any_can_be_empty-loop-i l = can_be_empty (branch_of (map meaning (drop l.i l.branches))) ≡ can_be_empty (branch_of (map meaning l.branches))
