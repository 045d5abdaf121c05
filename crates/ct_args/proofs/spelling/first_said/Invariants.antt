use Rattle.std.proofs.Common.{◌≡◌, map, drop}
use Rattle.ct_args.specs.Spelling.{first_said, spelling_of}
use Rattle.ct_args.proofs.spelling.first_said.Given as goal

abbrev pub invariant-loop-row : goal.invariant-loop-row
invariant-loop-row l = first_said l.word (map spelling_of (drop l.row-index l.rows)) ≡ first_said l.word (map spelling_of l.rows)
