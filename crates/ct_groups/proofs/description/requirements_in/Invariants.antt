use Rattle.std.proofs.Common.{◌≡◌, drop}
use Rattle.ct_groups.specs.Description.{requirements_of}
use Rattle.ct_groups.proofs.ReadLemmas.{behind}
use Rattle.ct_groups.proofs.description.requirements_in.Given as goal

abbrev pub invariant-loop-piece : goal.invariant-loop-piece
invariant-loop-piece l = behind l.requirements (requirements_of (drop l.piece-index l.pieces)) ≡ requirements_of l.pieces
