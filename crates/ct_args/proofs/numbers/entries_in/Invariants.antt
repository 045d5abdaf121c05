use Rattle.std.proofs.Common.{◌≡◌, drop, map}
use Rattle.ct_groups.specs.Description.{pieces_of}
use Rattle.ct_args.specs.Values.{entries_in}
use Rattle.ct_args.proofs.EntryLemmas.{entries_before}
use Rattle.ct_args.proofs.numbers.entries_in.Given as goal

abbrev pub invariant-loop-piece : goal.invariant-loop-piece
invariant-loop-piece l = entries_before l.entries (entries_in (map (λ piece. piece.now) (drop l.piece-index l.piece-items))) ≡ entries_in (pieces_of l.text)
