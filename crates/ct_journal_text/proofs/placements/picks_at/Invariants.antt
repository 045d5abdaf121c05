use Rattle.std.proofs.Common.{◌≡◌, drop}
use Rattle.ct_journal_text.specs.Completed.{picks_by}
use Rattle.ct_journal_text.proofs.PlacementLemmas.{with_front}
use Rattle.ct_journal_text.proofs.placements.picks_at.Given as goal

abbrev pub invariant-loop-at : goal.invariant-loop-at
invariant-loop-at l = with_front l.picks (picks_by l.resources (drop l.at l.needs) (drop l.at l.places)) ≡ picks_by l.resources l.needs l.places
