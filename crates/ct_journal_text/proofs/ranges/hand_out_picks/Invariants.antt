use Rattle.ct_alloc.specs.declared.placement.Pick.{Pick}
use Rattle.ct_journal_text.specs.Journal.{IsOf32Bits}
use Rattle.ct_journal_text.proofs.RangeLemmas.{HoldIfRest}
use Rattle.ct_journal_text.proofs.ranges.hand_out_picks.Given as goal

abbrev pub invariant-loop-pick : goal.invariant-loop-pick
invariant-loop-pick l = HoldIfRest (λ (pick : Pick). IsOf32Bits pick.resource) l.placement.picks l.pick-index
