use Rattle.std.proofs.Common.{◌≡◌, take, map}
use Rattle.ct_alloc.specs.declared.placement.Pick.{Pick}
use Rattle.ct_journal_text.proofs.writer.resources_of.Given as goal

abbrev pub invariant-loop-pick : goal.invariant-loop-pick
invariant-loop-pick l = l.places ≡ map (λ (pick : Pick). pick.resource) (take l.pick-index l.placement.picks)
