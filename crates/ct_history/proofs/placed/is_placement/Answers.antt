use Rattle.std.proofs.Common.{sym}
use Rattle.std.proofs.lemmas.Bool.{false_from_ne_true}
use Rattle.ct_alloc.specs.Placement.{is_placement}
use Rattle.ct_history.proofs.SlotLemmas.{placement-length}
use Rattle.ct_history.proofs.placed.is_placement.Goals as goal

pub returns-then-needs-picks : goal.returns-then-needs-picks
returns-then-needs-picks c =
    let rs = c.args.resources.now in
    let needs = c.args.needs.now in
    let picks = c.args.picks.now in
    sym (false_from_ne_true (is_placement rs needs picks) (λ all. c.if-needs-picks.true (placement-length rs needs picks all)))
