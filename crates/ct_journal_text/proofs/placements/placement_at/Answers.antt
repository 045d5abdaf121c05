use Rattle.std.proofs.Common.{subst, sym}
use Rattle.ct_journal_text.specs.Completed.{IsPlacementAt}
use Rattle.ct_journal_text.proofs.PlacementLemmas.{completes}
use Rattle.ct_journal_text.proofs.placements.placement_at.Goals as goal

pub returns : goal.returns
returns c =
    let resources = c.args.resources.now in
    let needs = c.args.needs.now in
    let places = c.args.places.now in
    subst (IsPlacementAt resources needs places) (sym c.in_ok-placement_of.ensures) (completes resources needs places)
