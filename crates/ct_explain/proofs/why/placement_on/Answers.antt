use Rattle.ct_journal_text.specs.Completed.{IsPlacementAt}
use Rattle.ct_explain.proofs.WhyLemmas.{placed_by}
use Rattle.ct_explain.proofs.why.placement_on.Goals as goal

pub returns : goal.returns
returns c =
    let is : IsPlacementAt c.args.resources.now c.args.test.now.needs c.args.places.now c.in_ok-placement_at.field-0 = rw c.as_slice.ensures at c.in_ok-placement_at.ensures in
    placed_by c.args.resources.now c.args.test.now.needs c.args.places.now c.in_ok-placement_at.field-0 is
