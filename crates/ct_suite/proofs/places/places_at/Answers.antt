use Rattle.std.proofs.Common.{ap, ◌∙◌}
use Rattle.ct_suite.proofs.PlaceLemmas.{items_or_none, places_in-lookup}
use Rattle.ct_suite.proofs.places.places_at.Goals as goal

pub returns-in-Some : goal.returns-in-Some
returns-in-Some c =
    c.as_slice.ensures
    ∙ ap items_or_none c.in-Some.ensures.value
    ∙ places_in-lookup c.args.key.now c.args.places.now.entries

pub returns-in-None : goal.returns-in-None
returns-in-None c =
    ap items_or_none c.in-None.ensures.value ∙ places_in-lookup c.args.key.now c.args.places.now.entries
