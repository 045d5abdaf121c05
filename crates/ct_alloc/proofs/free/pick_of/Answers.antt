use Rattle.std.proofs.Common.{rules, ◌≡◌, refl}
use Rattle.ct_alloc.proofs.PlaceLemmas.{pick-meets}
use Rattle.ct_alloc.proofs.free.pick_of.Goals as goal

pub returns-clause-meets : goal.returns-clause-meets
returns-clause-meets c =
    let kind : c.in_ok-copy.field-0 ≡ c.args.need.now.kind = search rules in
    let id : c.in_ok-copy-2.field-0 ≡ c.index-resources-place.result.id = search rules in
    pick-meets c.args.resources.now c.args.need.now (record { group = c.args.need.now.group; kind = c.in_ok-copy.field-0; id = c.in_ok-copy-2.field-0; slots = c.args.need.now.slots; resource = c.args.place }) c.index-resources-place.result c.requires.there c.index-resources-place.is refl kind refl id
