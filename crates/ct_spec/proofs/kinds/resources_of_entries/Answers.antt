use Rattle.std.proofs.Common.{rules, ◌≡◌, ◌<◌, ◌++◌, ◌∷◌, ◌∙◌, [], length, get_or, ap, sym, ◌+◌}
use Rattle.std.proofs.lemmas.List.{map_push}
use Rattle.ct_base.specs.declared.defs.Resource.{Resource}
use Rattle.ct_spec.proofs.ReadLemmas.{entry_more, from_place, ids_of}
use Rattle.ct_spec.proofs.kinds.resources_of_entries.Goals as goal
use Rattle.ct_base.specs.Names.{is_among}

pub loop-place-preserved : goal.loop-place-preserved
loop-place-preserved c =
    let entries = c.args.entries.now in
    let found = c.loop-place.resources in
    let one = c.in_ok-resource.resource in
    let entry = c.index-entries-place.result in
    let within : c.loop-place.place < length entries = search rules in
    let is : entry ≡ get_or entries c.loop-place.place entry = search rules in
    let pushed : c.push.new.self ≡ found ++ one ∷ [] = search rules in
    let bytes : c.bytes.result.now ≡ one.id = search rules in
    let said = c.in_ok-resource.ensures (ids_of found) c.loop-place.invariant.1 in
    let taken = c.in_ok-ids.ensures (ids_of found) c.loop-place.invariant.1 in (
      ap (from_place c.args.kind.now entries (c.loop-place.place + 1)) pushed
          ∙ entry_more c.args.kind.now entries c.loop-place.place found entry one (from_place c.args.kind.now entries 0 []) within is said c.loop-place.invariant.0,
      λ id. taken id ∙ ap (is_among id) ((λ i. ids_of found ++ bytes i ∷ []) ∙ sym (map_push (λ (r : Resource). r.id) found one) ∙ ap ids_of (sym pushed)),
    )
