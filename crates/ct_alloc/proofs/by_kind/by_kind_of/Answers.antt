use Rattle.std.proofs.Common.{◌≡◌, ◌∙◌, ◌++◌, ◌∷◌, [], bytes_eq, cond, ap}
use Rattle.ct_alloc.specs.ByKind.{places_for}
use Rattle.ct_alloc.proofs.ByKindLemmas.{cards-next}
use Rattle.ct_alloc.proofs.by_kind.by_kind_of.Goals as goal

pub loop-place-preserved : goal.loop-place-preserved
loop-place-preserved c = λ kind.
    let old = places_for c.loop-place.by_kind kind in
    let now = places_for c.note.new.by_kind kind in
    let place = c.loop-place.place in
    let resource = c.index-resources-place.result in
    let noted : now ≡ cond (bytes_eq resource.kind kind) (old ++ place ∷ []) old =
    c.in_ok-note.ensures kind ∙ ap (λ k. cond (bytes_eq k kind) (old ++ place ∷ []) old) c.bytes.ensures in
    cards-next old now kind c.args.resources.now place resource c.loop-place-test.true c.index-resources-place.is noted ∙ c.loop-place.invariant kind
