use Rattle.std.proofs.Common.{◌≡◌, ◌∙◌, ◌++◌, ◌∷◌, [], ap, sym, is_some, cond, bytes_eq}
use Rattle.ct_base.specs.Found.{or_none}
use Rattle.ct_alloc.specs.ByKind.{places_for}
use Rattle.ct_alloc.proofs.ByKindLemmas.{noted}
use Rattle.ct_alloc.proofs.by_kind.note.Goals as goal

pub returns-in_ok-push-in-Some : goal.returns-in_ok-push-in-Some
returns-in_ok-push-in-Some c =
    let places = c.push.new.self in
    let updates = (c.get_mut.follows.holds places).3 (ap is_some (sym c.in-Some.ensures.value)) in
    noted c.args.by_kind.now (c.get_mut.follows.lender places) c.args.kind.now c.in-Some.places.now.items places c.args.place updates (ap or_none c.in-Some.ensures.value) c.in_ok-push-in-Some.ensures.items

pub returns-in_ok-insert-in-None : goal.returns-in_ok-insert-in-None
returns-in_ok-insert-in-None c = λ asked.
    let old = c.args.by_kind.now in
    let place = c.args.place in
    let own = c.in_ok-from_slice-in-None.field-0.items in
    let is_own : own ≡ c.args.kind.now = c.in_ok-from_slice-in-None.ensures.items in
    let none : [] ≡ places_for old own = ap or_none c.in-None.ensures.value ∙ ap (places_for old) (sym is_own) in
    let updates = rw c.get_mut.follows.holds-at-none at c.in_ok-insert-in-None.ensures.updates in
    noted old c.insert.new.self own c.new-first.result.items c.push-in-None.new.self place updates (c.new-first.ensures.items ∙ none) c.in_ok-push-in-None.ensures.items asked
    ∙ ap (λ kind. cond (bytes_eq kind asked) (places_for old asked ++ place ∷ []) (places_for old asked)) is_own
