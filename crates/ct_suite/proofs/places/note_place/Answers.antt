use Rattle.std.proofs.Common.{sym, refl}
use Rattle.std.proofs.lemmas.Result.{on_ok_weaker}
use Rattle.ct_suite.specs.declared.places.KeyPlaces.TheVariants.{One}
use Rattle.ct_suite.proofs.PlaceLemmas.{places_in-first, places_in-more}
use Rattle.ct_suite.proofs.places.note_place.Goals as goal

pub returns-in-Some : goal.returns-in-Some
returns-in-Some c =
    let pushed = c.add.new.self in
    on_ok_weaker c.add.result (λ more asked. places_in-more c.args.places.now.entries (c.get_mut.follows.lender pushed).entries asked c.args.key.now c.in-Some.here.now pushed c.args.place (c.get_mut.follows.holds pushed).0 (sym c.in-Some.ensures.value) more) c.add.ensures

pub returns-in_ok-insert-in-None : goal.returns-in_ok-insert-in-None
returns-in_ok-insert-in-None c =
    λ asked. places_in-first c.args.places.now.entries c.insert.new.self.entries asked c.args.key.now c.in_ok-from_slice-in-None.field-0 (One c.args.place) c.args.place c.in_ok-from_slice-in-None.ensures.items (sym c.in-None.ensures.value) (rw c.get_mut.follows.holds-at-none at c.in_ok-insert-in-None.ensures.entries) refl
