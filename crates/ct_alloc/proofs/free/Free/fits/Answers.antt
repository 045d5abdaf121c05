use Rattle.std.proofs.Common.{rules, ◌≡◌, ◌∙◌, sym, ap, subst, Bool, true, false, List, length, nat_lt}
use Rattle.std.specs.List.{list_all}
use Rattle.ct_alloc.specs.declared.placement.Pick.{Pick}
use Rattle.ct_alloc.specs.Placement.{fits_beside}
use Rattle.ct_alloc.specs.Free.{FreeValue, IsWithinSlots, used_at}
use Rattle.ct_alloc.proofs.PickLemmas.{all-not, all-passed, fits-by-picks, have_room}
use Rattle.ct_alloc.proofs.free.Free.fits.Goals as goal

fits-of : (free : FreeValue) (picks asked : List Pick) → IsWithinSlots free.resources free.used → picks ≡ asked → list_all (λ (pick : Pick). nat_lt pick.resource (length free.resources)) asked ≡ true → (test : Bool) → test ≡ list_all (have_room free.resources free.used picks) picks → test ≡ fits_beside free.resources (used_at free) asked
fits-of free picks asked within same there test is =
    is ∙ ap (λ (t : List Pick). list_all (have_room free.resources free.used t) t) same ∙ fits-by-picks free.resources free.used asked within there

pub returns : goal.returns
returns c =
    let within : IsWithinSlots c.args.self.now.resources c.args.self.now.used = subst (λ (f : FreeValue). IsWithinSlots f.resources f.used) c.self.view_is c.self.invariant.0 in
    fits-of c.args.self.now c.as_slice-picks.result.now c.args.placement.now.picks within c.as_slice-picks.ensures c.requires.there true
    (all-passed (have_room c.args.self.now.resources c.args.self.now.used c.as_slice-picks.result.now) c.as_slice-picks.result.now c.loop-pick.pick-index c.loop-pick-test.false c.loop-pick.invariant)

pub returns-then-not-has_room : goal.returns-then-not-has_room
returns-then-not-has_room c =
    let within : IsWithinSlots c.args.self.now.resources c.args.self.now.used = subst (λ (f : FreeValue). IsWithinSlots f.resources f.used) c.self.view_is c.self.invariant.0 in
    let not : have_room c.args.self.now.resources c.args.self.now.used c.as_slice-picks.result.now c.pick-item.result ≡ false = search rules in
    fits-of c.args.self.now c.as_slice-picks.result.now c.args.placement.now.picks within c.as_slice-picks.ensures c.requires.there false
    (sym (all-not (have_room c.args.self.now.resources c.args.self.now.used c.as_slice-picks.result.now) c.as_slice-picks.result.now c.loop-pick.pick-index c.pick-item.result c.loop-pick-test.true c.pick-item.is not))
