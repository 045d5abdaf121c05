use Rattle.std.proofs.Common.{rules, ◌≡◌, ◌<◌, ◌≤◌, ◌++◌, ◌∷◌, [], ◌+◌, List, length, get_or, true, sym, ap, subst, arith}
use Rattle.std.specs.Prelude.{slice_get}
use Rattle.ct_base.specs.declared.defs.Need.{Need}
use Rattle.ct_alloc.specs.declared.placement.Pick.{Pick}
use Rattle.ct_alloc.specs.Free.{FreeValue, IsWithinSlots}
use Rattle.ct_alloc.specs.Placement.{meets}
use Rattle.ct_alloc.specs.Spread.{is_of_kind}
use Rattle.ct_alloc.proofs.PlaceLemmas.{PlacedSo, fitting-spread, kind-at, placed-all, placed-next, spread-length}
use Rattle.ct_alloc.proofs.free.Free.placement.Goals as goal

pub bounds-places-at : goal.bounds-places-at
bounds-places-at c = omega (arith, ap (λ (ns : List Need). length ns) c.as_slice-need-items.ensures, spread-length c.args.self.now.resources c.args.needs.now c.args.places.now c.requires.spread.kinds)

pub pick_of-requires-clause-there : goal.pick_of-requires-clause-there
pick_of-requires-clause-there c =
    let item : c.need-item.result ≡ get_or c.args.needs.now c.loop-at.at c.need-item.result = search rules in
    let of : is_of_kind c.need-item.result.kind (slice_get c.args.self.now.resources (get_or c.args.places.now c.loop-at.at 0)) ≡ true =
    kind-at c.args.self.now.resources c.args.needs.now c.args.places.now c.loop-at.at c.need-item.result c.requires.spread.kinds (search rules) item in
    search (rules, of)

pub loop-at-preserved : goal.loop-at-preserved
loop-at-preserved c =
    let item : c.need-item.result ≡ get_or c.args.needs.now c.loop-at.at c.need-item.result = search rules in
    let inside : c.loop-at.at < length c.args.places.now = omega (arith, ap (λ (ns : List Need). length ns) c.as_slice-need-items.ensures, spread-length c.args.self.now.resources c.args.needs.now c.args.places.now c.requires.spread.kinds) in
    let pick : Pick = c.in_ok-pick_of.field-0 in
    let here : meets c.args.self.now.resources c.need-item.result pick ≡ true = search rules in
    let at : pick.resource ≡ get_or c.args.places.now c.loop-at.at 0 = search rules in
    let pushed : c.push.new.self ≡ c.loop-at.picks ++ pick ∷ [] = search rules in
    let next = placed-next c.args.self.now.resources c.args.needs.now c.args.places.now c.loop-at.picks c.loop-at.at c.need-item.result pick (search rules) inside item c.loop-at.invariant here at in
    subst (λ (picks : List Pick). PlacedSo c.args.self.now.resources c.args.needs.now c.args.places.now picks (c.loop-at.at + 1)) (sym pushed) next

pub returns : goal.returns
returns c =
    let within : IsWithinSlots c.args.self.now.resources c.args.self.now.used = subst (λ (f : FreeValue). IsWithinSlots f.resources f.used) c.self.view_is c.self.invariant.0 in
    let over : length c.args.needs.now ≤ c.loop-at.at = omega (arith, ap (λ (ns : List Need). length ns) c.as_slice-need-items.ensures) in
    let all = placed-all c.args.self.now.resources c.args.needs.now c.args.places.now c.loop-at.picks c.loop-at.at over c.requires.spread.kinds c.loop-at.invariant in
    record { fits = fitting-spread c.args.self.now c.args.needs.now c.args.places.now c.loop-at.picks within c.requires.spread all.0 all.1 }
