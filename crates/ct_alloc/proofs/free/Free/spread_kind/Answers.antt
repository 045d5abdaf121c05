use Rattle.std.proofs.Common.{rules, ◌≡◌, ℕ, List, map, get_or, sym, subst}
use Rattle.ct_base.specs.declared.defs.Need.{Need}
use Rattle.ct_alloc.specs.Packing.{CannotPack, IsPacking}
use Rattle.ct_alloc.specs.Spread.{IsSpread, sizes_of}
use Rattle.ct_alloc.proofs.SpreadLemmas.{cards_of, free_of, none-packed, spread-packed}
use Rattle.ct_alloc.proofs.free.Free.spread_kind.Goals as goal

pub returns-in-Some : goal.returns-in-Some
returns-in-Some c =
    let needs : List Need = map (λ n. n.now) c.args.needs.now in
    let packs : IsPacking (free_of c.args.self.now c.args.kind.now) (sizes_of needs) c.in-Some.found.items = search rules in
    let places : c.in_ok-places_of-in-Some.field-0.items ≡ map (λ card. get_or (cards_of c.args.self.now c.args.kind.now) card 0) c.in-Some.found.items = search rules in
    record { exact = subst (λ (ps : List ℕ). IsSpread c.args.self.now needs ps) (sym places) (spread-packed c.args.self.now c.args.kind.now needs c.in-Some.found.items c.requires.alike packs) }

pub returns : goal.returns
returns c =
    let needs : List Need = map (λ n. n.now) c.args.needs.now in
    let none : CannotPack (free_of c.args.self.now c.args.kind.now) (sizes_of needs) = search rules in
    record { exact = none-packed c.args.self.now c.args.kind.now needs c.requires.alike none }
