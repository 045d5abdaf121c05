use Rattle.std.proofs.Common.{rules, ◌≡◌, ◌+◌, ◌<◌, ◌^◌, ◌++◌, length, List, ℕ, true, take, drop, get_or, sym, subst}
use Rattle.ct_alloc.specs.Placement.{fits_beside, slots_at}
use Rattle.ct_alloc.specs.Free.{IsWithinSlots, are_there}
use Rattle.ct_alloc.proofs.PickLemmas.{bounded-each, within-taken, written-back}
use Rattle.ct_alloc.proofs.free.Free.take.Goals as goal

pub add-requires-clause-fits : goal.add-requires-clause-fits
add-requires-clause-fits c =
    let there : are_there c.self.inside.resources c.args.placement.now.picks ≡ true = rw (← c.self.view_is) at c.requires.there in
    let fits : fits_beside c.self.inside.resources (λ place. get_or c.self.inside.used.items place 0) c.args.placement.now.picks ≡ true = rw (← c.self.view_is) at c.requires.fits in
    let each : (place : ℕ) → get_or c.self.inside.used.items place 0 + slots_at place c.args.placement.now.picks < 2 ^ 32 = bounded-each c.self.inside.resources c.self.inside.used.items c.args.placement.now.picks c.self.invariant.0 there fits in
    λ place. search (rules, each place)

pub invariant_of-self : goal.invariant_of-self
invariant_of-self c =
    let there : are_there c.self.inside.resources c.args.placement.now.picks ≡ true = rw (← c.self.view_is) at c.requires.there in
    let fits : fits_beside c.self.inside.resources (λ place. get_or c.self.inside.used.items place 0) c.args.placement.now.picks ≡ true = rw (← c.self.view_is) at c.requires.fits in
    let count : length c.add.new.used ≡ length c.self.inside.used.items = search rules in
    let sums : (place : ℕ) → get_or c.add.new.used place 0 ≡ get_or c.self.inside.used.items place 0 + slots_at place c.args.placement.now.picks = search rules in
    let back : take c.self.inside.used.len (c.add.new.used ++ drop (length c.add.new.used) c.self.inside.used.items) ≡ c.add.new.used = written-back c.self.inside.used.len c.add.new.used c.self.inside.used.items (search rules) count in (
      subst (λ (used : List ℕ). IsWithinSlots c.self.inside.resources used) (sym back)
          (within-taken c.self.inside.resources c.self.inside.used.items c.add.new.used c.args.placement.now.picks c.self.invariant.0 there fits count sums),
      c.self.invariant.1,
    )
