use Rattle.std.proofs.Common.{rules, ◌≡◌, ◌-◌, ◌++◌, length, List, ℕ, take, drop, get_or, sym, subst}
use Rattle.ct_alloc.specs.Placement.{slots_at}
use Rattle.ct_alloc.specs.Free.{IsWithinSlots}
use Rattle.ct_alloc.proofs.PickLemmas.{within-given, written-back}
use Rattle.ct_alloc.proofs.free.Free.give.Goals as goal

pub invariant_of-self : goal.invariant_of-self
invariant_of-self c =
    let count : length c.subtract.new.used ≡ length c.self.inside.used.items = search rules in
    let sums : (place : ℕ) → get_or c.subtract.new.used place 0 ≡ get_or c.self.inside.used.items place 0 - slots_at place c.args.placement.now.picks = search rules in
    let back : take c.self.inside.used.len (c.subtract.new.used ++ drop (length c.subtract.new.used) c.self.inside.used.items) ≡ c.subtract.new.used = written-back c.self.inside.used.len c.subtract.new.used c.self.inside.used.items (search rules) count in (
      subst (λ (used : List ℕ). IsWithinSlots c.self.inside.resources used) (sym back)
          (within-given c.self.inside.resources c.self.inside.used.items c.subtract.new.used c.args.placement.now.picks c.self.invariant.0 count sums),
      c.self.invariant.1,
    )
