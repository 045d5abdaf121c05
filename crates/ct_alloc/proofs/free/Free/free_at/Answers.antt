use Rattle.std.proofs.Common.{rules, ◌≡◌, get_or, arith}
use Rattle.std.specs.Prelude.{None, slice_get}
use Rattle.ct_alloc.specs.Free.{slot_counts}
use Rattle.ct_alloc.proofs.PickLemmas.{no-slots}
use Rattle.ct_alloc.proofs.free.Free.free_at.Goals as goal

pub returns-in-None : goal.returns-in-None
returns-in-None c =
    let none : slice_get c.args.self.now.resources c.args.place ≡ None = search rules in
    let zero_slots : get_or (slot_counts c.args.self.now.resources) c.args.place 0 ≡ 0 = no-slots c.args.self.now.resources c.args.place none in
    omega arith
