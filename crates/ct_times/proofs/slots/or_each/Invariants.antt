use Rattle.std.proofs.Common.{◌≤◌, map, take}
use Rattle.std.specs.Prelude.{filter}
use Rattle.ct_times.specs.Asked.{as_slots}
use Rattle.ct_times.specs.Bounds.{IsMeasured, done_by}
use Rattle.ct_times.specs.First.{Covers, has_block, slot_capacity}
use Rattle.ct_times.proofs.slots.or_each.Given as goal

abbrev pub invariant-loop-at : goal.invariant-loop-at
invariant-loop-at l = record {
  measured : IsMeasured l.plan (done_by l.works) l.most;
  grew : l.fn.bound.micros ≤ l.most.micros;
  covers : Covers l.plan (done_by l.works) l.fn.bound (map slot_capacity (filter (has_block l.plan) (map as_slots (take l.at l.asked)))) l.most;
}
