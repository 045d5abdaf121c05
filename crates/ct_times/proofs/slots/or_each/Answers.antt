use Rattle.std.proofs.Common.{rules, ◌≡◌, ◌≤◌, ◌<◌, arith, get_or, length, map, subst}
use Rattle.std.specs.Prelude.{List, filter}
use Rattle.std.proofs.lemmas.List.{take_all}
use Rattle.ct_times.specs.declared.slots.Asked.{Asked}
use Rattle.ct_times.specs.Asked.{as_slots}
use Rattle.ct_times.specs.Bounds.{done_by}
use Rattle.ct_times.specs.First.{Covers, has_block, slot_capacity}
use Rattle.ct_times.proofs.FirstLemmas.{covers_none}
use Rattle.ct_times.proofs.AskedLemmas.{covers_next}
use Rattle.ct_times.proofs.slots.or_each.Goals as goal

pub loop-at-init : goal.loop-at-init
loop-at-init c = record {
  measured = c.requires;
  grew = omega arith;
  covers = covers_none c.args.plan.now (done_by c.args.works.now) c.args.bound;
}

pub loop-at-preserved : goal.loop-at-preserved
loop-at-preserved c =
    let items = c.args.asked.now in
    let at = c.loop-at.at in
    let x = c.asked_at.result.now in
    let within : at < length items = search rules in
    let is : x ≡ get_or items at x = search rules in
    record {
      measured = c.in_ok-most.ensures.measured;
      grew = omega (arith, c.loop-at.invariant.grew, c.in_ok-most.ensures.grew);
      covers = covers_next c.args.plan.now (done_by c.args.works.now) c.args.bound c.loop-at.most c.in_ok-most.most items at x within is c.loop-at.invariant.covers c.in_ok-most.ensures.first;
    }

pub returns-clause-first : goal.returns-clause-first
returns-clause-first c =
    let items = c.args.asked.now in
    let past : length items ≤ c.loop-at.at = search rules in
    subst (λ (xs : List Asked). Covers c.args.plan.now (done_by c.args.works.now) c.args.bound (map slot_capacity (filter (has_block c.args.plan.now) (map as_slots xs))) c.loop-at.most)
    (take_all c.loop-at.at items past) c.loop-at.invariant.covers
