use Rattle.std.proofs.Common.{rules, ◌≡◌, ◌∙◌, ◌∷◌, [], ◌≤◌, true, Bool, cond, map, ap, arith}
use Rattle.std.specs.Prelude.{nat_le}
use Rattle.std.proofs.lemmas.Bool.{and_from}
use Rattle.std.proofs.lemmas.Bool.Decides.{nat_tests}
use Rattle.ct_times.specs.declared.bounds.Capacity.{Capacity}
use Rattle.ct_times.specs.Amounts.{blocks}
use Rattle.ct_times.specs.Asked.{as_slots}
use Rattle.ct_times.specs.Bounds.{IsMeasured, done_by, greater_of, plan_resources}
use Rattle.ct_times.specs.First.{has_block, slot_capacity}
use Rattle.ct_times.proofs.FirstLemmas.{covers_one}
use Rattle.ct_times.proofs.slots.or_block.Goals as goal

pub returns-clause-first : goal.returns-clause-first
returns-clause-first c =
    let plan = c.args.plan.now in
    let done = done_by c.args.works.now in
    let slots = as_slots c.args.slots.now in
    let held = blocks slots.0 slots.1 (plan_resources plan) in
    let some : 1 ≤ slots.1 = omega (arith, c.if-slots-eq0.false) in
    let size : c.in_ok-size.size ≡ held = search rules in
    let room : 1 ≤ held = omega (arith, c.if-size-eq0.false, size) in
    let first : nat_le 1 slots.1 ≡ true = grind (arith, nat_tests) in
    let second : nat_le 1 held ≡ true = grind (arith, nat_tests) in
    let holds : has_block plan slots ≡ true = and_from (nat_le 1 slots.1) (nat_le 1 held) first second in
    let measured : IsMeasured plan done c.bound_by.result = search rules in
    let named : slot_capacity slots ≡ c.bound_by.result.capacity = search rules in
    let alone : map slot_capacity (cond (has_block plan slots) (slots ∷ []) []) ≡ c.bound_by.result.capacity ∷ [] =
    ap (λ (b : Bool). map slot_capacity (cond b (slots ∷ []) [])) holds ∙ ap (λ (x : Capacity). x ∷ []) named in
    let greater : c.greater.result ≡ greater_of c.args.bound c.bound_by.result = search rules in
    covers_one plan done c.args.bound c.bound_by.result c.greater.result (map slot_capacity (cond (has_block plan slots) (slots ∷ []) [])) c.requires measured greater alone
