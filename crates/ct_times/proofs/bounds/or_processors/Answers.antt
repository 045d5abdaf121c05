use Rattle.std.proofs.Common.{rules, ◌≡◌, ◌∙◌, ◌∷◌, [], ◌≤◌, true, Bool, cond, sym, ap, arith}
use Rattle.std.specs.Prelude.{nat_le}
use Rattle.std.proofs.lemmas.Bool.Decides.{nat_tests}
use Rattle.ct_times.specs.declared.bounds.Capacity.{Capacity}
use Rattle.ct_times.specs.declared.bounds.Capacity.TheVariants.{Processors}
use Rattle.ct_times.specs.Bounds.{IsMeasured, done_by, greater_of}
use Rattle.ct_times.specs.First.{processor_capacities}
use Rattle.ct_times.proofs.FirstLemmas.{covers_one}
use Rattle.ct_times.proofs.bounds.or_processors.Goals as goal

pub returns-clause-first : goal.returns-clause-first
returns-clause-first c =
    let plan = c.args.plan.now in
    let done = done_by c.args.works.now in
    let some : 1 ≤ plan.level = omega (arith, c.if-plan-eq0.false) in
    let holds : nat_le 1 plan.level ≡ true = grind (arith, nat_tests) in
    let measured : IsMeasured plan done c.bound_by.result = search rules in
    let alone : processor_capacities plan ≡ c.bound_by.result.capacity ∷ [] =
    ap (λ (b : Bool). cond b (Processors ∷ []) []) holds ∙ sym (ap (λ (x : Capacity). x ∷ []) c.bound_by.ensures.capacity) in
    let greater : c.greater.result ≡ greater_of c.args.bound c.bound_by.result = search rules in
    covers_one plan done c.args.bound c.bound_by.result c.greater.result (processor_capacities plan) c.requires measured greater alone
