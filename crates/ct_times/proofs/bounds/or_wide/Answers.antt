use Rattle.std.proofs.Common.{rules, ◌≡◌, ◌∙◌, ◌∷◌, [], true, Bool, cond, sym, ap}
use Rattle.ct_times.specs.declared.bounds.Capacity.{Capacity}
use Rattle.ct_times.specs.declared.bounds.Capacity.TheVariants.{Wide}
use Rattle.ct_times.specs.Bounds.{IsMeasured, done_by, greater_of, has_wide}
use Rattle.ct_times.specs.First.{wide_capacities}
use Rattle.ct_times.proofs.FirstLemmas.{covers_one}
use Rattle.ct_times.proofs.bounds.or_wide.Goals as goal

pub returns-clause-first : goal.returns-clause-first
returns-clause-first c =
    let plan = c.args.plan.now in
    let done = done_by c.args.works.now in
    let holds : has_wide plan done ≡ true = search rules in
    let measured : IsMeasured plan done c.bound_by.result = search rules in
    let alone : wide_capacities plan done ≡ c.bound_by.result.capacity ∷ [] =
    ap (λ (b : Bool). cond b (Wide ∷ []) []) holds ∙ sym (ap (λ (x : Capacity). x ∷ []) c.bound_by.ensures.capacity) in
    let greater : c.greater.result ≡ greater_of c.args.bound c.bound_by.result = search rules in
    covers_one plan done c.args.bound c.bound_by.result c.greater.result (wide_capacities plan done) c.requires measured greater alone
