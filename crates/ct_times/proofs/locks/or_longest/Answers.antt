use Rattle.std.proofs.Common.{rules, ◌≡◌, ◌^◌, [], List, ℕ, map, subst, sym}
use Rattle.std.specs.Prelude.{Option, Some, None, ◌-◌, min, option_map}
use Rattle.std.specs.Borrow.{Bor}
use Rattle.ct_times.specs.declared.bounds.Capacity.{Capacity}
use Rattle.ct_times.specs.declared.bounds.Bound.{Bound}
use Rattle.ct_times.specs.Bounds.{IsMeasured, done_by, greater_of}
use Rattle.ct_times.specs.First.{Covers, IsFirstIfAny, IsFirstOf, held_bound, lock_with}
use Rattle.ct_times.specs.Locks.{lock_at, lone_work, lock_micros, sharer_in}
use Rattle.ct_times.proofs.FirstLemmas.{covers_first, covers_none, first_mapped, greater_measured}
use Rattle.ct_times.proofs.LockBoundLemmas.{first_same, lock_bound}
use Rattle.ct_times.proofs.locks.or_longest.Goals as goal

pub returns-in_default-clause-first : goal.returns-in_default-clause-first
returns-in_default-clause-first c =
    let plan = c.args.plan.now in
    let done = done_by c.args.works.now in
    let locks = c.args.locks.now in
    let names = map (λ (n : Bor (List ℕ)). n.now) c.args.held.now in
    let sharer = λ (lock : List ℕ). sharer_in (lock_at locks lock) in
    let none : c.longest.result ≡ None = search rules in
    let empty : names ≡ [] = subst (λ (o : Option (Bor (List ℕ))). IsFirstIfAny (λ (lock : List ℕ). lock_micros c.lone_work-lone.result (lock_at locks lock)) names (option_map (λ (n : Bor (List ℕ)). n.now) o)) none c.longest.ensures in
    subst (λ (ns : List (List ℕ)). Covers plan done c.args.bound (map (lock_with sharer) ns) c.args.bound) (sym empty) (covers_none plan done c.args.bound)

pub returns-clause-measured : goal.returns-clause-measured
returns-clause-measured c =
    let plan = c.args.plan.now in
    let done = done_by c.args.works.now in
    let measured : IsMeasured plan done c.bound_by.result = search rules in
    let greater : c.greater.result ≡ greater_of c.args.bound c.bound_by.result = search rules in
    subst (λ (b : Bound). IsMeasured plan done b) (sym greater) (greater_measured plan done c.args.bound c.bound_by.result c.requires.measured measured)

pub returns-clause-first : goal.returns-clause-first
returns-clause-first c =
    let plan = c.args.plan.now in
    let done = done_by c.args.works.now in
    let locks = c.args.locks.now in
    let names = map (λ (n : Bor (List ℕ)). n.now) c.args.held.now in
    let sharer = λ (lock : List ℕ). sharer_in (lock_at locks lock) in
    let lone = c.lone_work-lone.result in
    let name = c.in-Some.name in
    let lone_is : lone ≡ min (lone_work plan.level done plan.tests) (2 ^ 128 - 1) = search rules in
    let some : c.longest.result ≡ Some name = search rules in
    let value = λ (lock : List ℕ). lock_micros lone (lock_at locks lock) in
    let told : IsFirstOf value names name.now = subst (λ (o : Option (Bor (List ℕ))). IsFirstIfAny value names (option_map (λ (n : Bor (List ℕ)). n.now) o)) some c.longest.ensures in
    let bounds : IsFirstOf (λ (lock : List ℕ). held_bound plan done (lock_with sharer lock)) names name.now =
    first_same value (λ (lock : List ℕ). held_bound plan done (lock_with sharer lock)) (λ lock. lock_bound plan done lock (lock_at locks lock) lone lone_is (c.requires.locks lock)) names name.now told
    in
    let measured : IsMeasured plan done c.bound_by.result = search rules in
    let greater : c.greater.result ≡ greater_of c.args.bound c.bound_by.result = search rules in
    let named : lock_with sharer name.now ≡ c.bound_by.result.capacity = search rules in
    covers_first plan done c.args.bound c.bound_by.result c.greater.result (map (lock_with sharer) names) c.requires.measured measured greater
    (subst (λ (x : Capacity). IsFirstOf (held_bound plan done) (map (lock_with sharer) names) x) named (first_mapped (held_bound plan done) (lock_with sharer) names name.now bounds))
