use Rattle.std.proofs.Common.{[], ◌∷◌, ◌++◌, arith, map, subst}
use Rattle.ct_history.specs.declared.plan.PlanParts.{PlanParts}
use Rattle.ct_times.specs.Bounds.{CoversProcessors, CoversWide, IsMeasured, done_by}
use Rattle.ct_times.specs.First.{IsFirstOfAll, held_bound, lock_with, processor_capacities, wide_capacities}
use Rattle.ct_times.proofs.FirstLemmas.{first_alone}
use Rattle.ct_times.proofs.MeasureLemmas.{exact, none_shorter}
use Rattle.ct_times.proofs.bounds.bound_of.Goals as goal

pub returns-clause-measured : goal.returns-clause-measured
returns-clause-measured c =
    subst (λ (p : PlanParts). IsMeasured p (done_by c.args.works.now) c.in_ok-bound.bound) c.parts-parts.ensures.is c.in_ok-bound.ensures.measured

pub returns-clause-processors : goal.returns-clause-processors
returns-clause-processors c =
    let covers : CoversProcessors c.parts-parts.result.now (done_by c.args.works.now) c.in_ok-bound.bound = λ some. omega (arith, c.or_processors-processors.ensures.covers some, c.or_wide-wide.ensures.grew, c.in_ok-lock.ensures.grew, c.in_ok-bound.ensures.grew) in
    subst (λ (p : PlanParts). CoversProcessors p (done_by c.args.works.now) c.in_ok-bound.bound) c.parts-parts.ensures.is covers

pub returns-clause-wide : goal.returns-clause-wide
returns-clause-wide c =
    let covers : CoversWide c.parts-parts.result.now (done_by c.args.works.now) c.in_ok-bound.bound = λ some. omega (arith, c.or_wide-wide.ensures.covers some, c.in_ok-lock.ensures.grew, c.in_ok-bound.ensures.grew) in
    subst (λ (p : PlanParts). CoversWide p (done_by c.args.works.now) c.in_ok-bound.bound) c.parts-parts.ensures.is covers

pub returns-clause-exact : goal.returns-clause-exact
returns-clause-exact c = λ recorded are have.
    let measured : IsMeasured c.args.plan.now (done_by c.args.works.now) c.in_ok-bound.bound = subst (λ (p : PlanParts). IsMeasured p (done_by c.args.works.now) c.in_ok-bound.bound) c.parts-parts.ensures.is c.in_ok-bound.ensures.measured in
    exact c.args.plan.now c.args.works.now recorded are have c.parts-parts.ensures.sound c.in_ok-bound.bound measured

pub returns-clause-shortest : goal.returns-clause-shortest
returns-clause-shortest c = λ recorded are have.
    let measured : IsMeasured c.args.plan.now (done_by c.args.works.now) c.in_ok-bound.bound = subst (λ (p : PlanParts). IsMeasured p (done_by c.args.works.now) c.in_ok-bound.bound) c.parts-parts.ensures.is c.in_ok-bound.ensures.measured in
    none_shorter c.args.plan.now c.args.works.now recorded are have c.parts-parts.ensures.sound c.in_ok-bound.bound measured

pub returns-clause-first : goal.returns-clause-first
returns-clause-first c =
    let plan = c.parts-parts.result.now in
    let done = done_by c.args.works.now in
    let path = c.in_ok-path.path.capacity in
    let locks = c.in_ok-lock.ensures.first in
    let slots = c.in_ok-bound.ensures.first in
    let alone = first_alone (held_bound plan done) path in
    let one = c.or_processors-processors.ensures.first (path ∷ []) alone in
    let two = c.or_wide-wide.ensures.first ((path ∷ []) ++ processor_capacities plan) one in
    let three = locks.covers (((path ∷ []) ++ processor_capacities plan) ++ wide_capacities plan done) two in
    let four = slots.covers ((((path ∷ []) ++ processor_capacities plan) ++ wide_capacities plan done) ++ map (lock_with locks.sharer) locks.locks) three in
    subst (λ (p : PlanParts). IsFirstOfAll p done c.in_ok-bound.bound.capacity) c.parts-parts.ensures.is (record {
      path = path;
      path_is = c.in_ok-path.ensures.heaviest;
      locks = locks.locks;
      locks_are = locks.locks_are;
      sharer = locks.sharer;
      sharers_are = locks.sharers_are;
      asked = slots.asked;
      asked_are = slots.asked_are;
      first = four;
    })
