use Rattle.std.proofs.Common.{rules, ◌≡◌, List, ℕ, map, subst}
use Rattle.std.specs.Borrow.{Bor}
use Rattle.ct_times.specs.Bounds.{done_by}
use Rattle.ct_times.specs.First.{Covers, lock_with}
use Rattle.ct_times.specs.Locks.{lock_at, sharer_in}
use Rattle.ct_times.proofs.locks.or_lock.Goals as goal

pub returns-clause-first : goal.returns-clause-first
returns-clause-first c =
    let now = λ (n : Bor (List ℕ)). n.now in
    let locks = c.in_ok-locks.locks in
    let names = map now c.in_ok-held.held.items in
    let sharer = λ (lock : List ℕ). sharer_in (lock_at locks lock) in
    let same : c.as_slice.result.now ≡ c.in_ok-held.held.items = search rules in
    record {
      locks = names;
      locks_are = c.in_ok-held.ensures;
      sharer = sharer;
      sharers_are = λ lock. (c.in_ok-locks.ensures lock).sharer;
      covers = subst (λ (bs : List (Bor (List ℕ))). Covers c.args.plan.now (done_by c.args.works.now) c.args.bound (map (lock_with sharer) (map now bs)) c.in_ok-bound.bound) same c.in_ok-bound.ensures.first;
    }
