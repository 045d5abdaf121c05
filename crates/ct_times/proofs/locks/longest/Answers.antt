use Rattle.std.proofs.Common.{rules, ◌≡◌, ◌<◌, true, false, Bool, cond, List, ℕ, get_or, length, map, subst, sym, take}
use Rattle.std.specs.Prelude.{Option, Some, ◌+◌}
use Rattle.std.specs.Borrow.{Bor}
use Rattle.ct_times.specs.Locks.{IsLongestSoFar, is_above, lock_at, lock_micros}
use Rattle.ct_times.proofs.LockBoundLemmas.{longest_more}
use Rattle.ct_times.proofs.locks.longest.Goals as goal
use Rattle.ct_times.proofs.locks.longest.Goals.{then-is_above, else-is_above}

pub loop-at-preserved : goal.loop-at-preserved
loop-at-preserved c =
    let names = c.args.held.now in
    let at = c.loop-at.at in
    let name = c.name_at-name.result in
    let micros = c.lock_micros-micros.result in
    let found = c.loop-at.found in
    let most = c.loop-at.most in
    let value = λ (lock : List ℕ). lock_micros c.args.lone (lock_at c.args.locks.now lock) in
    let front = map (λ (n : Bor (List ℕ)). n.now) (take (at + 1) names) in
    let within : at < length names = search rules in
    let is : name ≡ get_or names at name = search rules in
    let micros_is : micros ≡ value name.now = search rules in
    let next = longest_more value names at name micros found most within is micros_is c.loop-at.invariant in
    elim c.if-is_above.branch [
      | then-is_above w ↦
          let above : is_above micros most ≡ true = search rules in
          let found_is : c.if-is_above.found ≡ Some name = search rules in
          let most_is : c.if-is_above.most ≡ Some micros = search rules in
          subst (λ (o : Option (Bor (List ℕ))). IsLongestSoFar value front o c.if-is_above.most) (sym found_is)
          (subst (λ (m : Option ℕ). IsLongestSoFar value front (Some name) m) (sym most_is)
          (subst (λ (b : Bool). IsLongestSoFar value front (cond b (Some name) found) (cond b (Some micros) most)) above next))
      | else-is_above w ↦
          let above : is_above micros most ≡ false = search rules in
          let found_is : c.if-is_above.found ≡ found = search rules in
          let most_is : c.if-is_above.most ≡ most = search rules in
          subst (λ (o : Option (Bor (List ℕ))). IsLongestSoFar value front o c.if-is_above.most) (sym found_is)
          (subst (λ (m : Option ℕ). IsLongestSoFar value front found m) (sym most_is)
          (subst (λ (b : Bool). IsLongestSoFar value front (cond b (Some name) found) (cond b (Some micros) most)) above next))
    ]
