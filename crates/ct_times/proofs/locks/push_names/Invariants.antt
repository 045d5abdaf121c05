use Rattle.std.proofs.Common.{◌≡◌, ◌++◌, List, ℕ, map, take}
use Rattle.std.specs.Borrow.{Bor}
use Rattle.ct_times.proofs.locks.push_names.Given as goal

abbrev pub invariant-loop-name : goal.invariant-loop-name
invariant-loop-name l =
    map (λ (name : Bor (List ℕ)). name.now) l.held.items ≡ map (λ (name : Bor (List ℕ)). name.now) l.fn.held.items ++ take l.name-index l.names
