use Rattle.std.proofs.Common.{◌≡◌, ◌||◌, ℕ, List, take}
use Rattle.ct_core.specs.Locks.{is_held, knows}
use Rattle.ct_core.proofs.locks.Locks.hold.Given as goal
use Rattle.ct_base.specs.Names.{is_among}

abbrev pub invariant-loop-name : goal.invariant-loop-name
invariant-loop-name l = record {
  known : (name : List ℕ) → knows l.self name ≡ knows l.initial.self name;
  held : (name : List ℕ) → is_held l.self name ≡ (is_held l.initial.self name || is_among name (take l.name-index l.names));
}
