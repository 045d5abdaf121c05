use Rattle.std.proofs.Common.{◌≡◌, ◌||◌, ℕ, List, take}
use Rattle.ct_core.specs.Sharers.{sharers_of, counts_sharers}
use Rattle.ct_core.proofs.sharers.Sharers.add_each.Given as goal
use Rattle.ct_base.specs.Names.{is_among}

abbrev pub invariant-loop-name : goal.invariant-loop-name
invariant-loop-name l = record {
  counted : (name : List ℕ) → counts_sharers l.self name ≡ (counts_sharers l.initial.self name || is_among name (take l.name-index l.names));
  none : (name : List ℕ) → sharers_of l.self name ≡ 0;
}
