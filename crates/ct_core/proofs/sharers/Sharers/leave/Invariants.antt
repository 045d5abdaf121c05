use Rattle.std.proofs.Common.{◌≡◌, ◌-◌, ℕ, List, take, true}
use Rattle.ct_core.specs.Sharers.{sharers_of, counts_sharers, has_mark, one_if}
use Rattle.ct_core.proofs.sharers.Sharers.leave.Given as goal
use Rattle.ct_base.specs.Names.{is_among}

abbrev pub invariant-loop-name : goal.invariant-loop-name
invariant-loop-name l = record {
  counted : (name : List ℕ) → counts_sharers l.self name ≡ counts_sharers l.initial.self name;
  changed : (name : List ℕ) → sharers_of l.self name ≡ sharers_of l.initial.self name - one_if (is_among name (take l.name-index l.names));
  marked : (name : List ℕ) → is_among name l.names ≡ true → has_mark l.self name ≡ is_among name (take l.name-index l.names);
}
