use Rattle.std.proofs.Common.{◌≡◌, ℕ, List, take, true, false}
use Rattle.ct_core.specs.Sharers.{sharers_of, counts_sharers, has_mark}
use Rattle.ct_core.proofs.sharers.Sharers.unmark.Given as goal
use Rattle.ct_base.specs.Names.{is_among}

abbrev pub invariant-loop-name : goal.invariant-loop-name
invariant-loop-name l = record {
  counted : (name : List ℕ) → counts_sharers l.self name ≡ counts_sharers l.initial.self name;
  kept : (name : List ℕ) → sharers_of l.self name ≡ sharers_of l.initial.self name;
  unmarked : (name : List ℕ) → is_among name (take l.name-index l.names) ≡ true → has_mark l.self name ≡ false;
}
