use Rattle.std.proofs.Common.{◌≡◌, ◌++◌, ◌-◌, filter, length, drop}
use Rattle.ct_base.specs.Entries.{entries_of, is_entry, parts_of, with_front}
use Rattle.ct_base.proofs.entries.split_list.Given as goal

abbrev pub invariant-loop-at : goal.invariant-loop-at
invariant-loop-at l = l.entries ++ filter is_entry (with_front l.entry.items (parts_of (drop l.at l.text))) ≡ entries_of l.text

abbrev pub decreases-loop-at : goal.decreases-loop-at
decreases-loop-at l = length l.text - l.at
