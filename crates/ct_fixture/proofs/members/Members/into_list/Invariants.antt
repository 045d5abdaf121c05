use Rattle.std.proofs.Common.{◌≡◌, ◌-◌, ◌≤◌, filter}
use Rattle.std.specs.List.{range_with_len}
use Rattle.ct_fixture.specs.Kept.{is_drawn_in}
use Rattle.ct_fixture.proofs.members.Members.into_list.Given as goal

abbrev pub invariant-loop-number : goal.invariant-loop-number
invariant-loop-number l = (1 ≤ l.number) × (l.members ≡ filter (is_drawn_in l.self) (range_with_len 1 (l.number - 1)))
