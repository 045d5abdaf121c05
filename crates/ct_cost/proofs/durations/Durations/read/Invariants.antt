use Rattle.std.proofs.Common.{◌≡◌, ◌+◌, ◌-◌, ◌≤◌, length}
use Rattle.ct_cost.specs.CostLine.{most_durations}
use Rattle.ct_cost.specs.Text.{durations_in, ends_duration}
use Rattle.ct_cost.specs.Reading.{parts_from}
use Rattle.ct_cost.proofs.DurationLemmas.{with_parts}
use Rattle.ct_cost.proofs.durations.Durations.read.Given as goal

abbrev pub invariant-loop-at : goal.invariant-loop-at
invariant-loop-at l = (with_parts l.durations (parts_from ends_duration l.text l.at) ≡ durations_in l.text) × (length l.durations ≤ most_durations)

abbrev pub decreases-loop-at : goal.decreases-loop-at
decreases-loop-at l = length l.text + 1 - l.at
