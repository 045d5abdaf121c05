use Rattle.std.proofs.Common.{◌≡◌, filter}
use Rattle.std.specs.List.{range_with_len}
use Rattle.ct_select.specs.Chosen.{is_chosen_at}
use Rattle.ct_select.specs.Matching.{AreMatchersOf}
use Rattle.ct_select.proofs.chosen.choose.Given as goal

abbrev pub invariant-loop-at : goal.invariant-loop-at
invariant-loop-at l = record {
  chosen : l.chosen ≡ filter (is_chosen_at l.defs l.props l.choice) (range_with_len 1 l.at);
  matchers : AreMatchersOf l.choice l.matchers;
}
