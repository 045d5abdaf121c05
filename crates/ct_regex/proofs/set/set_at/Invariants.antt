use Rattle.std.proofs.Common.{◌≡◌, ◌<◌, ◌≤◌, ◌-◌, drop, length}
use Rattle.ct_regex.specs.Signs.{signs, set_signs}
use Rattle.ct_regex.proofs.set.set_at.Given as goal

abbrev pub invariant-items : goal.invariant-items
invariant-items l = record {
  grows : l.opened < l.at;
  within : l.at ≤ length l.text;
  same : signs l.opened (drop l.opened l.text) ≡ set_signs l.opened l.negated 0 l.at l.items.items (drop l.at l.text);
}

abbrev pub decreases-items : goal.decreases-items
decreases-items l = length l.text - l.at
