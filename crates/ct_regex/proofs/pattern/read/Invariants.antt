use Rattle.std.proofs.Common.{◌≡◌, ◌≤◌, ◌-◌, drop, length}
use Rattle.ct_regex.specs.Signs.{signs}
use Rattle.ct_regex.specs.Reading.{read, reading}
use Rattle.ct_regex.specs.Meaning.{groups_of}
use Rattle.ct_regex.proofs.pattern.read.Given as goal

abbrev pub invariant-signs : goal.invariant-signs
invariant-signs l = record {
  within : l.at ≤ length l.text;
  same : reading l.text ≡ read (groups_of l.reader) (signs l.at (drop l.at l.text));
}

abbrev pub decreases-signs : goal.decreases-signs
decreases-signs l = length l.text - l.at
