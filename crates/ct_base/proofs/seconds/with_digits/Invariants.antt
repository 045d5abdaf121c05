use Rattle.std.proofs.Common.{◌≡◌, ◌≤◌, drop, min}
use Rattle.std.specs.Str.Parse.{digits_value_after}
use Rattle.ct_base.specs.Seconds.{most_micros}
use Rattle.ct_base.proofs.seconds.with_digits.Given as goal

abbrev pub invariant-loop-digit : goal.invariant-loop-digit
invariant-loop-digit l = (l.value ≤ most_micros) × (min (digits_value_after 10 l.value (drop l.digit-index l.digits)) most_micros ≡ min (digits_value_after 10 l.fn.before l.digits) most_micros)
