use Rattle.std.proofs.Common.{rules, arith, ◌≡◌, ◌+◌, ◌-◌, ◌*◌, min, slice_index}
use Rattle.ct_base.specs.Seconds.{most_micros}
use Rattle.ct_base.proofs.DecimalLemmas.{reads_digit}
use Rattle.ct_base.proofs.seconds.with_digits.Goals as goal

pub loop-digit-preserved : goal.loop-digit-preserved
loop-digit-preserved c =
    let kept : c.min-value.result ≡ min (c.loop-digit.value * 10 + (slice_index c.args.digits.now c.loop-digit.digit-index - 48)) most_micros = search rules in
    rw kept (omega arith, reads_digit c.args.digits.now c.loop-digit.value c.loop-digit.digit-index _ c.requires.digits c.loop-digit-test.true c.loop-digit.invariant.1)
