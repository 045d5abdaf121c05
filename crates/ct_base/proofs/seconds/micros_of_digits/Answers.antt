use Rattle.ct_base.specs.Seconds.{six_decimals}
use Rattle.ct_base.proofs.DecimalLemmas.{kept_in_pieces}
use Rattle.ct_base.proofs.seconds.micros_of_digits.Goals as goal

pub returns : goal.returns
returns c = rw (c.with_six_decimals.ensures, c.with_digits.ensures) (kept_in_pieces 0 c.args.whole.now (six_decimals c.args.decimals.now))
