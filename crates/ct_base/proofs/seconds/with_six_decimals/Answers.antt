use Rattle.std.proofs.Common.{rules, ◌≡◌, ◌-◌, take, drop, length, codes}
use Rattle.ct_base.proofs.DecimalLemmas.{zeros_end, zeros_are_digits, few_decimals, kept_in_pieces}
use Rattle.ct_base.proofs.seconds.with_six_decimals.Goals as goal

pub with_digits-requires-then-decimals-lt6-clause-digits : goal.with_digits-requires-then-decimals-lt6-clause-digits
with_digits-requires-then-decimals-lt6-clause-digits c =
    let k = length c.args.decimals.now in
    let zeros : c.as_slice-zeros.result.now ≡ codes "000000" = search rules in
    rw (zeros, zeros_end k c.if-decimals-lt6.true) (zeros_are_digits k c.if-decimals-lt6.true)

pub returns-then-decimals-lt6 : goal.returns-then-decimals-lt6
returns-then-decimals-lt6 c =
    let k = length c.args.decimals.now in
    let zeros : c.as_slice-zeros.result.now ≡ codes "000000" = search rules in
    let behind : take (length c.as_slice-zeros.result.now - k) (drop k c.as_slice-zeros.result.now) ≡ drop k (codes "000000") = rw zeros (zeros_end k c.if-decimals-lt6.true) in
    rw (c.with_digits-then-decimals-lt6.ensures, behind, c.with_digits.ensures, few_decimals c.args.decimals.now c.if-decimals-lt6.true) (kept_in_pieces c.args.before c.args.decimals.now (drop k (codes "000000")))
