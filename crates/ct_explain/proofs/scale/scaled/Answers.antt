use Rattle.std.proofs.Common.{arith}
use Rattle.ct_explain.proofs.ScaleLemmas.{by_shares, scaled-by}
use Rattle.ct_explain.proofs.scale.scaled.Goals as goal

pub returns : goal.returns
returns c =
    let one = c.hundredfold-first in
    let two = c.hundredfold-second in
    let three = c.hundredfold-third in
    scaled-by c.args.length c.args.moment _ (omega arith) (omega arith) (by_shares c.args.moment c.args.length one.result.times one.result.rest two.result.times two.result.rest three.result.times three.result.rest one.ensures.is two.ensures.is three.ensures.is three.ensures.left)
