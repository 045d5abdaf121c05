use Rattle.std.proofs.Common.{◌<◌, length, arith}
use Rattle.ct_times.proofs.LinkLemmas.{first_place}
use Rattle.ct_times.proofs.chain.first_at.Goals as goal

pub returns-else-times-first-clause-first : goal.returns-else-times-first-clause-first
returns-else-times-first-clause-first c =
    let ts = c.args.times.now in
    let i = c.loop-first.first in
    let inside : i < length ts = omega (arith, c.requires.inside, c.loop-first.invariant.0) in
    first_place ts i c.args.place c.requires.sorted inside c.loop-first.invariant.1 c.if-times-first.false
