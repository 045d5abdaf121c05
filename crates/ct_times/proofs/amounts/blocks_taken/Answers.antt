use Rattle.std.proofs.Common.{rules, ◌≡◌, ◌<◌, arith, get_or, length}
use Rattle.ct_times.proofs.MeasureLemmas.{needs_next}
use Rattle.ct_times.proofs.amounts.blocks_taken.Goals as goal

pub loop-need-preserved : goal.loop-need-preserved
loop-need-preserved c =
    let at = c.loop-need.need-index in
    let needs = c.args.needs.now in
    let within : at < length needs = search rules in
    let is : c.need-item.result ≡ get_or needs at c.need-item.result = search rules in
    omega (arith, c.saturating_add-blocks.ensures, c.blocks_needed.ensures, c.loop-need.invariant, needs_next c.args.kind.now c.args.block needs at c.need-item.result within is)
