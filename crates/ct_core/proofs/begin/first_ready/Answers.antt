use Rattle.std.proofs.Common.{arith}
use Rattle.ct_core.proofs.FirstLemmas.{queued_first}
use Rattle.ct_core.proofs.BunchLemmas.{bunches_numbered}
use Rattle.ct_core.proofs.LineLemmas.{lines_as_many, lines_numbered}
use Rattle.ct_core.proofs.QueueLemmas.{queue_fits, queue_once}
use Rattle.ct_core.proofs.begin.first_ready.Goals as goal

pub lines_of-requires-clause-few : goal.lines_of-requires-clause-few
lines_of-requires-clause-few c =
    let fits = queue_fits c.args.plan.now c.requires.sound in
    let few = c.requires.few in
    omega (arith, fits, few)

pub bunches_of-requires-clause-few : goal.bunches_of-requires-clause-few
bunches_of-requires-clause-few c =
    let fits = queue_fits c.args.plan.now c.requires.sound in
    let few = c.requires.few in
    omega (arith, fits, few)

pub in_lines-requires-clause-few : goal.in_lines-requires-clause-few
in_lines-requires-clause-few c =
    let fits = queue_fits c.args.plan.now c.requires.sound in
    let few = c.requires.few in
    omega (arith, fits, few)

pub in_lines-requires-clause-once : goal.in_lines-requires-clause-once
in_lines-requires-clause-once c = queue_once c.args.plan.now c.requires.sound

pub in_lines-requires-clause-lined : goal.in_lines-requires-clause-lined
in_lines-requires-clause-lined c = lines_as_many c.args.plan.now c.in_ok-lines.lines c.in_ok-lines.ensures

pub in_lines-requires-clause-numbered : goal.in_lines-requires-clause-numbered
in_lines-requires-clause-numbered c = lines_numbered c.args.plan.now c.in_ok-lines.lines c.in_ok-lines.ensures

pub in_lines-requires-clause-bunched : goal.in_lines-requires-clause-bunched
in_lines-requires-clause-bunched c = c.in_ok-bunches.ensures.many

pub in_lines-requires-clause-bunches : goal.in_lines-requires-clause-bunches
in_lines-requires-clause-bunches c = bunches_numbered c.args.plan.now c.args.keys.now c.in_ok-bunches.bunches c.in_ok-bunches.ensures

pub returns-clause-queued : goal.returns-clause-queued
returns-clause-queued c = queued_first c.args.plan.now c.requires.sound c.in_ok-counts.counts c.in_ok-lines.lines c.in_ok-bunches.bunches c.in_ok-in_lines.field-0 c.in_ok-counts.ensures c.in_ok-lines.ensures c.in_ok-in_lines.ensures
