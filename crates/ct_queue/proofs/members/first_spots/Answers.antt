use Rattle.std.proofs.Common.{◌≡◌, ◌<◌, length, get_or, arith, rules}
use Rattle.std.proofs.lemmas.List.{get_or_read}
use Rattle.ct_queue.proofs.BuildLemmas.{begun_fits, begun_more, begun_none}
use Rattle.ct_queue.proofs.members.first_spots.Goals as goal

pub loop-line-init : goal.loop-line-init
loop-line-init c = begun_none c.args.lines.now c.in_ok-firsts.firsts.items c.in_ok-firsts.ensures

pub overflow_add-before : goal.overflow_add-before
overflow_add-before c =
    let long = c.loop-line.invariant.long in
    let within : c.loop-line.line < length c.args.lines.now = search rules in
    let size : c.index-size.result.now ≡ get_or c.loop-line.firsts.items c.loop-line.line 0 = get_or_read c.loop-line.firsts.items c.loop-line.line c.index-size.result.now (omega arith) c.index-size.ensures 0 in
    let fits = begun_fits c.args.lines.now c.loop-line.firsts.items c.loop-line.line c.loop-line.before within c.loop-line.invariant in
    omega arith

pub loop-line-preserved : goal.loop-line-preserved
loop-line-preserved c =
    let long = c.loop-line.invariant.long in
    let within : c.loop-line.line < length c.args.lines.now = search rules in
    let size : c.index-size.result.now ≡ get_or c.loop-line.firsts.items c.loop-line.line 0 = get_or_read c.loop-line.firsts.items c.loop-line.line c.index-size.result.now (omega arith) c.index-size.ensures 0 in
    begun_more c.args.lines.now c.loop-line.firsts.items c.loop-line.line c.loop-line.before c.index-size.result.now within size c.loop-line.invariant
