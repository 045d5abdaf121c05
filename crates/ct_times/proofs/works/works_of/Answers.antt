use Rattle.std.proofs.Common.{rules, ◌≡◌, ◌<◌, get_or, length}
use Rattle.ct_times.proofs.CodeLemmas.{added_more}
use Rattle.ct_times.proofs.RanLemmas.{ran_more}
use Rattle.ct_times.proofs.works.works_of.Goals as goal

pub loop-entry-preserved : goal.loop-entry-preserved
loop-entry-preserved c =
    let at = c.loop-entry.entry-index in
    let entries = c.args.entries.now in
    let e = c.entry-item.result in
    let within : at < length entries = search rules in
    let is : e ≡ get_or entries at e = search rules in
    record {
      added = added_more c.loop-entry.works c.note_work.new.works at entries e within is c.loop-entry.invariant.added c.in_ok-note_work.ensures.noted c.in_ok-note_work.ensures.small;
      those = ran_more c.loop-entry.works c.note_work.new.works at entries e within is c.loop-entry.invariant.those c.in_ok-note_work.ensures.those;
    }
