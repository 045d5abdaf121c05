use Rattle.std.proofs.Common.{rules, ◌≡◌, ◌<◌, length, get_or}
use Rattle.ct_history.specs.declared.history.Entry.{Entry}
use Rattle.ct_journal_text.specs.Journal.{EntryFits, noted}
use Rattle.ct_journal_text.proofs.RangeLemmas.{hold_all, hold_more}
use Rattle.ct_journal_text.proofs.ranges.hand_out_ranges.Goals as goal

pub loop-entry-preserved : goal.loop-entry-preserved
loop-entry-preserved c =
    let within : c.loop-entry.entry-index < length c.args.entries.now = search rules in
    let is : c.entry-item.result ≡ get_or c.args.entries.now c.loop-entry.entry-index c.entry-item.result = search rules in
    hold_more (λ (entry : Entry). EntryFits (noted entry)) c.args.entries.now c.loop-entry.entry-index c.entry-item.result within is c.hand_out_entry.ensures c.loop-entry.invariant

pub returns : goal.returns
returns c = hold_all (λ (entry : Entry). EntryFits (noted entry)) c.args.entries.now c.loop-entry.entry-index c.loop-entry-test.false c.loop-entry.invariant
