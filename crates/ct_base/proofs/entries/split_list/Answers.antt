use Rattle.std.proofs.Common.{rules, ap, sym, ◌∙◌, ◌≡◌, ◌++◌, ◌∷◌, [], filter, slice_index, drop, false}
use Rattle.std.proofs.lemmas.List.{take_rest}
use Rattle.ct_base.specs.Entries.{entries_of, is_entry, is_escape}
use Rattle.ct_base.proofs.EntryLemmas.{reads_byte, reads_end}
use Rattle.ct_base.proofs.entries.split_list.Goals as goal

pub loop-at-preserved-then-text-at-eq59 : goal.loop-at-preserved-then-text-at-eq59
loop-at-preserved-then-text-at-eq59 c =
    let no_escape : is_escape (drop c.loop-at.at c.args.text.now) ≡ false = ap is_escape (sym (take_rest c.args.text.now c.loop-at.at)) ∙ sym c.if-is_escape.ensures in
    let pushed : c.push_entry.new.entries ≡ c.loop-at.entries ++ filter is_entry (c.loop-at.entry.items ∷ []) = search rules in
    rw (c.new-entry-then-text-at-eq59.ensures.items, pushed) (reads_end c.loop-at.entries (entries_of c.args.text.now) c.loop-at.entry.items c.args.text.now c.loop-at.at c.loop-at-test.true no_escape c.if-text-at-eq59.true c.loop-at.invariant)

pub loop-at-preserved : goal.loop-at-preserved
loop-at-preserved c =
    let no_escape : is_escape (drop c.loop-at.at c.args.text.now) ≡ false = ap is_escape (sym (take_rest c.args.text.now c.loop-at.at)) ∙ sym c.if-is_escape.ensures in
    let pushed : c.push-else-text-at-eq59.new.self.items ≡ c.loop-at.entry.items ++ slice_index c.args.text.now c.loop-at.at ∷ [] = search rules in
    rw pushed (reads_byte c.loop-at.entries (entries_of c.args.text.now) c.loop-at.entry.items c.args.text.now c.loop-at.at c.loop-at-test.true no_escape c.if-text-at-eq59.false c.loop-at.invariant)
