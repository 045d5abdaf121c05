use Rattle.std.proofs.Common.{◌≡◌, ◌∙◌, sym, true, false, take}
use Rattle.ct_cost.specs.Text.{is_mark}
use Rattle.ct_cost.proofs.ReadingLemmas.{reads_one, reads_two}
use Rattle.ct_cost.proofs.reading.Reading.of.Goals as goal

pub returns-then-is_mark : goal.returns-then-is_mark
returns-then-is_mark c =
    let text = c.args.text.now in
    let n = c.part_len-end.result in
    let marked : is_mark (take n text) ≡ true = sym c.is_mark.ensures ∙ c.if-is_mark.true in
    let same = reads_two text n c.part_len-end.ensures.is marked in
    rw (← same) c.of_lines.ensures

pub returns : goal.returns
returns c =
    let text = c.args.text.now in
    let n = c.part_len-end.result in
    let unmarked : is_mark (take n text) ≡ false = sym c.is_mark.ensures ∙ c.if-is_mark.false in
    let same = reads_one text n c.part_len-end.ensures.is unmarked in
    rw (← same) c.of_lines-2.ensures
