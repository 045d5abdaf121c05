use Rattle.std.proofs.Common.{rules, arith, ◌≡◌, ◌≤◌, ◌+◌, ◌-◌, length, take, drop, ap, ◌∙◌, fold}
use Rattle.std.specs.List.{position_or_len}
use Rattle.std.proofs.lemmas.List.{take_rest}
use Rattle.ct_cost.specs.Text.{ends_line}
use Rattle.ct_cost.specs.Reading.{after_line, parts_from}
use Rattle.ct_cost.proofs.ReadingLemmas.{reads_more}
use Rattle.ct_cost.proofs.reading.Reading.add_lines.Goals as goal

pub loop-at-preserved : goal.loop-at-preserved
loop-at-preserved c =
    let text = c.args.text.now in
    let at = c.loop-at.at in
    let n = c.part_len.result in
    let within : at ≤ length text = search rules in
    let is : n ≡ position_or_len ends_line (drop at text) = c.part_len.ensures.is ∙ ap (position_or_len ends_line) (take_rest text at) in
    let cut : take (at + n - at) (drop at text) ≡ take n (drop at text) = let sub : at + n - at ≡ n = omega arith in ap (λ k. take k (drop at text)) sub in
    reads_more text at n c.loop-at.self c.add_line.new.self (take (at + n - at) (drop at text)) (fold after_line c.args.self.now (parts_from ends_line text c.args.start)) within is cut c.in_ok-add_line.ensures c.loop-at.invariant
