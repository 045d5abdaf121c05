use Rattle.std.proofs.Common.{rules, arith, ◌≡◌, ◌≤◌, ◌+◌, ◌-◌, ◌++◌, ◌∷◌, [], None, Some, length, take, drop, ap, sym, ◌∙◌}
use Rattle.std.specs.List.{position_or_len}
use Rattle.std.proofs.lemmas.List.{take_rest}
use Rattle.ct_base.specs.Seconds.{micros_in}
use Rattle.ct_cost.specs.CostLine.{last_durations, most_durations}
use Rattle.ct_cost.specs.Text.{durations_in, ends_duration}
use Rattle.ct_cost.proofs.DurationLemmas.{last_of-most, reads_next, reads_none}
use Rattle.ct_cost.proofs.durations.Durations.read.Goals as goal

pub returns-in_default : goal.returns-in_default
returns-in_default c =
    let text = c.args.text.now in
    let at = c.loop-at.at in
    let n = c.part_len.result in
    let within : at ≤ length text = search rules in
    let is : n ≡ position_or_len ends_duration (drop at text) = c.part_len.ensures.is ∙ ap (position_or_len ends_duration) (take_rest text at) in
    let cut : take (at + n - at) (drop at text) ≡ take n (drop at text) = let sub : at + n - at ≡ n = omega arith in ap (λ k. take k (drop at text)) sub in
    let says : None ≡ micros_in (take (at + n - at) (drop at text)) = sym c.in_default.is ∙ c.micros.ensures in
    reads_none text at n c.loop-at.durations (take (at + n - at) (drop at text)) (durations_in text) within is cut says c.loop-at.invariant.0

pub loop-at-preserved : goal.loop-at-preserved
loop-at-preserved c =
    let text = c.args.text.now in
    let at = c.loop-at.at in
    let n = c.part_len.result in
    let more = c.loop-at.durations ++ c.in-Some.micros ∷ [] in
    let within : at ≤ length text = search rules in
    let is : n ≡ position_or_len ends_duration (drop at text) = c.part_len.ensures.is ∙ ap (position_or_len ends_duration) (take_rest text at) in
    let cut : take (at + n - at) (drop at text) ≡ take n (drop at text) = let sub : at + n - at ≡ n = omega arith in ap (λ k. take k (drop at text)) sub in
    let says : Some c.in-Some.micros ≡ micros_in (take (at + n - at) (drop at text)) = sym c.in-Some.is ∙ c.micros.ensures in
    let len : length c.push.new.self ≡ length (last_durations more) = ap length c.in_ok-push.ensures in
    let most : length (last_durations more) ≤ most_durations = last_of-most more in (
      reads_next text at n c.in-Some.micros c.loop-at.durations c.push.new.self (take (at + n - at) (drop at text)) (durations_in text) within is cut says c.in_ok-push.ensures c.loop-at.invariant.0,
      omega arith,
    )
