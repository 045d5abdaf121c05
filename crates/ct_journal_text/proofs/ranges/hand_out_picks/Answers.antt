use Rattle.std.proofs.Common.{rules, ◌≡◌, ◌<◌, ◌≤◌, length, get_or}
use Rattle.ct_alloc.specs.declared.placement.Pick.{Pick}
use Rattle.ct_journal_text.specs.Journal.{IsOf32Bits}
use Rattle.ct_journal_text.proofs.RangeLemmas.{hold_all, hold_more, picks_hold}
use Rattle.ct_journal_text.proofs.ranges.hand_out_picks.Goals as goal

pub loop-pick-preserved : goal.loop-pick-preserved
loop-pick-preserved c =
    let picks = c.args.placement.now.picks in
    let within : c.loop-pick.pick-index < length picks = search rules in
    let is : c.pick-item.result ≡ get_or picks c.loop-pick.pick-index c.pick-item.result = search rules in
    hold_more (λ (pick : Pick). IsOf32Bits pick.resource) picks c.loop-pick.pick-index c.pick-item.result within is c.hand_out_place.ensures c.loop-pick.invariant

pub returns : goal.returns
returns c =
    let picks = c.args.placement.now.picks in
    let done : length picks ≤ c.loop-pick.pick-index = search rules in
    picks_hold picks (hold_all (λ (pick : Pick). IsOf32Bits pick.resource) picks c.loop-pick.pick-index done c.loop-pick.invariant)
