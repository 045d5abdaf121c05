use Rattle.std.proofs.Common.{rules, ◌≡◌, ◌∙◌, ◌<◌, ◌≤◌, ◌+◌, ◌^◌, ℕ, ap, arith, get_or, length, max, take}
use Rattle.ct_times.specs.Times.{over_by}
use Rattle.ct_times.specs.Works.{kept_at}
use Rattle.ct_times.proofs.CodeLemmas.{noted_more, noted_most}
use Rattle.ct_times.proofs.times.least_times.Goals as goal

pub loop-entry-preserved : goal.loop-entry-preserved
loop-entry-preserved c =
    let at = c.loop-entry.entry-index in
    let entries = c.args.entries.now in
    let within : at < length entries = search rules in
    let is : c.entry-item.result ≡ get_or entries at c.entry-item.result = search rules in
    let most = noted_most c.loop-entry.times c.loop-entry.now c.loop-entry.starts at (take at entries) c.loop-entry.invariant in
    let small : over_by (kept_at c.loop-entry.starts) c.entry-item.result ≤ c.loop-entry.now + 2 ^ 64 = omega (arith, c.over_at.ensures.small c.loop-entry.now most, c.over_at.ensures.is) in
    let then' : c.max-now.result ≡ max c.loop-entry.now (over_by (kept_at c.loop-entry.starts) c.entry-item.result) = c.max-now.ensures ∙ ap (λ (n : ℕ). max c.loop-entry.now n) c.over_at.ensures.is in
    noted_more c.loop-entry.times c.push.new.self c.loop-entry.now c.max-now.result c.loop-entry.starts c.note_start.new.starts at entries c.entry-item.result within is c.loop-entry.invariant then' small c.in_ok-push.ensures.ok c.in_ok-note_start.ensures
