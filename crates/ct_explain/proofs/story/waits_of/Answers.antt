use Rattle.std.proofs.Common.{◌<◌, ◌≤◌, ◌+◌, length, get_or, arith}
use Rattle.ct_times.specs.declared.chain.Link.{Link}
use Rattle.std.specs.Prelude.{take}
use Rattle.ct_explain.proofs.StoryLemmas.{front_allowed, told_all, told_more}
use Rattle.ct_explain.proofs.story.waits_of.Goals as goal

none : Link
none = record { test = 0; attempt = 0; start = 0; micros = 0; begin = 0; end = 0 }

pub loop-at-preserved : goal.loop-at-preserved
unfolding none
loop-at-preserved c =
    let at = c.loop-at.at in
    let chain = c.args.chain.now in
    let entries = c.args.entries.now in
    let inside : c.loop-at.at + 1 < length c.args.chain.now = omega (arith, c.loop-at-test.true, c.saturating_sub-pairs.ensures) in
    let end = (get_or chain at none).end in
    let audited = c.in_ok-note_until.ensures in
    let wait = c.in_ok-wait_at.ensures (take end entries) audited (front_allowed c.args.plan.now entries c.requires.legal end) in
    told_more c.args.plan.now entries chain c.loop-at.waits c.push.new.self at c.loop-at.noted c.loop-at.audit c.note_until.new.audit none c.in_ok-wait_at.field-0 c.index-entries-begin.result c.requires.placed c.requires.ordered inside c.index-entries-begin.is wait c.in_ok-push.ensures.ok c.loop-at.invariant audited

pub returns : goal.returns
returns c =
    let over : length c.args.chain.now ≤ c.loop-at.at + 1 = omega (arith, c.loop-at-test.false, c.saturating_sub-pairs.ensures) in
    told_all c.args.plan.now c.args.entries.now c.args.chain.now c.loop-at.waits c.loop-at.at c.loop-at.noted c.loop-at.audit over c.loop-at.invariant
