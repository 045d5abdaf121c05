use Rattle.std.proofs.Common.{◌∙◌, sym, arith}
use Rattle.std.proofs.lemmas.Bool.{true≢false}
use Rattle.ct_core.specs.Run.{history_of_run}
use Rattle.ct_core.proofs.BunchLemmas.{closed_none, next_none, next_starts, no_room, none_further, none_to_end, room_starts}
use Rattle.ct_core.proofs.run.Run.first_of_bunch.Goals as goal

pub returns-then-not-is_open : goal.returns-then-not-is_open
returns-then-not-is_open c =
    let run = c.args.self.now in
    let kept = c.requires.kept in
    let on = c.requires.goes_on in
    let closed = sym c.is_open.ensures ∙ c.if-not-is_open.true in
    closed_none run.plan kept.current.sound (history_of_run run) run.parts.ready (kept.queued.ready on) on c.requires.unsettled run.parts.keys.items kept.queued.bunches run.parts.in_use kept.current.in_use c.args.first c.requires.head c.args.end c.requires.unable closed

pub returns-then-not-is_before : goal.returns-then-not-is_before
returns-then-not-is_before c =
    let run = c.args.self.now in
    let kept = c.requires.kept in
    let on = c.requires.goes_on in
    let along = c.loop-head.invariant in
    none_to_end run.plan kept.current.sound (history_of_run run) run.parts.ready (kept.queued.ready on) on c.requires.unsettled run.parts.keys.items kept.queued.bunches run.parts.in_use kept.current.in_use c.args.first c.requires.head c.loop-head.place along.from along.alike along.none c.in-Some.head c.args.end c.in-Some.ensures (λ before. true≢false (sym (c.is_before.ensures.1 before) ∙ c.if-not-is_before.true))

pub returns-then-has_room : goal.returns-then-has_room
returns-then-has_room c =
    let run = c.args.self.now in
    let kept = c.requires.kept in
    let on = c.requires.goes_on in
    let along = c.loop-head.invariant in
    let next = c.in-Some.ensures in
    let same = next.of_bunch ∙ along.alike in
    let free = sym c.is_open.ensures ∙ c.if-not-is_open.false in
    let room = sym c.has_room.ensures ∙ c.if-has_room.true in
    let may = room_starts run.plan kept.current.sound (history_of_run run) run.parts.ready (kept.queued.ready on) on c.requires.unsettled run.parts.keys.items kept.queued.bunches run.parts.in_use kept.current.in_use c.args.first c.requires.head free c.in-Some.head same next.head room in
    next_starts run.plan kept.current.sound (history_of_run run) run.parts.ready (kept.queued.ready on) on c.requires.unsettled run.parts.keys.items kept.queued.bunches run.parts.in_use kept.current.in_use c.args.first c.requires.head c.loop-head.place along.from along.alike along.none c.in-Some.head c.args.end next (c.is_before.ensures.0 c.if-not-is_before.false) may

pub loop-head-preserved : goal.loop-head-preserved
loop-head-preserved c =
    let run = c.args.self.now in
    let kept = c.requires.kept in
    let on = c.requires.goes_on in
    let along = c.loop-head.invariant in
    let next = c.in-Some.ensures in
    let same = next.of_bunch ∙ along.alike in
    let free = sym c.is_open.ensures ∙ c.if-not-is_open.false in
    let room = sym c.has_room.ensures ∙ c.if-has_room.false in
    let unable = no_room run.plan kept.current.sound (history_of_run run) run.parts.ready (kept.queued.ready on) on c.requires.unsettled run.parts.keys.items kept.queued.bunches run.parts.in_use kept.current.in_use c.args.first c.requires.head free c.in-Some.head same next.head room in
    record {
      from = let from = along.from in let behind = next.behind in omega (arith, from, behind);
      alike = same;
      head = next.head;
      none = next_none run.plan kept.current.sound (history_of_run run) run.parts.ready (kept.queued.ready on) on c.requires.unsettled run.parts.keys.items kept.queued.bunches run.parts.in_use kept.current.in_use c.args.first c.requires.head c.loop-head.place along.from along.alike along.none c.in-Some.head next unable;
    }

pub returns : goal.returns
returns c =
    let run = c.args.self.now in
    let kept = c.requires.kept in
    let on = c.requires.goes_on in
    let along = c.loop-head.invariant in
    none_further run.plan kept.current.sound (history_of_run run) run.parts.ready (kept.queued.ready on) on c.requires.unsettled run.parts.keys.items kept.queued.bunches run.parts.in_use kept.current.in_use c.args.first c.requires.head c.loop-head.place along.from along.alike along.none c.args.end c.in_default.ensures
