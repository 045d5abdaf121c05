use Rattle.std.proofs.Common.{◌∙◌, ◌<◌, List, length, ap, arith}
use Rattle.std.proofs.lemmas.List.{length-set}
use Rattle.ct_core.specs.declared.state.State.{State}
use Rattle.ct_core.specs.Parts.{is_pending_at_place}
use Rattle.ct_core.proofs.StopLemmas.{marked-more}
use Rattle.ct_core.proofs.parts.Parts.stop.Goals as goal

pub loop-place-preserved : goal.loop-place-preserved
loop-place-preserved c =
    let kept = c.loop-place.invariant in
    let now = c.loop-place.self in
    let pending = c.is_pending-is_pending.ensures ∙ ap (λ (ss : List State). is_pending_at_place ss c.loop-place.place) kept.states in
    let room = kept.room in
    let within : c.loop-place.place < length now.settleable = omega (arith, room, c.requires, c.len-place-end.ensures, c.loop-place-test.true) in
    record {
      states = kept.states;
      unfinished = kept.unfinished;
      in_use = kept.in_use;
      followers = kept.followers;
      keys = kept.keys;
      ready = kept.ready;
      stopped = kept.stopped;
      room = ap length c.set.ensures ∙ length-set now.settleable c.loop-place.place c.is_pending-is_pending.result ∙ kept.room;
      marked = marked-more c.args.self.now.settleable now.settleable c.set.new.self c.args.self.now.states.items c.loop-place.place c.is_pending-is_pending.result within pending c.set.ensures kept.marked;
    }
