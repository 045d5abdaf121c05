use Rattle.std.proofs.Common.{◌≡◌, ◌∙◌, [], false, ap, length, map, refl, subst, sym}
use Rattle.std.specs.Prelude.{Ok}
use Rattle.std.proofs.lemmas.Result.{IfOk-at_ok}
use Rattle.ct_core.proofs.FirstLemmas.{begun}
use Rattle.ct_core.specs.Begin.{first_state}
use Rattle.ct_core.specs.Bunches.{AreBunchesOf}
use Rattle.ct_core.specs.Followers.{followers_of}
use Rattle.ct_core.specs.InUse.{IsInUse}
use Rattle.ct_core.specs.Parts.{IsKept}
use Rattle.ct_core.specs.Waiting.{AreSettleable, IsQueued}
use Rattle.ct_core.specs.declared.begin.FirstOfTests.{FirstOfTests}
use Rattle.ct_core.specs.declared.begin.FirstWaiting.{FirstWaiting}
use Rattle.ct_core.specs.declared.parts.Parts.{Parts}
use Rattle.ct_history.specs.declared.plan.PlanTest.{PlanTest}
use Rattle.ct_core.proofs.parts.Parts.begin.Goals as goal

pub returns : goal.returns
returns c =
    let plan = c.args.plan.now in
    let kept = c.in_ok-waiting-2.ensures.one in
    let waiting = c.in_ok-waiting-2.waiting in
    let first = c.in_ok-waiting-2.first in
    let same = ap (λ both. both.0) kept ∙ c.in_ok-kept.ensures.one in
    let made = c.in_ok-kept.ensures.next ∙ ap (λ both. Ok both.1) (sym kept) in
    let parts : Parts = record {
      states = first.states;
      unfinished = length plan.queue;
      in_use = c.in_ok-waiting-2.in_use;
      followers = first.followers;
      keys = waiting.keys;
      ready = waiting.ready;
      settleable = first.settleable;
      stopped = false;
    } in
    subst (λ (p : Parts). IsKept plan [] 0 p) (sym c.joined.ensures)
    (begun plan parts c.requires
    (IfOk-at_ok (λ (f : FirstOfTests). f.states.items ≡ map first_state plan.tests) made c.of-2.ensures.states) refl
    (IfOk-at_ok (IsInUse plan []) c.in_ok-waiting-2.ensures.next c.nothing.ensures)
    (IfOk-at_ok (λ (f : FirstOfTests). f.followers.items ≡ map (λ (t : PlanTest). followers_of plan.tests t.number) plan.tests) made c.of-2.ensures.followers)
    (subst (λ (w : FirstWaiting). IsQueued plan [] [] w.ready) (sym same) c.in_ok-waiting.ensures.queued)
    (subst (λ (w : FirstWaiting). AreBunchesOf plan w.keys.items w.ready.bunches) (sym same) c.in_ok-waiting.ensures.bunches)
    (IfOk-at_ok (λ (f : FirstOfTests). AreSettleable plan [] [] f.settleable) made c.of-2.ensures.settleable) refl)
