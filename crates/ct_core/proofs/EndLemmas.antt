-- A run is kept when an attempt ends.
use Rattle.std.proofs.Common.{◌≡◌, ◌∙◌, sym, ap, subst, Bool, true, false, ℕ, ◌+◌, ◌<◌, ◌≤◌, List, [], ◌∷◌, ◌++◌, length, refl, arith, length-append, get_or}
use Rattle.std.specs.Prelude.{AllPairs, Option, Some, None, not, ◌&&◌, slice_get, slice_set, if◌then◌else◌}
use Rattle.std.proofs.lemmas.Bool.{true≢false}
use Rattle.std.proofs.lemmas.List.{length-map, take_all}
use Rattle.std.proofs.lemmas.Option.{slice_get_read}
use Rattle.ct_alloc.specs.declared.placement.Placement.{Placement}
use Rattle.ct_verdict.specs.declared.attempt.Seen.{Seen}
use Rattle.ct_verdict.specs.declared.verdict.Verdict.{Verdict}
use Rattle.ct_verdict.specs.Verdict.{is_failing_verdict, is_repeated, verdict_of}
use Rattle.ct_history.specs.declared.plan.PlanTest.{PlanTest}
use Rattle.ct_history.specs.declared.plan.PlanParts.{PlanParts}
use Rattle.ct_history.specs.declared.history.Entry.{Entry}
use Rattle.ct_history.specs.declared.history.Entry.TheVariants.{End, Stop}
use Rattle.ct_history.specs.Plan.{IsPlaceOf, test_at}
use Rattle.ct_history.specs.History.{Running, attempts_of, has_stop, holds_start, open_starts, used_slots}
use Rattle.ct_history.specs.Verdicts.{is_failing_in, verdict_of_test}
use Rattle.ct_history.specs.Legal.{GetAlong, is_allowed_so_far, is_stop_due}
use Rattle.ct_history.proofs.LegalLemmas.{allowed-snoc, legal_allowed, legal_from}
use Rattle.ct_history.proofs.WithinLemmas.{stays_within}
use Rattle.ct_queue.specs.Ready.{ReadyValue, StandsIn, is_out, with_out}
use Rattle.ct_core.specs.declared.state.State.{State}
use Rattle.ct_core.specs.declared.state.State.TheVariants.{Final, Open, Pending}
use Rattle.ct_core.specs.declared.in_use.InUse.{InUse}
use Rattle.ct_core.specs.declared.parts.Parts.{Parts}
use Rattle.ct_core.specs.Core.{with_due_stop}
use Rattle.ct_core.specs.InUse.{CanGive, GivesBack, IsInUse}
use Rattle.ct_core.specs.Places.{stop_places}
use Rattle.ct_core.specs.Standing.{count_unfinished, state_of, states_of, verdict_of_state}
use Rattle.ct_core.specs.Waiting.{AreSettleable, IsQueued, followers_of}
use Rattle.ct_core.specs.Parts.{AreCurrent, HasRoomToEnd, IsConcluding, IsKept}
use Rattle.ct_core.proofs.KeyLemmas.{bunches_stay, halted_stays}
use Rattle.ct_core.proofs.DueLemmas.{end_due}
use Rattle.ct_core.proofs.KeptLemmas.{end_allowed, stop_stays}
use Rattle.ct_core.proofs.InUseLemmas.{give_possible, given}
use Rattle.ct_core.proofs.OpenStartLemmas.{IsHeldOpen, held_open, open_apart, open_placed}
use Rattle.ct_core.proofs.StateLemmas.{state_after, verdict_ended}
use Rattle.ct_core.proofs.StandingLemmas.{open_at, states_ended, unfinished_less, unfinished_same}
use Rattle.ct_core.proofs.WaitingLemmas.{again_queued, again_settleable, again_stopped, end_out, end_stands, over_queued, over_settleable, over_stopped}

-- the parts behind an attempt that ended: its test is in `state`,
-- what the test used is given back, and nothing else changed
pub record IsClosed (place : ℕ) (t : PlanTest) (placement : Option Placement) (state : State) (old new : Parts) : Type 0 where
  pub states : new.states.items ≡ slice_set old.states.items place state
  pub in_use : GivesBack t placement old.in_use new.in_use
  pub keys : new.keys.items ≡ old.keys.items
  pub followers : new.followers.items ≡ old.followers.items
  pub stopped : new.stopped ≡ old.stopped
  pub unfinished : new.unfinished ≡ old.unfinished

-- reading the place of an open state returns that state
pub open_is : (states : List State) (place k : ℕ) (p : Option Placement) (x : State) → place < length states → slice_get states place ≡ Some (Open k p) → x ≡ get_or states place x → x ≡ Open k p
open_is states place k p x within here read =
    let found : Some x ≡ Some (Open k p) = sym (slice_get_read states (length states) place x refl within read) ∙ here in
    cc

-- the attempts and the placement of an open state, as it is read at its place
pub open_read : (states : List State) (place k e : ℕ) (p q : Option Placement) (x : State) → place < length states → slice_get states place ≡ Some (Open k p) → x ≡ get_or states place x → x ≡ Open e q → (e ≡ k) × (q ≡ p)
open_read states place k e p q x within here read is =
    let found : Some x ≡ Some (Open k p) = sym (slice_get_read states (length states) place x refl within read) ∙ here in
    let same : Some (Open e q) ≡ Some (Open k p) = ap (λ (y : State). Some y) (sym is) ∙ found in
    (cc, cc)

module _ (plan : PlanParts) (es : List Entry) (room : ℕ) (parts : Parts) (kept : IsKept plan es room parts) (n a w : ℕ) (s : Seen) (holds : holds_start n a w es ≡ true) (place : ℕ) (at : IsPlaceOf plan.tests n place) (t : PlanTest) (found : test_at plan.tests n ≡ Some t) where
  abbrev more : List Entry
  more = es ++ End n a w s ∷ []

  -- how many attempts of the test have ended so far, and the verdict of this one
  abbrev pub ended : ℕ
  ended = length (attempts_of t.number t.rules es)

  abbrev verdict : Verdict
  verdict = verdict_of t.rules s

  so_far : is_allowed_so_far plan es ≡ true
  so_far = legal_allowed plan es kept.legal

  pub held : IsHeldOpen plan es n a w
  held = held_open plan es n a w so_far holds

  abbrev pub placement : Option Placement
  placement = held.start.placement

  pub open_here : slice_get parts.states.items place ≡ Some (Open ended placement)
  open_here = ap (λ (ss : List State). slice_get ss place) kept.current.states ∙ open_at plan es n place t at found so_far held.start held.opens

  pub can_give : CanGive t placement parts.in_use
  can_give =
      let placed = open_placed plan es n held.start t so_far held.opens found in
      give_possible plan (open_starts es) n held.start t parts.in_use (used_slots placed.front) kept.current.in_use held.opens found placed.placed

  -- the attempt is the one after the attempts that have ended
  pub next : a ≡ ended + 1
  next =
      let same : held.test ≡ t = let both : Some held.test ≡ Some t = sym held.found ∙ found in cc in
      held.next ∙ ap (λ (x : PlanTest). length (attempts_of x.number x.rules es) + 1) same

  pub within_states : place < length parts.states.items
  within_states =
      let long : length parts.states.items ≡ length plan.tests = ap length kept.current.states ∙ length-map plan.tests (state_of plan.repeat es) in
      let within = at.within in
      omega (arith, long, within)

  pub end_room : length es < room
  end_room =
      let some = can_give.opens in
      let reserved = kept.reserved some in
      omega (arith, some, reserved)

  stops : has_stop more ≡ has_stop es
  stops = stop_stays es (End n a w s) refl

  going_on : parts.stopped ≡ false → has_stop es ≡ false
  going_on runs = sym kept.current.stopped ∙ runs

  pub stands_queued : parts.stopped ≡ false → StandsIn parts.ready.order n
  stands_queued runs = subst (λ (o : List ℕ). StandsIn o n) (sym (kept.queued.ready (going_on runs)).order) (end_stands plan kept.current.sound es n t found a w s so_far holds)

  pub is_gone : parts.stopped ≡ false → is_out parts.ready n ≡ true
  is_gone runs = end_out plan kept.current.sound es n t found a w s so_far holds parts.ready (kept.queued.ready (going_on runs))

  -- what is in use agrees with the open starts once the test gave back what it used
  used : (new : InUse) → GivesBack t placement parts.in_use new → IsInUse plan (open_starts more) new
  used new gives =
      subst (λ (rs : List Running). IsInUse plan rs new) (sym (held.closes s))
      (given plan (open_starts es) n held.start t parts.in_use new kept.current.in_use held.opens (open_apart plan es so_far) along found gives)
    where
      along : AllPairs (GetAlong plan.tests) (open_starts es)
      along = subst (λ (xs : List Entry). AllPairs (GetAlong plan.tests) (open_starts xs)) (take_all (length es) es (omega arith)) (stays_within plan es so_far (length es)).apart

  told : (state : State) → state_after plan.repeat (ended + 1) verdict ≡ state → (new : Parts) → IsClosed place t placement state parts new → AreCurrent plan more new
  told state is new closed = record {
    sound = kept.current.sound;
    states =
        closed.states
        ∙ ap (λ (ss : List State). slice_set ss place state) kept.current.states
        ∙ ap (λ (x : State). slice_set (states_of plan es) place x) (sym is)
        ∙ sym (states_ended plan es n place t at found kept.current.sound so_far a w s holds);
    in_use = used new.in_use closed.in_use;
    stopped = closed.stopped ∙ kept.current.stopped ∙ sym stops;
    followers = closed.followers ∙ kept.current.followers;
  }

  reserved : (new : Parts) → GivesBack t placement parts.in_use new.in_use → (room' : ℕ) → room ≤ room' → HasRoomToEnd more room' new
  reserved new gives room' le = λ some.
      let longer : length more ≡ length es + 1 = length-append es (End n a w s ∷ []) in
      let less = gives.opens in
      let one = can_give.opens in
      let held_room = kept.reserved one in
      let same : stop_places more ≡ stop_places es = ap (λ (b : Bool). if b then 0 else 1) stops in
      omega (arith, longer, less, one, held_room, same, le)

  allowed : is_allowed_so_far plan more ≡ true
  allowed = allowed-snoc plan es (End n a w s) so_far (end_allowed plan es kept.legal n a w s holds)

  pub ended_verdict : verdict_of_test plan more n ≡ verdict_of_state (state_after plan.repeat (ended + 1) verdict)
  ended_verdict = verdict_ended plan es n t found so_far a w s holds

  -- the case that the test is tried again
  module _ (again : is_repeated plan.repeat (ended + 1) (Some verdict) ≡ true) where
    state : state_after plan.repeat (ended + 1) verdict ≡ Pending (ended + 1)
    state = ap (λ (b : Bool). if b then Pending (ended + 1) else Final verdict) again

    pub no_verdict : verdict_of_test plan more n ≡ None
    no_verdict = ended_verdict ∙ ap verdict_of_state state

    not_due : is_stop_due plan more ≡ false
    not_due =
        end_due plan kept.current.sound es kept.legal n t found a w s holds
        ∙ ap (λ (x : State). plan.stop_on_failure && is_failing_in (verdict_of_state x) && not (has_stop es)) state
        ∙ never plan.stop_on_failure (not (has_stop es))
      where
        never : (x y : Bool) → (x && false && y) ≡ false
        never true true = refl
        never true false = refl
        never false true = refl
        never false false = refl

    pub none_added : with_due_stop plan more ≡ more
    none_added = ap (λ (b : Bool). if b then more ++ Stop ∷ [] else more) not_due

    pub kept-again : (new : Parts) → IsClosed place t placement (Pending (ended + 1)) parts new → (parts.stopped ≡ false → new.ready ≡ with_out parts.ready n false) → (parts.stopped ≡ true → new.ready ≡ parts.ready) → new.settleable ≡ (if parts.stopped then slice_set parts.settleable place true else parts.settleable) → (room' : ℕ) → room ≤ room' → IsKept plan more room' new
    kept-again new closed ready halted marks room' le = record {
      legal = legal_from plan more allowed not_due;
      reserved = reserved new closed.in_use room' le;
      current = told (Pending (ended + 1)) state new closed;
      unfinished =
          let same = unfinished_same parts.states.items place (Open ended placement) (Pending (ended + 1)) open_here refl in
          let now : count_unfinished new.states.items ≡ count_unfinished (slice_set parts.states.items place (Pending (ended + 1))) = ap count_unfinished closed.states in
          let as_before = closed.unfinished in
          let before = kept.unfinished in
          omega (arith, same, now, as_before, before);
      queued = record {
        ready = λ going.
            let on : has_stop es ≡ false = sym stops ∙ going in
            subst (λ (r : ReadyValue). IsQueued plan more [] r) (sym (ready (kept.current.stopped ∙ on))) (again_queued plan kept.current.sound es n t found a w s so_far holds no_verdict parts.ready (kept.queued.ready on));
        halted = λ stop.
            let was : has_stop es ≡ true = sym stops ∙ stop in
            halted_stays plan es (End n a w s) parts.ready new.ready was (halted (kept.current.stopped ∙ was)) (kept.queued.halted was);
        bunches = bunches_stay plan parts new closed.keys (same_bunches parts.stopped refl) kept.queued.bunches;
        settleable = by_stop parts.stopped refl;
      };
    }
      where
        same_bunches : (b : Bool) → parts.stopped ≡ b → new.ready.bunches ≡ parts.ready.bunches
        same_bunches true is = ap (λ (r : ReadyValue). r.bunches) (halted is)
        same_bunches false is = ap (λ (r : ReadyValue). r.bunches) (ready is)

        by_stop : (b : Bool) → parts.stopped ≡ b → AreSettleable plan more [] new.settleable
        by_stop true is =
            subst (λ (m : List Bool). AreSettleable plan more [] m) (sym (marks ∙ ap (λ (b : Bool). if b then slice_set parts.settleable place true else parts.settleable) is))
            (again_stopped plan kept.current.sound es n t found a w s so_far holds no_verdict parts.settleable place (sym kept.current.stopped ∙ is) at kept.queued.settleable)
        by_stop false is =
            subst (λ (m : List Bool). AreSettleable plan more [] m) (sym (marks ∙ ap (λ (b : Bool). if b then slice_set parts.settleable place true else parts.settleable) is))
            (again_settleable plan kept.current.sound es n t found a w s so_far holds no_verdict parts.settleable (sym kept.current.stopped ∙ is) kept.queued.settleable)

  -- the case that the test is final
  module _ (over : is_repeated plan.repeat (ended + 1) (Some verdict) ≡ false) where
    last : state_after plan.repeat (ended + 1) verdict ≡ Final verdict
    last = ap (λ (b : Bool). if b then Pending (ended + 1) else Final verdict) over

    pub final : verdict_of_test plan more n ≡ Some verdict
    final = ended_verdict ∙ ap verdict_of_state last

    pub concluding-ended : (new : Parts) → IsClosed place t placement (Final verdict) parts new → new.ready ≡ parts.ready → new.settleable ≡ parts.settleable → (room' : ℕ) → room ≤ room' → IsConcluding plan more room' n verdict new
    concluding-ended new closed ready marks room' le = record {
      allowed = allowed;
      final = final;
      due =
          end_due plan kept.current.sound es kept.legal n t found a w s holds
          ∙ ap (λ (x : State). plan.stop_on_failure && is_failing_in (verdict_of_state x) && not (has_stop es)) last
          ∙ ap (λ (b : Bool). plan.stop_on_failure && is_failing_verdict verdict && not b) (sym stops);
      reserved = reserved new closed.in_use room' le;
      stop_room = λ going.
          let longer : length more ≡ length es + 1 = length-append es (End n a w s ∷ []) in
          let one = can_give.opens in
          let held_room = kept.reserved one in
          let places : stop_places es ≡ 1 = ap (λ (b : Bool). if b then 0 else 1) (sym stops ∙ going) in
          omega (arith, longer, one, held_room, places, le);
      current = told (Final verdict) last new closed;
      unfinished =
          let less = unfinished_less parts.states.items place (Open ended placement) (Final verdict) open_here refl refl in
          let now : count_unfinished new.states.items ≡ count_unfinished (slice_set parts.states.items place (Final verdict)) = ap count_unfinished closed.states in
          let as_before = closed.unfinished in
          let before = kept.unfinished in
          omega (arith, less, now, as_before, before);
      waiting = λ going.
          let on : has_stop es ≡ false = sym stops ∙ going in
          record {
            ready = λ _. subst (λ (r : ReadyValue). IsQueued plan more (followers_of plan.tests n) r) (sym ready) (over_queued plan kept.current.sound es n t found a w s so_far holds verdict final parts.ready (kept.queued.ready on));
            halted = λ stop. absurd (true≢false (sym stop ∙ going));
            bunches = bunches_stay plan parts new closed.keys (ap (λ (r : ReadyValue). r.bunches) ready) kept.queued.bunches;
            settleable = subst (λ (m : List Bool). AreSettleable plan more (followers_of plan.tests n) m) (sym marks) (over_settleable plan kept.current.sound es n t found a w s so_far holds verdict final parts.settleable on kept.queued.settleable);
          };
      stopped = λ stop.
          let was : has_stop es ≡ true = sym stops ∙ stop in
          record {
            ready = λ going. absurd (true≢false (sym stop ∙ going));
            halted = λ _. halted_stays plan es (End n a w s) parts.ready new.ready was ready (kept.queued.halted was);
            bunches = bunches_stay plan parts new closed.keys (ap (λ (r : ReadyValue). r.bunches) ready) kept.queued.bunches;
            settleable = subst (λ (m : List Bool). AreSettleable plan more [] m) (sym marks) (over_stopped plan kept.current.sound es n t found a w s so_far holds verdict final parts.settleable was kept.queued.settleable);
          };
    }
