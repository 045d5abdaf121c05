-- A run is kept once it has noted that a test is final.
use Rattle.std.proofs.Common.{◌≡◌, ◌∙◌, sym, ap, subst, Bool, true, false, ℕ, ◌+◌, ◌-◌, ◌<◌, ◌≤◌, List, [], ◌∷◌, ◌++◌, length, refl, arith, length-append, inl, inr, zero, suc}
use Rattle.std.specs.Prelude.{is_some, Option, Some, None, not, ◌&&◌, option_map, slice_get, nat_lt, if◌then◌else◌}
use Rattle.std.proofs.lemmas.Bool.{cases_Bool, true≢false, ltb-false}
use Rattle.std.proofs.lemmas.List.{length-map}
use Rattle.std.proofs.lemmas.Option.{slice_get-map}
use Rattle.std.proofs.Math.Bool.{and-false, and-true, or-true}
use Rattle.ct_verdict.specs.declared.verdict.Verdict.{Verdict}
use Rattle.ct_verdict.specs.Verdict.{is_failing_verdict}
use Rattle.ct_history.specs.Plan.{IsPlaceOf}
use Rattle.ct_history.specs.declared.plan.PlanTest.{PlanTest}
use Rattle.ct_history.specs.declared.plan.PlanParts.{PlanParts}
use Rattle.ct_history.specs.declared.history.Entry.{Entry}
use Rattle.ct_history.specs.declared.history.Entry.TheVariants.{Stop}
use Rattle.ct_history.specs.History.{Running, has_stop, open_starts}
use Rattle.ct_history.specs.Legal.{is_stop_due}
use Rattle.ct_history.specs.Verdicts.{verdict_at}
use Rattle.ct_history.proofs.LegalLemmas.{legal_from, legal_with_stop, stop-snoc}
use Rattle.ct_history.proofs.OpenLemmas.{opens_stop}
use Rattle.ct_queue.specs.Marks.{is_marked}
use Rattle.ct_queue.specs.Ready.{ReadyValue}
use Rattle.ct_core.specs.declared.state.State.{State}
use Rattle.ct_core.specs.declared.in_use.InUse.{InUse}
use Rattle.ct_core.specs.declared.parts.Parts.{Parts}
use Rattle.ct_core.specs.Core.{with_due_stop}
use Rattle.ct_core.specs.InUse.{IsInUse}
use Rattle.ct_core.specs.Places.{stop_places}
use Rattle.ct_core.specs.Standing.{count_unfinished, state_of, states_of}
use Rattle.ct_core.specs.Waiting.{IsQueued, followers_of, is_pending_at, settles_but}
use Rattle.ct_core.specs.Parts.{AreQueued, IsConcluding, IsKept, IsLowered, IsStopped, followers_at, is_pending_in, is_pending_at_place}
use Rattle.ct_core.proofs.KeyLemmas.{before_first, bunches_stay}
use Rattle.ct_core.proofs.StateLemmas.{pending_state}
use Rattle.ct_core.proofs.StandingLemmas.{states_stopped}
use Rattle.ct_core.proofs.WaitingLemmas.{stop_settleable}

-- the same parts, with one less in the count of tests that are not final
abbrev pub counted : Parts → Parts
counted parts = record parts { unfinished = parts.unfinished - 1 }

stop_added : (es : List Entry) → has_stop (es ++ Stop ∷ []) ≡ true
stop_added es = stop-snoc es Stop ∙ or-true (has_stop es)

-- the states and the history agree on whether the test at a place is pending
pending_here : (plan : PlanParts) (es : List Entry) (place : ℕ) → is_pending_at_place (states_of plan es) place ≡ is_pending_at plan es (slice_get plan.tests place)
pending_here plan es place =
    ap is_pending_in (slice_get-map (state_of plan.repeat es) plan.tests place) ∙ by_test (slice_get plan.tests place)
  where
    by_test : (o : Option PlanTest) → is_pending_in (option_map (state_of plan.repeat es) o) ≡ is_pending_at plan es o
    by_test None = refl
    by_test (Some t) = sym (pending_state plan t es)

-- there is no test at a place past the last one
none_behind : (ts : List PlanTest) (place : ℕ) → length ts ≤ place → slice_get ts place ≡ None
none_behind [] place le = refl
none_behind (t ∷ ts) zero le = absurd (omega (arith, le))
none_behind (t ∷ ts) (suc place) le = none_behind ts place (omega (arith, le))

-- a test that has a verdict was found
pub is_planned : (plan : PlanParts) (es : List Entry) (o : Option PlanTest) (v : Verdict) → verdict_at plan es o ≡ Some v → is_some o ≡ true
is_planned plan es None v is = cc
is_planned plan es (Some t) v is = refl

module _ (plan : PlanParts) (es : List Entry) (room n : ℕ) (v : Verdict) (parts : Parts) (c : IsConcluding plan es room n v parts) where
  not_due : has_stop es ≡ true → is_stop_due plan es ≡ false
  not_due stop = c.due ∙ ap (λ (b : Bool). plan.stop_on_failure && is_failing_verdict v && not b) stop ∙ and-false (plan.stop_on_failure && is_failing_verdict v)

  -- if no Stop is due, none is added
  pub none_added : is_stop_due plan es ≡ false → with_due_stop plan es ≡ es
  none_added none = ap (λ (b : Bool). if b then es ++ Stop ∷ [] else es) none

  pub none_added_behind : has_stop es ≡ true → with_due_stop plan es ≡ es
  none_added_behind stop = none_added (not_due stop)

  pub some_added : is_stop_due plan es ≡ true → with_due_stop plan es ≡ es ++ Stop ∷ []
  some_added due = ap (λ (b : Bool). if b then es ++ Stop ∷ [] else es) due

  -- while there is no Stop, one is due exactly if the plan stops at a failure and the verdict is failing
  pub due_here : has_stop es ≡ false → (b : Bool) → (plan.stop_on_failure && is_failing_verdict v) ≡ b → is_stop_due plan es ≡ b
  due_here going b is = c.due ∙ ap (λ (x : Bool). plan.stop_on_failure && is_failing_verdict v && not x) going ∙ and-true (plan.stop_on_failure && is_failing_verdict v) ∙ is

  -- if there is a Stop already, the run is kept without a further step
  pub kept_behind : has_stop es ≡ true → IsKept plan es room (counted parts)
  kept_behind stop = record {
    legal = legal_from plan es c.allowed (not_due stop);
    reserved = c.reserved;
    current = record { sound = c.current.sound; states = c.current.states; in_use = c.current.in_use; stopped = c.current.stopped; followers = c.current.followers };
    unfinished = let u = c.unfinished in omega (arith, u);
    queued = let q = c.stopped stop in record { ready = q.ready; halted = q.halted; bunches = q.bunches; settleable = q.settleable };
  }

  -- the followers of the test are the ones that are listed at its place
  pub followers_here : (place : ℕ) → IsPlaceOf plan.tests n place → followers_at parts place ≡ followers_of plan.tests n → has_stop es ≡ false → AreQueued plan es (followers_at parts place) (counted parts)
  followers_here place at same going =
      let q = c.waiting going in
      subst (λ (left : List ℕ). AreQueued plan es left (counted parts)) (sym same) (record { ready = q.ready; halted = q.halted; bunches = q.bunches; settleable = q.settleable })

  -- if no Stop is due, the run is kept once each follower is lowered
  pub kept_lowered : has_stop es ≡ false → is_stop_due plan es ≡ false → (new : Parts) → IsLowered (counted parts) new → AreQueued plan es [] new → IsKept plan es room new
  kept_lowered going none new low queued = record {
    legal = legal_from plan es c.allowed none;
    reserved = subst (λ (u : InUse). 0 < u.open_count → length es + u.open_count + stop_places es ≤ room) (sym low.in_use) c.reserved;
    current = record {
      sound = c.current.sound;
      states = low.states ∙ c.current.states;
      in_use = subst (λ (u : InUse). IsInUse plan (open_starts es) u) (sym low.in_use) c.current.in_use;
      stopped = low.stopped ∙ c.current.stopped;
      followers = low.followers ∙ c.current.followers;
    };
    unfinished =
        let u = c.unfinished in
        let same : count_unfinished new.states.items ≡ count_unfinished parts.states.items = ap count_unfinished low.states in
        let less = low.unfinished in
        omega (arith, u, same, less);
    queued = queued;
  }

  -- if a Stop is due, the run is kept once each follower is lowered, and the Stop is appended and noted
  pub kept_halted : has_stop es ≡ false → is_stop_due plan es ≡ true → (room' : ℕ) → room ≤ room' → (low new : Parts) → IsLowered (counted parts) low → AreQueued plan es [] low → IsStopped low new → IsKept plan (es ++ Stop ∷ []) room' new
  kept_halted going due room' le low new lowered queued halted = record {
    legal = legal_with_stop plan es c.allowed due;
    reserved = λ some.
        let longer = length-append es (Stop ∷ []) in
        let before : stop_places es ≡ 1 = ap (λ (b : Bool). if b then 0 else 1) going in
        let now : stop_places (es ++ Stop ∷ []) ≡ 0 = ap (λ (b : Bool). if b then 0 else 1) (stop_added es) in
        let same : new.in_use.open_count ≡ parts.in_use.open_count = ap (λ (u : InUse). u.open_count) (halted.in_use ∙ lowered.in_use) in
        let held = c.reserved (omega (arith, some, same)) in
        omega (arith, longer, before, now, same, held, le);
    current = record {
      sound = c.current.sound;
      states = halted.states ∙ lowered.states ∙ c.current.states ∙ sym (states_stopped plan es);
      in_use =
          subst (λ (rs : List Running). IsInUse plan rs new.in_use) (sym (opens_stop es))
          (subst (λ (u : InUse). IsInUse plan (open_starts es) u) (sym (halted.in_use ∙ lowered.in_use)) c.current.in_use);
      stopped = halted.stopped ∙ sym (stop_added es);
      followers = halted.followers ∙ lowered.followers ∙ c.current.followers;
    };
    unfinished =
        let u = c.unfinished in
        let same : count_unfinished new.states.items ≡ count_unfinished parts.states.items = ap count_unfinished (halted.states ∙ lowered.states) in
        let less = halted.unfinished ∙ lowered.unfinished in
        omega (arith, u, same, less);
    queued = record {
      ready = λ goes_on. absurd (true≢false (sym (stop_added es) ∙ goes_on));
      halted = λ _.
          subst (λ (xs : List Entry). IsQueued plan xs [] new.ready) (sym (before_first es going))
          (subst (λ (r : ReadyValue). IsQueued plan es [] r) (sym halted.ready) (queued.ready going));
      bunches = bunches_stay plan low new halted.keys (ap (λ (r : ReadyValue). r.bunches) halted.ready) queued.bunches;
      settleable = stop_settleable plan es new.settleable
          (let have = queued.settleable.room in let same = halted.room in omega (arith, have, same))
          marked;
    };
  }
    where
      states : low.states.items ≡ states_of plan es
      states = lowered.states ∙ c.current.states

      count : length low.states.items ≡ length plan.tests
      count = ap length states ∙ length-map plan.tests (state_of plan.repeat es)

      marked : (place : ℕ) → is_marked new.settleable place ≡ is_pending_at plan es (slice_get plan.tests place)
      marked place = elim (cases_Bool (nat_lt place (length low.states.items))) [
        | inl within ↦
            halted.marked place
            ∙ ap (λ (b : Bool). if b then is_pending_at_place low.states.items place else is_marked low.settleable place) within
            ∙ ap (λ (ss : List State). is_pending_at_place ss place) states
            ∙ pending_here plan es place
        | inr beyond ↦
            let le : length plan.tests ≤ place = omega (arith, count, ltb-false place (length low.states.items) beyond) in
            let none = none_behind plan.tests place le in
            halted.marked place
            ∙ ap (λ (b : Bool). if b then is_pending_at_place low.states.items place else is_marked low.settleable place) beyond
            ∙ queued.settleable.marked place
            ∙ ap (λ (o : Option PlanTest). settles_but plan es [] o) none
            ∙ sym (ap (λ (o : Option PlanTest). is_pending_at plan es o) none)
      ]
