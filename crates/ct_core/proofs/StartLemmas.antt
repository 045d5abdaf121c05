-- A run is kept when an attempt starts.
use Rattle.std.proofs.Common.{◌≡◌, ◌∙◌, sym, ap, subst, Bool, true, false, ℕ, ◌+◌, ◌<◌, ◌≤◌, ◌^◌, List, [], ◌∷◌, ◌++◌, length, refl, arith, length-append}
use Rattle.std.specs.Prelude.{Option, Some, None, slice_get, slice_set}
use Rattle.std.proofs.lemmas.Bool.{true≢false}
use Rattle.std.proofs.lemmas.List.{length-map}
use Rattle.ct_alloc.specs.declared.placement.Placement.{Placement}
use Rattle.ct_history.specs.declared.plan.PlanTest.{PlanTest}
use Rattle.ct_history.specs.declared.plan.PlanParts.{PlanParts}
use Rattle.ct_history.specs.declared.history.Entry.{Entry}
use Rattle.ct_history.specs.declared.history.Entry.TheVariants.{Start}
use Rattle.ct_history.specs.Plan.{IsPlaceOf, test_at}
use Rattle.ct_history.specs.History.{Running, attempts_of, has_stop, is_busy_in, open_starts}
use Rattle.ct_history.specs.Rules.{may_start, may_start_at}
use Rattle.ct_history.proofs.LegalLemmas.{allowed-snoc, legal_allowed, legal_from, start_not_due}
use Rattle.ct_history.proofs.MayLemmas.{may_start-parts}
use Rattle.ct_queue.specs.Ready.{ReadyValue, StandsIn, is_in_ready_set, with_out}
use Rattle.ct_core.specs.declared.choice.Startable.{Startable}
use Rattle.ct_core.specs.declared.state.State.{State}
use Rattle.ct_core.specs.declared.state.State.TheVariants.{Open, Pending}
use Rattle.ct_core.specs.declared.parts.Parts.{Parts}
use Rattle.ct_core.specs.Choice.{IsStartable, attempt_after}
use Rattle.ct_core.specs.InUse.{CanTake, IsInUse, Takes}
use Rattle.ct_core.specs.Places.{stop_places}
use Rattle.ct_core.specs.Standing.{count_unfinished, state_of}
use Rattle.ct_core.specs.Waiting.{AreSettleable, IsQueued}
use Rattle.ct_core.specs.Parts.{IsKept}
use Rattle.ct_core.proofs.KeyLemmas.{bunches_stay}
use Rattle.ct_core.proofs.KeptLemmas.{one_place_most, start_allowed, stop_stays}
use Rattle.ct_core.proofs.InUseLemmas.{take_possible, taken}
use Rattle.ct_core.proofs.OpenStartLemmas.{start_opens}
use Rattle.ct_core.proofs.StandingLemmas.{pending_starts, states_started, unfinished_same}
use Rattle.ct_core.proofs.WaitingLemmas.{start_member, start_queued, start_settleable, start_stands}

-- the parts behind a start: its test is open with this placement, what the test
-- uses is taken, and the test is out of the ready set; nothing else changed
pub record IsBegun (place number ended : ℕ) (t : PlanTest) (placement : Option Placement) (old new : Parts) : Type 0 where
  pub states : new.states.items ≡ slice_set old.states.items place (Open ended placement)
  pub in_use : Takes t placement old.in_use new.in_use
  pub ready : new.ready ≡ with_out old.ready number true
  pub settleable : new.settleable ≡ old.settleable
  pub keys : new.keys.items ≡ old.keys.items
  pub followers : new.followers.items ≡ old.followers.items
  pub stopped : new.stopped ≡ old.stopped
  pub unfinished : new.unfinished ≡ old.unfinished

-- the test that starts, and what holds of it in front of the start
pub record StartedTest (plan : PlanParts) (es : List Entry) (n : ℕ) (p : Option Placement) (a : ℕ) : Type 0 where
  pub test : PlanTest
  pub found : test_at plan.tests n ≡ Some test
  pub may : may_start plan test p es ≡ true
  pub next : a ≡ length (attempts_of test.number test.rules es) + 1

pub started_test : (plan : PlanParts) (es : List Entry) (n : ℕ) (p : Option Placement) (a : ℕ) → may_start_at plan es p (test_at plan.tests n) ≡ true → a ≡ attempt_after es (test_at plan.tests n) → StartedTest plan es n p a
started_test plan es n p a may next = by_test (test_at plan.tests n) refl may next
  where
    by_test : (o : Option PlanTest) → test_at plan.tests n ≡ o → may_start_at plan es p o ≡ true → a ≡ attempt_after es o → StartedTest plan es n p a
    by_test None found may next = cc
    by_test (Some t) found may next = record { test = t; found = found; may = may; next = next }

module _ (plan : PlanParts) (es : List Entry) (room : ℕ) (parts : Parts) (kept : IsKept plan es room parts) (w : ℕ) (free : is_busy_in w es ≡ false) (start : Startable) (can : IsStartable plan es start) (place : ℕ) (at : IsPlaceOf plan.tests start.test place) (t : PlanTest) (found : test_at plan.tests start.test ≡ Some t) where
  abbrev n : ℕ
  n = start.test

  abbrev p : Option Placement
  p = start.placement

  abbrev more : List Entry
  more = es ++ Start n start.attempt w p ∷ []

  abbrev pub ended : ℕ
  ended = length (attempts_of t.number t.rules es)

  one : StartedTest plan es n p start.attempt
  one = started_test plan es n p start.attempt can.first.may can.next

  same : one.test ≡ t
  same = let both : Some one.test ≡ Some t = sym one.found ∙ found in cc

  may : may_start plan t p es ≡ true
  may = subst (λ (x : PlanTest). may_start plan x p es ≡ true) same one.may

  pub next : start.attempt ≡ ended + 1
  next = one.next ∙ ap (λ (x : PlanTest). length (attempts_of x.number x.rules es) + 1) same

  going : has_stop es ≡ false
  going = (may_start-parts plan t p es may).goes_on

  pub within_states : place < length parts.states.items
  within_states =
      let long : length parts.states.items ≡ length plan.tests = ap length kept.current.states ∙ length-map plan.tests (state_of plan.repeat es) in
      let within = at.within in
      omega (arith, long, within)

  pub can_take : plan.level < 2 ^ 32 → parts.in_use.open_count + 1 < 2 ^ 64 → CanTake t p parts.in_use
  can_take level few =
      let opens = kept.current.in_use.opens in
      take_possible plan es n t p parts.in_use kept.current.in_use found may level (omega (arith, opens, few))

  pub stands_queued : StandsIn parts.ready.order n
  stands_queued = subst (λ (o : List ℕ). StandsIn o n) (sym (kept.queued.ready going).order) (start_stands plan kept.current.sound es n t found start.attempt w p may)

  pub is_member : is_in_ready_set parts.ready n ≡ true
  is_member = start_member plan kept.current.sound es n t found start.attempt w p may parts.ready (kept.queued.ready going)

  stops : has_stop more ≡ has_stop es
  stops = stop_stays es (Start n start.attempt w p) refl

  was : slice_get parts.states.items place ≡ Some (Pending ended)
  was = ap (λ (ss : List State). slice_get ss place) kept.current.states ∙ pending_starts plan es n place t at found p may

  pub kept-started : (new : Parts) → IsBegun place n ended t p parts new → (room' : ℕ) → length es + (parts.in_use.open_count + 3) ≤ room' → IsKept plan more room' new
  kept-started new begun room' le = record {
    legal =
        legal_from plan more
        (allowed-snoc plan es (Start n start.attempt w p) (legal_allowed plan es kept.legal) (start_allowed plan es kept.legal n start.attempt w p free can.first.may can.next))
        (start_not_due plan es n start.attempt w p);
    reserved = λ some.
        let longer : length more ≡ length es + 1 = length-append es (Start n start.attempt w p ∷ []) in
        let one_more = begun.in_use.opens in
        let most : stop_places more ≤ 1 = one_place_most more in
        omega (arith, longer, one_more, most, le);
    current = record {
      sound = kept.current.sound;
      states =
          begun.states
          ∙ ap (λ (ss : List State). slice_set ss place (Open ended p)) kept.current.states
          ∙ sym (states_started plan es n place t at found kept.current.sound start.attempt w p may);
      in_use =
          subst (λ (rs : List Running). IsInUse plan rs new.in_use) (sym (start_opens es n start.attempt w p))
          (taken plan (open_starts es) (record { test = n; attempt = start.attempt; worker = w; placement = p }) t parts.in_use new.in_use kept.current.in_use found begun.in_use);
      stopped = begun.stopped ∙ kept.current.stopped ∙ sym stops;
      followers = begun.followers ∙ kept.current.followers;
    };
    unfinished =
        let equal = unfinished_same parts.states.items place (Pending ended) (Open ended p) was refl in
        let now : count_unfinished new.states.items ≡ count_unfinished (slice_set parts.states.items place (Open ended p)) = ap count_unfinished begun.states in
        let as_before = begun.unfinished in
        let before = kept.unfinished in
        omega (arith, equal, now, as_before, before);
    queued = record {
      ready = λ _. subst (λ (r : ReadyValue). IsQueued plan more [] r) (sym begun.ready) (start_queued plan kept.current.sound es n t found start.attempt w p may parts.ready (kept.queued.ready going));
      halted = λ stop. absurd (true≢false (sym stop ∙ stops ∙ going));
      bunches = bunches_stay plan parts new begun.keys (ap (λ (r : ReadyValue). r.bunches) begun.ready) kept.queued.bunches;
      settleable = subst (λ (m : List Bool). AreSettleable plan more [] m) (sym begun.settleable) (start_settleable plan kept.current.sound es n t found start.attempt w p may parts.settleable kept.queued.settleable);
    };
  }
