-- A run is kept when it settles a test.
use Rattle.std.proofs.Common.{◌≡◌, ◌∙◌, sym, ap, subst, Bool, true, false, ℕ, ◌+◌, ◌≤◌, List, [], ◌∷◌, ◌++◌, length, refl, arith, length-append}
use Rattle.std.specs.Prelude.{Option, Some, None, not, ◌&&◌, slice_get, slice_set}
use Rattle.std.proofs.lemmas.Bool.{true≢false}
use Rattle.ct_verdict.specs.declared.verdict.Cause.{Cause}
use Rattle.ct_verdict.specs.declared.verdict.Verdict.TheVariants.{NotRun}
use Rattle.ct_verdict.specs.Verdict.{is_failing_cause}
use Rattle.ct_history.specs.declared.plan.PlanTest.{PlanTest}
use Rattle.ct_history.specs.declared.plan.PlanParts.{PlanParts}
use Rattle.ct_history.specs.declared.history.Entry.{Entry}
use Rattle.ct_history.specs.declared.history.Entry.TheVariants.{Settle}
use Rattle.ct_history.specs.Plan.{IsPlaceOf, test_at}
use Rattle.ct_history.specs.History.{Running, attempts_of, has_stop, open_starts}
use Rattle.ct_history.specs.Rules.{is_pending, settle_cause, settle_cause_at, settle_cause_of_test}
use Rattle.ct_history.proofs.LegalLemmas.{allowed-snoc, legal_allowed}
use Rattle.ct_history.proofs.MayLemmas.{settled_pending}
use Rattle.ct_history.proofs.OpenLemmas.{opens_settle}
use Rattle.ct_queue.specs.Ready.{ReadyValue, StandsIn, is_in_ready_set}
use Rattle.ct_core.specs.declared.state.State.{State}
use Rattle.ct_core.specs.declared.state.State.TheVariants.{Final, Pending}
use Rattle.ct_core.specs.declared.in_use.InUse.{InUse}
use Rattle.ct_core.specs.declared.parts.Parts.{Parts}
use Rattle.ct_core.specs.InUse.{IsInUse}
use Rattle.ct_core.specs.Places.{stop_places}
use Rattle.ct_core.specs.Standing.{count_unfinished}
use Rattle.ct_core.specs.Waiting.{AreSettleable, IsQueued, followers_of}
use Rattle.ct_core.specs.Parts.{IsConcluding, IsKept, IsSettled}
use Rattle.ct_core.proofs.KeyLemmas.{bunches_stay, halted_stays}
use Rattle.ct_core.proofs.DueLemmas.{settle_due}
use Rattle.ct_core.proofs.KeptLemmas.{one_place_most, settle_allowed, stop_stays}
use Rattle.ct_core.proofs.StateLemmas.{verdict_settled}
use Rattle.ct_core.proofs.StandingLemmas.{pending_settles, states_settled, unfinished_less}
use Rattle.ct_core.proofs.WaitingLemmas.{settle_member, settle_queued, settle_settleable, settle_stands, settle_stopped}

-- the test that is settled, and what holds of it in front of its Settle
pub record SettledTest (plan : PlanParts) (es : List Entry) (n : ℕ) (c : Cause) : Type 0 where
  pub test : PlanTest
  pub found : test_at plan.tests n ≡ Some test
  pub has : settle_cause plan test es ≡ Some c

pub settled_test : (plan : PlanParts) (es : List Entry) (n : ℕ) (c : Cause) → settle_cause_of_test plan es n ≡ Some c → SettledTest plan es n c
settled_test plan es n c may = by_test (test_at plan.tests n) refl may
  where
    by_test : (o : Option PlanTest) → test_at plan.tests n ≡ o → settle_cause_at plan es o ≡ Some c → SettledTest plan es n c
    by_test None found has = cc
    by_test (Some t) found has = record { test = t; found = found; has = has }

module _ (plan : PlanParts) (es : List Entry) (room : ℕ) (parts : Parts) (kept : IsKept plan es room parts) (n : ℕ) (c : Cause) (may : settle_cause_of_test plan es n ≡ Some c) (place : ℕ) (at : IsPlaceOf plan.tests n place) where
  abbrev more : List Entry
  more = es ++ Settle n c ∷ []

  one : SettledTest plan es n c
  one = settled_test plan es n c may

  pending : is_pending plan one.test es ≡ true
  pending = settled_pending plan one.test es c one.has

  going_on : parts.stopped ≡ false → has_stop es ≡ false
  going_on runs = sym kept.current.stopped ∙ runs

  -- while there is no Stop, the test stands in the queue, and is a member of the ready set
  pub stands_queued : parts.stopped ≡ false → StandsIn parts.ready.order n
  stands_queued runs =
      subst (λ (o : List ℕ). StandsIn o n) (sym (kept.queued.ready (going_on runs)).order) (settle_stands plan kept.current.sound es n one.test one.found c one.has)

  pub is_member : parts.stopped ≡ false → is_in_ready_set parts.ready n ≡ true
  is_member runs = settle_member plan kept.current.sound es n one.test one.found c one.has parts.ready (going_on runs) (kept.queued.ready (going_on runs))

  stops : has_stop more ≡ has_stop es
  stops = stop_stays es (Settle n c) refl

  pub concluding-settled : (new : Parts) → IsSettled place n c parts new → (room' : ℕ) → length es + (parts.in_use.open_count + 2) ≤ room' → IsConcluding plan more room' n (NotRun c) new
  concluding-settled new set room' le = record {
    allowed = allowed-snoc plan es (Settle n c) (legal_allowed plan es kept.legal) (settle_allowed plan es kept.legal n c may);
    final = verdict_settled plan es n one.test one.found c pending;
    due =
        settle_due plan kept.current.sound es kept.legal n one.test one.found c pending
        ∙ ap (λ (b : Bool). plan.stop_on_failure && is_failing_cause c && not b) (sym stops);
    reserved = λ some.
        let longer : length more ≡ length es + 1 = length-append es (Settle n c ∷ []) in
        let same : new.in_use.open_count ≡ parts.in_use.open_count = ap (λ (u : InUse). u.open_count) set.in_use in
        let most : stop_places more ≤ 1 = one_place_most more in
        omega (arith, longer, same, most, le);
    stop_room = λ going. let longer : length more ≡ length es + 1 = length-append es (Settle n c ∷ []) in omega (arith, longer, le);
    current = record {
      sound = kept.current.sound;
      states =
          set.states
          ∙ ap (λ (ss : List State). slice_set ss place (Final (NotRun c))) kept.current.states
          ∙ sym (states_settled plan es n place one.test at one.found kept.current.sound c pending);
      in_use =
          subst (λ (rs : List Running). IsInUse plan rs new.in_use) (sym (opens_settle es n c))
          (subst (λ (u : InUse). IsInUse plan (open_starts es) u) (sym set.in_use) kept.current.in_use);
      stopped = set.stopped ∙ kept.current.stopped ∙ sym stops;
      followers = set.followers ∙ kept.current.followers;
    };
    unfinished =
        let was : slice_get parts.states.items place ≡ Some (Pending (length (attempts_of one.test.number one.test.rules es))) =
        ap (λ (ss : List State). slice_get ss place) kept.current.states ∙ pending_settles plan es n place one.test at one.found c one.has in
        let less = unfinished_less parts.states.items place (Pending (length (attempts_of one.test.number one.test.rules es))) (Final (NotRun c)) was refl refl in
        let now : count_unfinished new.states.items ≡ count_unfinished (slice_set parts.states.items place (Final (NotRun c))) = ap count_unfinished set.states in
        let same = set.unfinished in
        let before = kept.unfinished in
        omega (arith, less, now, same, before);
    waiting = λ going.
        let on : has_stop es ≡ false = sym stops ∙ going in
        let runs : parts.stopped ≡ false = kept.current.stopped ∙ on in
        record {
          ready = λ _. subst (λ (r : ReadyValue). IsQueued plan more (followers_of plan.tests n) r) (sym (set.ready runs)) (settle_queued plan kept.current.sound es n one.test one.found c one.has parts.ready (kept.queued.ready on));
          halted = λ stop. absurd (true≢false (sym stop ∙ going));
          bunches = bunches_stay plan parts new set.keys (ap (λ (r : ReadyValue). r.bunches) (set.ready runs)) kept.queued.bunches;
          settleable = subst (λ (m : List Bool). AreSettleable plan more (followers_of plan.tests n) m) (sym set.settleable) (settle_settleable plan kept.current.sound es n one.test one.found c one.has parts.settleable place on at kept.queued.settleable);
        };
    stopped = λ stop.
        let was : has_stop es ≡ true = sym stops ∙ stop in
        let same : new.ready ≡ parts.ready = set.halted (kept.current.stopped ∙ was) in
        record {
          ready = λ going. absurd (true≢false (sym stop ∙ going));
          halted = λ _. halted_stays plan es (Settle n c) parts.ready new.ready was same (kept.queued.halted was);
          bunches = bunches_stay plan parts new set.keys (ap (λ (r : ReadyValue). r.bunches) same) kept.queued.bunches;
          settleable = subst (λ (m : List Bool). AreSettleable plan more [] m) (sym set.settleable) (settle_stopped plan kept.current.sound es n one.test one.found c one.has parts.settleable place was at kept.queued.settleable);
        };
  }
