-- A run is kept when it notes that a test is final, at one test that waited for it.
use Rattle.std.proofs.Common.{◌≡◌, ◌∙◌, sym, ap, subst, Bool, true, false, ℕ, ◌+◌, ◌<◌, List, [], ◌∷◌, length, drop, get_or, refl, arith, inl, inr, suc}
use Rattle.std.specs.Prelude.{Option, Some, None, ◌==◌, cond, is_some, slice_set}
use Rattle.std.proofs.lemmas.Bool.{cases_Bool, true≢false}
use Rattle.std.proofs.lemmas.List.{drop_more, get_or-map, get_or_default, length-map}
use Rattle.std.proofs.lemmas.Option.{slice_get_cases, slice_get_read}
use Rattle.ct_verdict.specs.declared.verdict.Cause.{Cause}
use Rattle.ct_history.specs.declared.plan.PlanTest.{PlanTest}
use Rattle.ct_history.specs.declared.plan.PlanParts.{PlanParts}
use Rattle.ct_history.specs.declared.history.Entry.{Entry}
use Rattle.ct_history.specs.Plan.{IsPlaceOf, IsSound, test_at}
use Rattle.ct_history.specs.History.{has_stop}
use Rattle.ct_queue.specs.Ready.{ReadyValue, StandsIn, predecessors_left, is_in_ready_set, lowered}
use Rattle.ct_core.specs.declared.parts.Parts.{Parts}
use Rattle.ct_core.specs.Waiting.{AreSettleable, IsQueued, cause_then, followers_of}
use Rattle.ct_core.specs.Bunches.{AreBunchesOf}
use Rattle.ct_core.specs.Parts.{AreQueued, AreCurrent, before_stop, followers_at}
use Rattle.ct_core.proofs.KeyLemmas.{bunches_stay}
use Rattle.ct_core.proofs.AllowedLemmas.{number_at}
use Rattle.ct_core.proofs.EnabledLemmas.{IsEnabled, queued_enabled}
use Rattle.ct_core.proofs.LowerLemmas.{IsLowered, follower_lowerable, follower_lowered, follower_lowers, follower_stands, marks_settled, marks_unsettled, marks_waiting}

-- the test that is read at the place of a number is the test with this number
pub found_here : (ts : List PlanTest) (n here : ℕ) (t : PlanTest) → IsPlaceOf ts n here → t ≡ get_or ts here t → test_at ts n ≡ Some t
found_here ts n here t at is = sym at.there ∙ slice_get_read ts (length ts) here t refl at.within is

-- a test that was found has a place
pub place_exists : (ts : List PlanTest) (n : ℕ) (t : PlanTest) → test_at ts n ≡ Some t → (place : ℕ) × IsPlaceOf ts n place
place_exists [] n t found = cc
place_exists (x ∷ xs) n t found = elim (cases_Bool (x.number == n)) [
  | inl here ↦ (0, record { within = omega arith; there = sym (ap (λ (b : Bool). cond b (Some x) (test_at xs n)) here) })
  | inr other ↦
      let at = place_exists xs n t (sym (ap (λ (b : Bool). cond b (Some x) (test_at xs n)) other) ∙ found) in
      let within = at.1.within in
      (suc at.0, record { within = omega (arith, within); there = at.1.there ∙ sym (ap (λ (b : Bool). cond b (Some x) (test_at xs n)) other) })
]

-- the tests that wait for the test at a place
pub record WaitFor (plan : PlanParts) (parts : Parts) (place : ℕ) : Type 0 where
  pub number : ℕ
  pub same : followers_at parts place ≡ followers_of plan.tests number

pub waiting_for : (plan : PlanParts) (es : List Entry) (parts : Parts) (place : ℕ) → AreCurrent plan es parts → place < length plan.tests → WaitFor plan parts place
waiting_for plan es parts place told there = elim ((slice_get_cases plan.tests place).1) [
  | inl some ↦
      let t = some.0 in
      record {
        number = t.number;
        same =
            ap (λ (ls : List (List ℕ)). get_or ls place []) told.followers
            ∙ get_or-map (λ (x : PlanTest). followers_of plan.tests x.number) plan.tests place t [] there
            ∙ ap (λ (x : PlanTest). followers_of plan.tests x.number) some.3;
      }
  | inr none ↦ absurd (omega (arith, there, none.0))
]

-- the followers at a test's place are the tests that wait for its number
pub followers_are : (plan : PlanParts) (es : List Entry) (parts : Parts) (n place : ℕ) → AreCurrent plan es parts → IsPlaceOf plan.tests n place → followers_at parts place ≡ followers_of plan.tests n
followers_are plan es parts n place told at = elim ((slice_get_cases plan.tests place).1) [
  | inl some ↦
      let t = some.0 in
      let number : t.number ≡ n = number_at plan.tests n t (sym at.there ∙ some.2) in
      ap (λ (ls : List (List ℕ)). get_or ls place []) told.followers
      ∙ get_or-map (λ (x : PlanTest). followers_of plan.tests x.number) plan.tests place t [] at.within
      ∙ ap (λ (x : PlanTest). followers_of plan.tests x.number) some.3
      ∙ ap (λ (m : ℕ). followers_of plan.tests m) number
  | inr none ↦ absurd (let within = at.within in omega (arith, within, none.0))
]

-- the list that is read at a place is the list of the followers there
pub read_waiting : (plan : PlanParts) (es : List Entry) (parts : Parts) (place : ℕ) → AreCurrent plan es parts → place < length plan.tests → (ws : List ℕ) → ws ≡ get_or parts.followers.items place ws → ws ≡ followers_at parts place
read_waiting plan es parts place told there ws is =
    let long : length parts.followers.items ≡ length plan.tests = ap length told.followers ∙ length-map plan.tests (λ (t : PlanTest). followers_of plan.tests t.number) in
    is ∙ get_or_default parts.followers.items place ws [] (omega (arith, long, there))

module _ (plan : PlanParts) (sound : IsSound plan) (es : List Entry) (going : has_stop es ≡ false) (parts : Parts) (told : AreCurrent plan es parts) (place at x : ℕ) (there : place < length plan.tests) (within : at < length (followers_at parts place)) (is : x ≡ get_or (followers_at parts place) at 0) (queued : AreQueued plan es (drop at (followers_at parts place)) parts) where
  abbrev rest : List ℕ
  rest = drop (at + 1) (followers_at parts place)

  wait : WaitFor plan parts place
  wait = waiting_for plan es parts place told there

  next : drop at (followers_of plan.tests wait.number) ≡ x ∷ rest
  next =
      ap (λ (l : List ℕ). drop at l) (sym wait.same)
      ∙ drop_more (followers_at parts place) at 0 within
      ∙ ap (λ (m : ℕ). m ∷ rest) (sym is)

  ready : IsQueued plan es (drop at (followers_of plan.tests wait.number)) parts.ready
  ready = subst (λ (l : List ℕ). IsQueued plan es (drop at l) parts.ready) wait.same (queued.ready going)

  marks : AreSettleable plan es (x ∷ rest) parts.settleable
  marks = subst (λ (l : List ℕ). AreSettleable plan es l parts.settleable) next (subst (λ (l : List ℕ). AreSettleable plan es (drop at l) parts.settleable) wait.same queued.settleable)

  stands : StandsIn plan.queue x
  stands = follower_stands plan sound wait.number at x rest next

  pub stands_in : StandsIn parts.ready.order x
  stands_in = subst (λ (o : List ℕ). StandsIn o x) (sym ready.order) stands

  pub open_one : 0 < predecessors_left parts.ready x
  open_one = follower_lowerable plan sound es wait.number at x rest next parts.ready ready

  pub enabled : IsEnabled plan x
  enabled = queued_enabled plan sound x stands

  lower : IsQueued plan es rest (lowered parts.ready x)
  lower = follower_lowers plan sound es wait.number at x rest next parts.ready ready

  module _ (new : Parts) (now : new.ready ≡ lowered parts.ready x) (keys : new.keys.items ≡ parts.keys.items) where
    queue : has_stop es ≡ false → IsQueued plan es rest new.ready
    queue goes_on = subst (λ (r : ReadyValue). IsQueued plan es rest r) (sym now) lower

    halted : has_stop es ≡ true → IsQueued plan (before_stop es) [] new.ready
    halted stop = absurd (true≢false (sym stop ∙ going))

    bunched : AreBunchesOf plan new.keys.items new.ready.bunches
    bunched = bunches_stay plan parts new keys (ap (λ (r : ReadyValue). r.bunches) now) queued.bunches

    pub waits_on : is_in_ready_set (lowered parts.ready x) x ≡ false → new.settleable ≡ parts.settleable → AreQueued plan es rest new
    waits_on not_ready same =
        let follower = enabled in
        let at_place = place_exists plan.tests x follower.test follower.found in
        let low = follower_lowered plan sound es wait.number at x rest next parts.ready ready follower.test at_place.0 going follower.found at_place.1 in
        record {
          ready = queue;
          halted = halted;
          bunches = bunched;
          settleable = subst (λ (m : List Bool). AreSettleable plan es rest m) (sym same) (marks_waiting plan sound es x rest follower.test at_place.0 (lowered parts.ready x) low parts.settleable marks not_ready);
        }

    module _ (t : PlanTest) (here : ℕ) (found : test_at plan.tests x ≡ Some t) (at_place : IsPlaceOf plan.tests x here) where
      low : IsLowered plan es x rest t here (lowered parts.ready x)
      low = follower_lowered plan sound es wait.number at x rest next parts.ready ready t here going found at_place

      pub settles_not : is_in_ready_set (lowered parts.ready x) x ≡ true → is_some (cause_then plan es t) ≡ false → new.settleable ≡ parts.settleable → AreQueued plan es rest new
      settles_not is_now none same = record {
        ready = queue;
        halted = halted;
        bunches = bunched;
        settleable = subst (λ (m : List Bool). AreSettleable plan es rest m) (sym same) (marks_unsettled plan sound es x rest t here (lowered parts.ready x) low parts.settleable marks is_now (no_cause (cause_then plan es t) none));
      }
        where
          no_cause : (c : Option Cause) → is_some c ≡ false → c ≡ None
          no_cause None is = refl
          no_cause (Some c) is = cc

      pub settles : is_in_ready_set (lowered parts.ready x) x ≡ true → is_some (cause_then plan es t) ≡ true → new.settleable ≡ slice_set parts.settleable here true → AreQueued plan es rest new
      settles is_now some same = by_cause (cause_then plan es t) refl some
        where
          by_cause : (c : Option Cause) → cause_then plan es t ≡ c → is_some c ≡ true → AreQueued plan es rest new
          by_cause None is none = cc
          by_cause (Some c) is has = record {
            ready = queue;
            halted = halted;
            bunches = bunched;
            settleable = subst (λ (m : List Bool). AreSettleable plan es rest m) (sym same) (marks_settled plan sound es x rest t here (lowered parts.ready x) low parts.settleable marks c is_now is);
          }
