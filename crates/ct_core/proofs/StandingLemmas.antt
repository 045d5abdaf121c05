-- The states of the tests of a plan, with one more entry, and how many are not final.
use Rattle.std.proofs.Common.{◌≡◌, ◌∙◌, sym, ap, Bool, true, false, ℕ, zero, suc, ◌+◌, ◌<◌, List, [], ◌∷◌, ◌++◌, length, refl, arith}
use Rattle.std.specs.Prelude.{Option, Some, None, option_and_then, option_map, is_some, is_none, not, ◌&&◌, ◌==◌, cond, filter, map, slice_get, slice_set, if◌then◌else◌}
use Rattle.std.specs.List.{list_all}
use Rattle.std.proofs.lemmas.Bool.Decides.{nat_tests}
use Rattle.std.proofs.lemmas.Option.{slice_get-map}
use Rattle.ct_alloc.specs.declared.placement.Placement.{Placement}
use Rattle.ct_verdict.specs.declared.attempt.Seen.{Seen}
use Rattle.ct_verdict.specs.declared.verdict.Cause.{Cause}
use Rattle.ct_verdict.specs.declared.verdict.Verdict.{Verdict}
use Rattle.ct_verdict.specs.declared.verdict.Verdict.TheVariants.{NotRun}
use Rattle.ct_verdict.specs.Verdict.{is_repeated, verdict_of}
use Rattle.ct_history.proofs.PlaceLemmas.{place_bound}
use Rattle.ct_history.specs.declared.plan.PlanTest.{PlanTest}
use Rattle.ct_history.specs.declared.plan.PlanParts.{PlanParts}
use Rattle.ct_history.specs.declared.history.Entry.{Entry}
use Rattle.ct_history.specs.declared.history.Entry.TheVariants.{Start, End, Settle, Stop}
use Rattle.ct_history.specs.Plan.{IsAscendingFrom, IsPlaceOf, IsSound, test_at}
use Rattle.ct_history.specs.History.{Running, attempts_of, holds_start, open_start_of_test}
use Rattle.ct_history.specs.Verdicts.{are_all_final, is_final_in, verdict_at, verdict_in, verdict_of_test}
use Rattle.ct_history.specs.Rules.{is_pending, may_start, settle_cause}
use Rattle.ct_history.specs.Legal.{is_allowed_so_far}
use Rattle.ct_history.proofs.MayLemmas.{may_start-parts, settled_pending}
use Rattle.ct_core.specs.declared.state.State.{State}
use Rattle.ct_core.specs.declared.state.State.TheVariants.{Pending, Open, Final}
use Rattle.ct_core.specs.Standing.{count_unfinished, state_of, states_of, verdict_of_state}
use Rattle.ct_core.proofs.OpenStartLemmas.{IsAboutOnly, about_end, about_settle, about_start, number_at}
pub use Rattle.ct_core.proofs.StateLemmas.{attempts_few, open_other, pending_other, pending_state, state_after, state_ended, state_first, state_open, state_other, state_pending, state_settled, state_started, verdict_ended, verdict_other, verdict_settled, verdict_standing, verdict_started, verdict_state}

-- the state at a test's place is the state of the test
pub state_at : (plan : PlanParts) (es : List Entry) (n place : ℕ) (t : PlanTest) → IsPlaceOf plan.tests n place → test_at plan.tests n ≡ Some t → slice_get (states_of plan es) place ≡ Some (state_of plan.repeat es t)
state_at plan es n place t here found =
    slice_get-map (state_of plan.repeat es) plan.tests place ∙ ap (λ (o : Option PlanTest). option_map (state_of plan.repeat es) o) (here.there ∙ found)

pub verdict_state_at : (plan : PlanParts) (es : List Entry) (n place : ℕ) → IsPlaceOf plan.tests n place → verdict_of_test plan es n ≡ option_and_then verdict_of_state (slice_get (states_of plan es) place)
verdict_state_at plan es n place here =
    by_test (test_at plan.tests n)
    ∙ sym (ap (λ (o : Option State). option_and_then verdict_of_state o) (slice_get-map (state_of plan.repeat es) plan.tests place ∙ ap (λ (o : Option PlanTest). option_map (state_of plan.repeat es) o) here.there))
  where
    by_test : (o : Option PlanTest) → verdict_at plan es o ≡ option_and_then verdict_of_state (option_map (state_of plan.repeat es) o)
    by_test None = refl
    by_test (Some t) = sym (verdict_state plan.repeat t es)

module _ (f g : PlanTest → State) (n : ℕ) (same : (u : PlanTest) → (u.number == n) ≡ false → g u ≡ f u) where
  same_above : (least : ℕ) (ts : List PlanTest) → IsAscendingFrom least (map (λ (x : PlanTest). x.number) ts) → n < least → map g ts ≡ map f ts
  same_above least [] ascends lt = refl
  same_above least (x ∷ xs) ascends lt =
      let le = ascends.0 in
      let other : (x.number == n) ≡ false = grind (arith, nat_tests) in
      ap (λ (s : State). s ∷ map g xs) (same x other)
      ∙ ap (λ (ss : List State). f x ∷ ss) (same_above (x.number + 1) xs ascends.1 (omega (arith, lt, le)))

  -- if all states but that of the test at a place are as
  -- before, the new list is the old one with that place set
  set_one : (least : ℕ) (ts : List PlanTest) (place : ℕ) (t : PlanTest) → IsAscendingFrom least (map (λ (x : PlanTest). x.number) ts) → slice_get ts place ≡ Some t → t.number ≡ n → map g ts ≡ slice_set (map f ts) place (g t)
  set_one least [] place t ascends is number = cc
  set_one least (x ∷ xs) zero t ascends is number =
      let here : x ≡ t = cc in
      let at : x.number ≡ n = ap (λ (y : PlanTest). y.number) here ∙ number in
      ap (λ (y : PlanTest). g y ∷ map g xs) here ∙ ap (λ (ss : List State). g t ∷ ss) (same_above (x.number + 1) xs ascends.1 (omega (arith, at)))
  set_one least (x ∷ xs) (suc k) t ascends is number =
      let bound = place_bound (x.number + 1) xs k t ascends.1 is in
      let other : (x.number == n) ≡ false = grind (arith, nat_tests) in
      ap (λ (s : State). s ∷ map g xs) (same x other) ∙ ap (λ (ss : List State). f x ∷ ss) (set_one (x.number + 1) xs k t ascends.1 is number)

module _ (plan : PlanParts) (es : List Entry) (n place : ℕ) (t : PlanTest) (here : IsPlaceOf plan.tests n place) (found : test_at plan.tests n ≡ Some t) where
  -- an entry about one test sets the state at its place
  pub states_set : IsSound plan → (e : Entry) (s : State) → IsAboutOnly n e → state_of plan.repeat (es ++ e ∷ []) t ≡ s → states_of plan (es ++ e ∷ []) ≡ slice_set (states_of plan es) place s
  states_set sound e s only is =
      set_one (state_of plan.repeat es) (state_of plan.repeat (es ++ e ∷ [])) n (λ u unlike. state_other plan.repeat u es e (only u.number unlike)) 1 plan.tests place t sound.numbers (here.there ∙ found) (number_at plan.tests n t found)
      ∙ ap (λ (x : State). slice_set (states_of plan es) place x) is

  -- the state at the place of a pending test; then of a test that may start or be settled
  pub pending_at : is_pending plan t es ≡ true → slice_get (states_of plan es) place ≡ Some (Pending (length (attempts_of t.number t.rules es)))
  pending_at pending = state_at plan es n place t here found ∙ ap Some (state_pending plan es n t found pending)

  pub pending_starts : (p : Option Placement) → may_start plan t p es ≡ true → slice_get (states_of plan es) place ≡ Some (Pending (length (attempts_of t.number t.rules es)))
  pending_starts p may = pending_at (may_start-parts plan t p es may).pending

  pub pending_settles : (c : Cause) → settle_cause plan t es ≡ Some c → slice_get (states_of plan es) place ≡ Some (Pending (length (attempts_of t.number t.rules es)))
  pending_settles c is = pending_at (settled_pending plan t es c is)

  -- the state at the place of an open test
  pub open_at : is_allowed_so_far plan es ≡ true → (r : Running) → open_start_of_test n es ≡ Some r → slice_get (states_of plan es) place ≡ Some (Open (length (attempts_of t.number t.rules es)) r.placement)
  open_at so_far r is = state_at plan es n place t here found ∙ ap Some (state_open plan es n t found so_far r is)

  -- a Start opens a test that may start
  pub states_started : IsSound plan → (a w : ℕ) (p : Option Placement) → may_start plan t p es ≡ true → states_of plan (es ++ Start n a w p ∷ []) ≡ slice_set (states_of plan es) place (Open (length (attempts_of t.number t.rules es)) p)
  states_started sound a w p may =
      states_set sound (Start n a w p) (Open (length (attempts_of t.number t.rules es)) p) (about_start n a w p) (state_started plan es n t found a w p (may_start-parts plan t p es may).pending)

  -- an End closes its test, which is then tried again or final
  pub states_ended : IsSound plan → is_allowed_so_far plan es ≡ true → (a w : ℕ) (s : Seen) → holds_start n a w es ≡ true → states_of plan (es ++ End n a w s ∷ []) ≡ slice_set (states_of plan es) place (if is_repeated plan.repeat (length (attempts_of t.number t.rules es) + 1) (Some (verdict_of t.rules s)) then Pending (length (attempts_of t.number t.rules es) + 1) else Final (verdict_of t.rules s))
  states_ended sound so_far a w s holds =
      states_set sound (End n a w s) (state_after plan.repeat (length (attempts_of t.number t.rules es) + 1) (verdict_of t.rules s)) (about_end n a w s) (state_ended plan es n t found so_far a w s holds)

  -- a pending test that is settled is final
  pub states_settled : IsSound plan → (c : Cause) → is_pending plan t es ≡ true → states_of plan (es ++ Settle n c ∷ []) ≡ slice_set (states_of plan es) place (Final (NotRun c))
  states_settled sound c pending = states_set sound (Settle n c) (Final (NotRun c)) (about_settle n c) (state_settled plan es n t found c pending)

-- a Stop leaves all states
pub states_stopped : (plan : PlanParts) (es : List Entry) → states_of plan (es ++ Stop ∷ []) ≡ states_of plan es
states_stopped plan es = by_tests plan.tests
  where
    by_tests : (ts : List PlanTest) → map (state_of plan.repeat (es ++ Stop ∷ [])) ts ≡ map (state_of plan.repeat es) ts
    by_tests [] = refl
    by_tests (t ∷ ts) =
        ap (λ (s : State). s ∷ map (state_of plan.repeat (es ++ Stop ∷ [])) ts) (state_other plan.repeat t es Stop refl)
        ∙ ap (λ (ss : List State). state_of plan.repeat es t ∷ ss) (by_tests ts)

-- the count of states that are not final, with one place set
pub unfinished_same : (xs : List State) (place : ℕ) (old new : State) → slice_get xs place ≡ Some old → is_none (verdict_of_state new) ≡ is_none (verdict_of_state old) → count_unfinished (slice_set xs place new) ≡ count_unfinished xs
unfinished_same [] place old new at same = cc
unfinished_same (x ∷ xs) zero old new at same =
    let here : x ≡ old = cc in
    ap (λ (b : Bool). length (cond b (new ∷ filter (λ s. is_none (verdict_of_state s)) xs) (filter (λ s. is_none (verdict_of_state s)) xs))) (same ∙ ap (λ (s : State). is_none (verdict_of_state s)) (sym here))
    ∙ by_test (is_none (verdict_of_state x))
  where
    by_test : (b : Bool) → length (cond b (new ∷ filter (λ s. is_none (verdict_of_state s)) xs) (filter (λ s. is_none (verdict_of_state s)) xs)) ≡ length (cond b (x ∷ filter (λ s. is_none (verdict_of_state s)) xs) (filter (λ s. is_none (verdict_of_state s)) xs))
    by_test true = refl
    by_test false = refl
unfinished_same (x ∷ xs) (suc k) old new at same = by_test (is_none (verdict_of_state x)) (unfinished_same xs k old new at same)
  where
    by_test : (b : Bool) → count_unfinished (slice_set xs k new) ≡ count_unfinished xs → length (cond b (x ∷ filter (λ s. is_none (verdict_of_state s)) (slice_set xs k new)) (filter (λ s. is_none (verdict_of_state s)) (slice_set xs k new))) ≡ length (cond b (x ∷ filter (λ s. is_none (verdict_of_state s)) xs) (filter (λ s. is_none (verdict_of_state s)) xs))
    by_test true is = ap suc is
    by_test false is = is

pub unfinished_less : (xs : List State) (place : ℕ) (old new : State) → slice_get xs place ≡ Some old → is_none (verdict_of_state old) ≡ true → is_none (verdict_of_state new) ≡ false → count_unfinished (slice_set xs place new) + 1 ≡ count_unfinished xs
unfinished_less [] place old new at was is = cc
unfinished_less (x ∷ xs) zero old new at was is =
    let here : x ≡ old = cc in
    let before : count_unfinished (x ∷ xs) ≡ suc (count_unfinished xs) = ap (λ (b : Bool). length (cond b (x ∷ filter (λ s. is_none (verdict_of_state s)) xs) (filter (λ s. is_none (verdict_of_state s)) xs))) (ap (λ (s : State). is_none (verdict_of_state s)) here ∙ was) in
    let now : count_unfinished (new ∷ xs) ≡ count_unfinished xs = ap (λ (b : Bool). length (cond b (new ∷ filter (λ s. is_none (verdict_of_state s)) xs) (filter (λ s. is_none (verdict_of_state s)) xs))) is in
    omega (arith, before, now)
unfinished_less (x ∷ xs) (suc k) old new at was is = by_test (is_none (verdict_of_state x)) (unfinished_less xs k old new at was is)
  where
    by_test : (b : Bool) → count_unfinished (slice_set xs k new) + 1 ≡ count_unfinished xs → length (cond b (x ∷ filter (λ s. is_none (verdict_of_state s)) (slice_set xs k new)) (filter (λ s. is_none (verdict_of_state s)) (slice_set xs k new))) + 1 ≡ length (cond b (x ∷ filter (λ s. is_none (verdict_of_state s)) xs) (filter (λ s. is_none (verdict_of_state s)) xs))
    by_test true less = omega (arith, less)
    by_test false less = less

-- the count is 0 exactly if each test is final
pub all_finished : (plan : PlanParts) (es : List Entry) → (count_unfinished (states_of plan es) == 0) ≡ are_all_final plan es
all_finished plan es = by_tests plan.tests
  where
    one : (t : PlanTest) → is_none (verdict_of_state (state_of plan.repeat es t)) ≡ not (is_final_in plan.repeat t es)
    one t = ap (λ (v : Option Verdict). is_none v) (verdict_state plan.repeat t es) ∙ by_verdict (verdict_in plan.repeat t es)
      where
        by_verdict : (v : Option Verdict) → is_none v ≡ not (is_some v)
        by_verdict None = refl
        by_verdict (Some v) = refl

    more : (k : ℕ) → (suc k == 0) ≡ false
    more k = grind (arith, nat_tests)

    by_tests : (ts : List PlanTest) → (count_unfinished (map (state_of plan.repeat es) ts) == 0) ≡ list_all (λ (t : PlanTest). is_final_in plan.repeat t es) ts
    by_tests [] = refl
    by_tests (t ∷ ts) =
        let ss = map (state_of plan.repeat es) ts in
        let unfinished : List State = filter (λ s. is_none (verdict_of_state s)) ss in
        ap (λ (b : Bool). length (cond b (state_of plan.repeat es t ∷ unfinished) unfinished) == 0) (one t)
        ∙ by_final (is_final_in plan.repeat t es) (state_of plan.repeat es t) unfinished (by_tests ts)
      where
        by_final : (b : Bool) (s : State) (rest : List State) → (length rest == 0) ≡ list_all (λ (t : PlanTest). is_final_in plan.repeat t es) ts → (length (cond (not b) (s ∷ rest) rest) == 0) ≡ (b && list_all (λ (t : PlanTest). is_final_in plan.repeat t es) ts)
        by_final true s rest is = is
        by_final false s rest is = more (length rest)
