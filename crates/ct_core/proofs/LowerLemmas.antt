-- The ready set and the marks stay right when the followers of a test are lowered one after another.
use Rattle.std.proofs.Common.{◌≡◌, ◌∙◌, sym, ap, subst, Bool, true, false, not, cond, ◌&&◌, ◌||◌, ◌==◌, if◌then◌else◌, ℕ, zero, suc, ◌+◌, ◌-◌, ◌<◌, ◌≤◌, List, [], ◌∷◌, length, filter, drop, set, All, Contains, slice_get, is_some, is_none, refl, arith, inl, inr}
use Rattle.std.specs.Prelude.{Option, Some, None}
use Rattle.std.specs.List.{list_all}
use Rattle.std.proofs.Math.Bool.{and-true, not-not}
use Rattle.std.proofs.lemmas.Bool.{and_parts, and_right, cases_Bool, cases_eq, lt-ltb, ne_eqb, eq-eqb}
use Rattle.std.proofs.lemmas.List.{get_or-set_other, get_or-set_same, length-set}
use Rattle.std.proofs.lemmas.List.Elements.{All-contains_itself, All-drop, All-head, All-weaker}
use Rattle.ct_base.specs.Numbers.{is_in}
use Rattle.ct_verdict.specs.declared.verdict.Cause.{Cause}
use Rattle.ct_verdict.specs.declared.verdict.Cause.TheVariants.{Stopped}
use Rattle.ct_verdict.specs.declared.verdict.Verdict.{Verdict}
use Rattle.ct_history.specs.declared.plan.PlanTest.{PlanTest}
use Rattle.ct_history.specs.declared.plan.PlanParts.{PlanParts}
use Rattle.ct_history.specs.declared.history.Entry.{Entry}
use Rattle.ct_history.specs.Plan.{IsAscendingFrom, IsPlaceOf, IsSound, test_at}
use Rattle.ct_history.specs.History.{has_stop}
use Rattle.ct_history.specs.Verdicts.{verdict_of_test}
use Rattle.ct_history.specs.Rules.{follows_finals, is_pending, settle_cause}
use Rattle.ct_history.proofs.BoolLemmas.{eq_same}
use Rattle.ct_queue.specs.Ready.{ReadyValue, StandsIn, place_of, predecessors_left, is_out, is_in_ready_set, lowered}
use Rattle.ct_queue.specs.Marks.{is_marked}
use Rattle.ct_queue.proofs.CallerLemmas.{count_lowered, places_apart}
use Rattle.ct_history.proofs.PlanLemmas.{numbers_of}
use Rattle.ct_core.specs.Standing.{open_before}
use Rattle.ct_core.specs.Waiting.{AreSettleable, IsQueued, cause_then, followers_of, is_pending_at, open_before_at, settles_but}
use Rattle.ct_core.proofs.AllowedLemmas.{number_at}
use Rattle.ct_core.proofs.EnabledLemmas.{enabled_stands}
use Rattle.ct_core.proofs.QueueLemmas.{ascend-drop, ascend-filter, none_lesser, one_place}

-- each predecessor is final exactly if the number of predecessors that are not final is 0
none_left : (verdict : ℕ → Option Verdict) (js : List ℕ) → list_all (λ j. is_some (verdict j)) js ≡ (length (filter (λ j. is_none (verdict j)) js) == 0)
none_left verdict [] = refl
none_left verdict (j ∷ js) = by_verdict (verdict j) (none_left verdict js)
  where
    by_verdict : (o : Option Verdict) → list_all (λ i. is_some (verdict i)) js ≡ (length (filter (λ i. is_none (verdict i)) js) == 0) → (is_some o && list_all (λ i. is_some (verdict i)) js) ≡ (length (cond (is_none o) (j ∷ filter (λ i. is_none (verdict i)) js) (filter (λ i. is_none (verdict i)) js)) == 0)
    by_verdict None rest = sym (ne_eqb (length (j ∷ filter (λ i. is_none (verdict i)) js)) 0 (λ no. omega (arith, no)))
    by_verdict (Some v) rest = rest

pub follows_by_count : (plan : PlanParts) (t : PlanTest) (es : List Entry) → follows_finals plan t es ≡ (open_before plan es t == 0)
follows_by_count plan t es = none_left (verdict_of_test plan es) t.before

-- without a Stop, a test may be settled if it is pending and
-- its predecessors are final, with the cause of `cause_then`
pub settle_going : (plan : PlanParts) (t : PlanTest) (es : List Entry) → has_stop es ≡ false → settle_cause plan t es ≡ (if follows_finals plan t es && is_pending plan t es then cause_then plan es t else None)
settle_going plan t es on = by_parts (is_pending plan t es) (has_stop es) (follows_finals plan t es) (cause_then plan es t) on
  where
    by_parts : (pending stop follows : Bool) (c : Option Cause) → stop ≡ false → (if not pending then None else (if stop then Some Stopped else (if follows then c else None))) ≡ (if follows && pending then c else None)
    by_parts pending true follows c is = cc
    by_parts true false true c is = refl
    by_parts true false false c is = refl
    by_parts false false true c is = refl
    by_parts false false false c is = refl

-- for a test that is not in `left`, the ready set tells
-- whether it is pending and its predecessors are final
pub ready_says : (plan : PlanParts) (es : List Entry) (left : List ℕ) (r : ReadyValue) (n : ℕ) (t : PlanTest) → IsQueued plan es left r → StandsIn plan.queue n → is_in left n ≡ false → test_at plan.tests n ≡ Some t → is_in_ready_set r n ≡ (follows_finals plan t es && is_pending plan t es)
ready_says plan es left r n t q stands once found =
    let here : StandsIn r.order n = subst (λ (o : List ℕ). StandsIn o n) (sym q.order) stands in
    let count : predecessors_left r n ≡ open_before plan es t + 0 =
    q.counts n stands
    ∙ ap (λ (o : Option PlanTest). open_before_at plan es o + (if is_in left n then 1 else 0)) found
    ∙ ap (λ (b : Bool). open_before plan es t + (if b then 1 else 0)) once in
    let exact : predecessors_left r n ≡ open_before plan es t = omega (arith, count) in
    let out : is_out r n ≡ not (is_pending plan t es) = q.outs n stands ∙ ap (λ (o : Option PlanTest). not (is_pending_at plan es o)) found in
    ap (λ (b : Bool). b && predecessors_left r n == 0 && not (is_out r n)) (lt-ltb (place_of r.order n) (length r.order) here)
    ∙ ap (λ (c : ℕ). c == 0 && not (is_out r n)) exact
    ∙ ap (λ (b : Bool). open_before plan es t == 0 && not b) out
    ∙ ap (λ (b : Bool). b && not (not (is_pending plan t es))) (sym (follows_by_count plan t es))
    ∙ ap (λ (b : Bool). follows_finals plan t es && b) (not-not (is_pending plan t es))

-- the count of the first test of `left` is lowered, and the rest of `left` remains
module _ (plan : PlanParts) (es : List Entry) (n : ℕ) (left : List ℕ) (r : ReadyValue) (q : IsQueued plan es (n ∷ left) r) (stands : StandsIn plan.queue n) where
  here : StandsIn r.order n
  here = subst (λ (o : List ℕ). StandsIn o n) (sym q.order) stands

  one_more : predecessors_left r n ≡ open_before_at plan es (test_at plan.tests n) + 1
  one_more =
      q.counts n stands
      ∙ ap (λ (b : Bool). open_before_at plan es (test_at plan.tests n) + (if b || is_in left n then 1 else 0)) (eq_same n)

  pub lowerable : 0 < predecessors_left r n
  lowerable = omega (arith, one_more)

  count_here : is_in left n ≡ false → predecessors_left (lowered r n) n ≡ open_before_at plan es (test_at plan.tests n) + (if is_in left n then 1 else 0)
  count_here once =
      let lengths : length r.order ≡ length plan.queue = ap (λ (o : List ℕ). length o) q.order in
      let counted = q.counted in
      let within : place_of r.order n < length r.counts = omega (arith, here, lengths, counted) in
      let less : predecessors_left r n - 1 ≡ open_before_at plan es (test_at plan.tests n) + 0 = omega (arith, one_more) in
      count_lowered r n within ∙ less ∙ ap (λ (b : Bool). open_before_at plan es (test_at plan.tests n) + (if b then 1 else 0)) (sym once)

  count_there : (m : ℕ) → (m ≡ n → ⊥) → StandsIn plan.queue m → predecessors_left (lowered r n) m ≡ open_before_at plan es (test_at plan.tests m) + (if is_in left m then 1 else 0)
  count_there m apart there =
      let other : StandsIn r.order m = subst (λ (o : List ℕ). StandsIn o m) (sym q.order) there in
      get_or-set_other r.counts (place_of r.order n) (place_of r.order m) (predecessors_left r n - 1) 0 (λ same. apart (places_apart r.order m n other here same))
      ∙ q.counts m there
      ∙ ap (λ (b : Bool). open_before_at plan es (test_at plan.tests m) + (if b || is_in left m then 1 else 0)) (ne_eqb n m (λ same. apart (sym same)))

  pub lowers : is_in left n ≡ false → IsQueued plan es left (lowered r n)
  lowers once = record {
    order = q.order;
    counted = length-set r.counts (place_of r.order n) (predecessors_left r n - 1) ∙ q.counted;
    said = q.said;
    counts = λ m there. elim (cases_eq m n) [
      | inl same ↦ subst (λ (k : ℕ). predecessors_left (lowered r n) k ≡ open_before_at plan es (test_at plan.tests k) + (if is_in left k then 1 else 0)) (sym same) (count_here once)
      | inr apart ↦ count_there m apart there
    ];
    outs = q.outs;
    lines = q.lines;
  }

-- the count of the test at this place has been lowered, and the tests of `left` remain
pub record IsLowered (plan : PlanParts) (es : List Entry) (n : ℕ) (left : List ℕ) (t : PlanTest) (place : ℕ) (r : ReadyValue) : Type 0 where
  pub goes_on : has_stop es ≡ false
  pub stands : StandsIn plan.queue n
  pub once : is_in left n ≡ false
  pub found : test_at plan.tests n ≡ Some t
  pub place_of_it : IsPlaceOf plan.tests n place
  pub queued : IsQueued plan es left r

module _ (plan : PlanParts) (sound : IsSound plan) (es : List Entry) (n : ℕ) (left : List ℕ) (t : PlanTest) (place : ℕ) (r : ReadyValue) (low : IsLowered plan es n left t place r) (m : List Bool) (marks : AreSettleable plan es (n ∷ left) m) where
  there : slice_get plan.tests place ≡ Some t
  there = let at = low.place_of_it in at.there ∙ low.found

  number : t.number ≡ n
  number = number_at plan.tests n t low.found

  -- in front of the step the test has no mark
  unmarked : is_marked m place ≡ false
  unmarked =
      marks.marked place
      ∙ ap (λ (o : Option PlanTest). settles_but plan es (n ∷ left) o) there
      ∙ ap (λ (b : Bool). is_some (settle_cause plan t es) && not (b || is_in left t.number)) (eq-eqb n t.number (sym number))
      ∙ and_right (is_some (settle_cause plan t es)) false refl

  -- behind the step the test is to be marked exactly if it may be settled
  settles_here : settles_but plan es left (slice_get plan.tests place) ≡ is_some (settle_cause plan t es)
  settles_here =
      ap (λ (o : Option PlanTest). settles_but plan es left o) there
      ∙ ap (λ (k : ℕ). is_some (settle_cause plan t es) && not (is_in left k)) number
      ∙ ap (λ (b : Bool). is_some (settle_cause plan t es) && not b) low.once
      ∙ and-true (is_some (settle_cause plan t es))

  settles_there : (p : ℕ) → (p ≡ place → ⊥) → settles_but plan es (n ∷ left) (slice_get plan.tests p) ≡ settles_but plan es left (slice_get plan.tests p)
  settles_there p apart = by_test (slice_get plan.tests p) refl
    where
      by_test : (o : Option PlanTest) → slice_get plan.tests p ≡ o → settles_but plan es (n ∷ left) o ≡ settles_but plan es left o
      by_test None is = refl
      by_test (Some u) is =
          ap (λ (b : Bool). is_some (settle_cause plan u es) && not (b || is_in left u.number))
          (ne_eqb n u.number (λ same. apart (one_place plan.tests p place u t sound.numbers is there (sym same ∙ sym number))))

  kept : settle_cause plan t es ≡ None → AreSettleable plan es left m
  kept none = record {
    room = marks.room;
    marked = λ p. elim (cases_eq p place) [
      | inl same ↦ subst (λ (k : ℕ). is_marked m k ≡ settles_but plan es left (slice_get plan.tests k)) (sym same) (unmarked ∙ sym (settles_here ∙ ap is_some none))
      | inr apart ↦ marks.marked p ∙ settles_there p apart
    ];
  }

  with_mark : (c : Cause) → settle_cause plan t es ≡ Some c → AreSettleable plan es left (set m place true)
  with_mark c some =
      let inside = low.place_of_it in
      let before = inside.within in
      let room = marks.room in
      let within : place < length m = omega (arith, before, room) in
      record {
        room = subst (λ (k : ℕ). length plan.tests ≤ k) (sym (length-set m place true)) marks.room;
        marked = λ p. elim (cases_eq p place) [
          | inl same ↦
              subst (λ (k : ℕ). is_marked (set m place true) k ≡ settles_but plan es left (slice_get plan.tests k)) (sym same)
              (get_or-set_same m place true false within ∙ sym (settles_here ∙ ap is_some some))
          | inr apart ↦ get_or-set_other m place p true false apart ∙ marks.marked p ∙ settles_there p apart
        ];
      }

  cause_by_ready : settle_cause plan t es ≡ (if is_in_ready_set r n then cause_then plan es t else None)
  cause_by_ready =
      settle_going plan t es low.goes_on
      ∙ ap (λ (b : Bool). if b then cause_then plan es t else None) (sym (ready_says plan es left r n t low.queued low.stands low.once low.found))

  -- if the test is not ready, it can't be settled, and the marks stay right
  pub marks_waiting : is_in_ready_set r n ≡ false → AreSettleable plan es left m
  marks_waiting is = kept (cause_by_ready ∙ ap (λ (b : Bool). if b then cause_then plan es t else None) is)

  pub cause_ready : is_in_ready_set r n ≡ true → settle_cause plan t es ≡ cause_then plan es t
  cause_ready is = cause_by_ready ∙ ap (λ (b : Bool). if b then cause_then plan es t else None) is

  pub marks_unsettled : is_in_ready_set r n ≡ true → cause_then plan es t ≡ None → AreSettleable plan es left m
  marks_unsettled is none = kept (cause_ready is ∙ none)

  pub marks_settled : (c : Cause) → is_in_ready_set r n ≡ true → cause_then plan es t ≡ Some c → AreSettleable plan es left (set m place true)
  marks_settled c is some = with_mark c (cause_ready is ∙ some)

  -- the marks are right once the place is marked if the test is ready and has a cause
  pub marks_follow : AreSettleable plan es left (if is_in_ready_set r n && is_some (cause_then plan es t) then set m place true else m)
  marks_follow = by_cases (is_in_ready_set r n) refl (cause_then plan es t) refl
    where
      by_cases : (b : Bool) → is_in_ready_set r n ≡ b → (o : Option Cause) → cause_then plan es t ≡ o → AreSettleable plan es left (if b && is_some o then set m place true else m)
      by_cases false is o has = marks_waiting is
      by_cases true is None has = marks_unsettled is has
      by_cases true is (Some c) has = marks_settled c is has

contains_behind : (first n : ℕ) (ns : List ℕ) → Contains ns n → Contains (first ∷ ns) n
contains_behind first n ns is = (suc is.0, omega (arith, is.1), is.2)

contains_both : (first n : ℕ) (ns ms : List ℕ) → (Contains ns n → Contains ms n) → Contains (first ∷ ns) n → Contains (first ∷ ms) n
contains_both first n ns ms more (zero, lt, same) = (zero, omega arith, same)
contains_both first n ns ms more (suc k, lt, same) = contains_behind first n ms (more (k, omega (arith, lt), same))

-- if each test that passes `p` passes `q`, a number among
-- the tests that pass `p` is among those that pass `q`
more_kept : (p q : PlanTest → Bool) → ((t : PlanTest) → p t ≡ true → q t ≡ true) → (ts : List PlanTest) (n : ℕ) → Contains (numbers_of (filter p ts)) n → Contains (numbers_of (filter q ts)) n
more_kept p q wider [] n is = is
more_kept p q wider (t ∷ ts) n is = elim (cases_Bool (p t)) [
  | inl passes ↦
      subst (λ (b : Bool). Contains (numbers_of (cond b (t ∷ filter q ts) (filter q ts))) n) (sym (wider t passes))
      (contains_both t.number n (numbers_of (filter p ts)) (numbers_of (filter q ts)) (λ more. more_kept p q wider ts n more)
      (subst (λ (b : Bool). Contains (numbers_of (cond b (t ∷ filter p ts) (filter p ts))) n) passes is))
  | inr fails ↦
      let later = more_kept p q wider ts n (subst (λ (b : Bool). Contains (numbers_of (cond b (t ∷ filter p ts) (filter p ts))) n) fails is) in
      elim (cases_Bool (q t)) [
        | inl wide ↦ subst (λ (b : Bool). Contains (numbers_of (cond b (t ∷ filter q ts) (filter q ts))) n) (sym wide) (contains_behind t.number n (numbers_of (filter q ts)) later)
        | inr narrow ↦ subst (λ (b : Bool). Contains (numbers_of (cond b (t ∷ filter q ts) (filter q ts))) n) (sym narrow) later
      ]
]

module _ (plan : PlanParts) (sound : IsSound plan) (n : ℕ) where
  pub followers_stand : All (λ m. StandsIn plan.queue m) (followers_of plan.tests n)
  followers_stand =
      All-weaker (λ m. Contains (followers_of plan.tests n) m) (λ m. StandsIn plan.queue m)
      (λ m is.
      enabled_stands plan sound m
      (more_kept (λ (t : PlanTest). not t.disabled && is_in t.before n) (λ (t : PlanTest). not t.disabled) (λ t both. (and_parts (not t.disabled) (is_in t.before n) both).0) plan.tests m is))
      (followers_of plan.tests n) (All-contains_itself (followers_of plan.tests n))

  -- the next follower stands in the queue, and is not among the followers behind it
  pub follower_stands : (at m : ℕ) (rest : List ℕ) → drop at (followers_of plan.tests n) ≡ m ∷ rest → StandsIn plan.queue m
  follower_stands at m rest is =
      All-head (λ k. StandsIn plan.queue k) m rest
      (subst (λ (ks : List ℕ). All (λ k. StandsIn plan.queue k) ks) is (All-drop (λ k. StandsIn plan.queue k) at (followers_of plan.tests n) followers_stand))

  pub follower_once : (at m : ℕ) (rest : List ℕ) → drop at (followers_of plan.tests n) ≡ m ∷ rest → is_in rest m ≡ false
  follower_once at m rest is =
      let ascends : IsAscendingFrom 1 (m ∷ rest) =
      subst (λ (ks : List ℕ). IsAscendingFrom 1 ks) is
      (ascend-drop 1 at (followers_of plan.tests n) (ascend-filter (λ (t : PlanTest). not t.disabled && is_in t.before n) 1 plan.tests sound.numbers)) in
      none_lesser (m + 1) m rest ascends.1 (omega arith)

-- the next follower of a test, while it and the followers behind it remain
module _ (plan : PlanParts) (sound : IsSound plan) (es : List Entry) (n at m : ℕ) (rest : List ℕ) (next : drop at (followers_of plan.tests n) ≡ m ∷ rest) (r : ReadyValue) (q : IsQueued plan es (drop at (followers_of plan.tests n)) r) where
  queued_here : IsQueued plan es (m ∷ rest) r
  queued_here = subst (λ (ks : List ℕ). IsQueued plan es ks r) next q

  pub follower_lowerable : 0 < predecessors_left r m
  follower_lowerable = lowerable plan es m rest r queued_here (follower_stands plan sound n at m rest next)

  pub follower_lowers : IsQueued plan es rest (lowered r m)
  follower_lowers = lowers plan es m rest r queued_here (follower_stands plan sound n at m rest next) (follower_once plan sound n at m rest next)

  pub follower_lowered : (t : PlanTest) (place : ℕ) → has_stop es ≡ false → test_at plan.tests m ≡ Some t → IsPlaceOf plan.tests m place → IsLowered plan es m rest t place (lowered r m)
  follower_lowered t place on found at_place = record {
    goes_on = on;
    stands = follower_stands plan sound n at m rest next;
    once = follower_once plan sound n at m rest next;
    found = found;
    place_of_it = at_place;
    queued = follower_lowers;
  }
