-- The parts beside the history decide the choice: which test is settled, and which starts.
use Rattle.std.proofs.Common.{◌≡◌, ◌≢◌, ◌∙◌, sym, ap, subst, Bool, true, false, ℕ, ◌-◌, ◌<◌, ◌≤◌, ◌^◌, List, [], ◌∷◌, ◌++◌, length, refl, arith, inl, inr, get_or, suc, take, drop}
use Rattle.std.specs.Prelude.{◌⊎◌, Result, Ok, Err, IfErr, Option, Some, None, ◌==◌, ◌&&◌, ◌||◌, not, is_some, nat_le, option_and_then, slice_get, if◌then◌else◌, MatchOption}
use Rattle.std.proofs.Math.Path.{fun_ext}
use Rattle.std.proofs.lemmas.Bool.{and_from, and_parts, cases_Bool, false_from_ne_true, leb-true, ne_eqb, true≢false}
use Rattle.std.proofs.Math.Seq.{split_at}
use Rattle.std.proofs.lemmas.List.{length-map}
use Rattle.std.proofs.lemmas.List.Elements.{All-contains}
use Rattle.std.proofs.lemmas.Option.{none-some, same_Some, slice_get_read}
use Rattle.ct_alloc.specs.declared.placement.Placement.{Placement}
use Rattle.ct_alloc.specs.Free.{FreeValue, NoneFits, used_at}
use Rattle.ct_alloc.specs.Placement.{fits_beside, is_placement}
use Rattle.ct_base.specs.declared.defs.Need.{Need}
use Rattle.ct_base.specs.declared.defs.Resource.{Resource}
use Rattle.ct_verdict.specs.declared.verdict.Cause.{Cause}
use Rattle.ct_verdict.specs.declared.verdict.Cause.TheVariants.{Stopped}
use Rattle.ct_verdict.specs.declared.verdict.Verdict.{Verdict}
use Rattle.ct_history.specs.declared.plan.PlanTest.{PlanTest}
use Rattle.ct_history.specs.declared.plan.PlanParts.{PlanParts}
use Rattle.ct_history.specs.declared.history.Entry.{Entry}
use Rattle.ct_history.specs.Plan.{IsPlaceOf, IsSound, test_at}
use Rattle.ct_history.specs.History.{attempts_of, has_stop, open_starts, used_slots}
use Rattle.ct_history.specs.Rules.{CanStart, has_room, is_idle, is_passed_verdict, is_pending, is_placed, is_ready, may_start, may_start_at, may_start_if_placed, settle_cause}
use Rattle.ct_history.specs.Verdicts.{are_all_final, verdict_of_test}
use Rattle.ct_history.proofs.AttemptLemmas.{attempts_left}
use Rattle.ct_history.proofs.ProgressLemmas.{GoesOn, goes_on, idle_empty}
use Rattle.ct_history.proofs.ProgressLemmas.GoesOn.{settles_on, starts_on}
use Rattle.ct_core.specs.declared.choice.Startable.{Startable}
use Rattle.ct_core.specs.declared.in_use.InUse.{InUse}
use Rattle.ct_core.specs.declared.parts.Parts.{Parts}
use Rattle.ct_core.specs.declared.state.State.{State}
use Rattle.ct_core.specs.declared.state.State.TheVariants.{Pending}
use Rattle.ct_core.specs.Choice.{HasProgress, IsLeastToSettle, IsStartOf, IsStartable, IsStuck, NoneSettles, NoneStarts, SomeIsToPlace, SomeSettles, SomeStarts, TakesMemory, attempt_after, may_start_if_placed_at}
use Rattle.ct_core.specs.InUse.{IsInUse, has_room_beside}
use Rattle.ct_core.specs.Parts.{AreCurrent, IsKept}
use Rattle.ct_alloc.specs.Lent.{lent}
use Rattle.ct_core.specs.Slots.{IsFreeBeside, used_of}
use Rattle.ct_core.specs.Standing.{count_unfinished, state_of, states_of, verdict_of_state}
use Rattle.ct_core.specs.Waiting.{IsDue, cause_then}
use Rattle.ct_core.proofs.CallerLemmas.{done_settles_none, done_starts_none}
use Rattle.ct_core.proofs.InUseLemmas.{room_beside}
use Rattle.ct_core.proofs.PickLemmas.{MayBeNext, SettlesAt, cause_going, cause_stopped, none_beside_serial, none_when_full}
use Rattle.ct_core.proofs.StandingLemmas.{all_finished, pending_at, verdict_state_at}

-- if no placement fits, none is right for needs that are not empty
pub none_placed : (free : FreeValue) (needs : List Need) → NoneFits free needs → (length needs == 0) ≡ false → (p : Option Placement) → is_placed (Some free.resources) needs (used_at free) p ≡ true → ⊥
none_placed free [] none some p placed = true≢false some
none_placed free (need ∷ needs) none some None placed = true≢false (sym placed)
none_placed free (need ∷ needs) none some (Some p) placed =
    let both = and_parts (is_placement free.resources (need ∷ needs) p.picks) (fits_beside free.resources (used_at free) p.picks) placed in
    none (record { picks = p.picks; placed = both.0; fits = both.1 })

-- a placement is right beside what is free exactly if it is right beside the open starts
same_placed : (plan : PlanParts) (es : List Entry) (free : Option FreeValue) (needs : List Need) (p : Option Placement) → IsFreeBeside plan es free → is_placed (lent free) needs (used_of free) p ≡ is_placed plan.resources needs (used_slots es) p
same_placed plan es None needs p beside = ap (λ (o : Option (List Resource)). is_placed o needs (used_slots es) p) beside.resources
same_placed plan es (Some free) needs p beside =
    let used : used_at free ≡ used_slots es = fun_ext (λ place. beside.used place) in
    ap (λ (u : ℕ → ℕ). is_placed (Some free.resources) needs u p) used
    ∙ ap (λ (o : Option (List Resource)). is_placed o needs (used_slots es) p) beside.resources

module _ (plan : PlanParts) (es : List Entry) where
  may_of : (t : PlanTest) (p : Option Placement) → may_start_if_placed plan t es ≡ true → is_placed plan.resources t.needs (used_slots es) p ≡ true → may_start plan t p es ≡ true
  may_of t p may placed = and_from (may_start_if_placed plan t es) (is_placed plan.resources t.needs (used_slots es) p) may placed

  -- a test with a right placement may start with it
  pub starts_of : (free : Option FreeValue) (t : PlanTest) (n a : ℕ) (p : Option Placement) → IsFreeBeside plan es free → test_at plan.tests n ≡ Some t → may_start_if_placed plan t es ≡ true → is_placed (lent free) t.needs (used_of free) p ≡ true → a ≡ attempt_after es (Some t) → IsStartOf plan es n (record { test = n; attempt = a; placement = p })
  starts_of free t n a p beside found may placed next = record {
    test = refl;
    may = ap (λ (o : Option PlanTest). may_start_at plan es p o) found ∙ may_of t p may (sym (same_placed plan es free t.needs p beside) ∙ placed);
    next = next ∙ ap (λ (o : Option PlanTest). attempt_after es o) (sym found);
  }

  found_may : (t : PlanTest) (n : ℕ) → test_at plan.tests n ≡ Some t → (can : CanStart plan es n) → may_start plan t can.placement es ≡ true
  found_may t n found can = sym (ap (λ (o : Option PlanTest). may_start_at plan es can.placement o) found) ∙ can.may

  -- a test that fails a condition other than its placement can't start
  pub not_due : (t : PlanTest) (n : ℕ) → test_at plan.tests n ≡ Some t → may_start_if_placed plan t es ≡ false → CanStart plan es n → ⊥
  not_due t n found may_not can =
      let both = and_parts (may_start_if_placed plan t es) (is_placed plan.resources t.needs (used_slots es) can.placement) (found_may t n found can) in
      true≢false (sym both.0 ∙ may_not)

  -- a test without a right placement can't start
  pub nowhere : (free : Option FreeValue) (t : PlanTest) (n : ℕ) → IsFreeBeside plan es free → test_at plan.tests n ≡ Some t → ((p : Option Placement) → is_placed (lent free) t.needs (used_of free) p ≡ true → ⊥) → CanStart plan es n → ⊥
  nowhere free t n beside found none can =
      let both = and_parts (may_start_if_placed plan t es) (is_placed plan.resources t.needs (used_slots es) can.placement) (found_may t n found can) in
      none can.placement (same_placed plan es free t.needs can.placement beside ∙ both.1)

  -- a test of the queue that may start is the first if no test in front of it may start
  pub first_starts : (i n : ℕ) (start : Startable) → i < length plan.queue → n ≡ get_or plan.queue i 0 → NoneStarts plan es (take i plan.queue) → IsStartOf plan es n start → IsStartable plan es start
  first_starts i n start lt is none of = record {
    first = record {
      earlier = take i plan.queue;
      later = drop (suc i) plan.queue;
      queued =
          split_at plan.queue i 0 lt
          ∙ ap (λ (m : ℕ). take i plan.queue ++ m ∷ drop (suc i) plan.queue) (sym is ∙ sym of.test);
      may = ap (λ (m : ℕ). may_start_at plan es start.placement (test_at plan.tests m)) of.test ∙ of.may;
      first = none;
    };
    next = of.next ∙ ap (λ (m : ℕ). attempt_after es (test_at plan.tests m)) (sym of.test);
  }

  pub first_found : (i n : ℕ) (found : Option Startable) → i < length plan.queue → n ≡ get_or plan.queue i 0 → NoneStarts plan es (take i plan.queue) → is_some found ≡ true → MatchOption found (CanStart plan es n → ⊥) (λ s. IsStartOf plan es n s) → MatchOption found (NoneStarts plan es plan.queue) (λ s. IsStartable plan es s)
  first_found i n None lt is none some of = absurd (true≢false (sym some))
  first_found i n (Some start) lt is none some of = first_starts i n start lt is none of

  -- if no start was found for the test, it can't start
  pub first_unable : (n m : ℕ) (found : Option Startable) → n ≡ m → is_some found ≡ false → MatchOption found (CanStart plan es n → ⊥) (λ s. IsStartOf plan es n s) → CanStart plan es m → ⊥
  first_unable n m (Some start) same unfound of = absurd (true≢false unfound)
  first_unable n m None same unfound of = subst (λ (k : ℕ). CanStart plan es k → ⊥) same of

-- if nothing can be done, some attempt is open
pub stuck_busy : (plan : PlanParts) (es : List Entry) → IsSound plan → IsStuck plan es → is_idle es ≡ false
stuck_busy plan es sound stuck = false_from_ne_true (is_idle es) (λ idle. by_going (goes_on plan sound es (idle_empty es idle) stuck.unfinished))
  where
    by_going : GoesOn plan es → ⊥
    by_going (settles_on number cause may) = let never = sym (stuck.unsettled number) ∙ may in (cc)
    by_going (starts_on number queued can) = All-contains (λ n. CanStart plan es n → ⊥) plan.queue number stuck.unstarted queued can

-- while nothing is open and some test is not final, some test may be settled or may start
pub has_progress : (plan : PlanParts) (es : List Entry) → IsSound plan → HasProgress plan es
has_progress plan es sound = λ idle unfinished. by_going (goes_on plan sound es (idle_empty es idle) unfinished)
  where
    by_going : GoesOn plan es → SomeSettles plan es ⊎ SomeStarts plan es
    by_going (settles_on number cause may) = inl (record { number = number; cause = cause; may = may })
    by_going (starts_on number queued can) = inr (record { number = number; can = can })

-- the attempts of a test that may start are few enough that one more can be counted
pub attempt_fits : (plan : PlanParts) (t : PlanTest) (es : List Entry) → may_start_if_placed plan t es ≡ true → plan.repeat.times < 2 ^ 32 → length (attempts_of t.number t.rules es) < 2 ^ 32 - 1
attempt_fits plan t es may small =
    let three = and_parts (not (has_stop es) && is_pending plan t es && is_ready plan t es) (has_room plan t es) may in
    let two = and_parts (not (has_stop es) && is_pending plan t es) (is_ready plan t es) three.0 in
    elim (attempts_left plan t es (and_parts (not (has_stop es)) (is_pending plan t es) two.0).1) [
      | inl none ↦ omega (arith, none)
      | inr fewer ↦ omega (arith, fewer, small)
    ]

-- the count of tests that are not final is 0 exactly if all tests are final
finished_kept : (plan : PlanParts) (es : List Entry) (room : ℕ) (parts : Parts) → IsKept plan es room parts → (parts.unfinished == 0) ≡ are_all_final plan es
finished_kept plan es room parts kept =
    ap (λ (n : ℕ). n == 0) (kept.unfinished ∙ ap (λ (ss : List State). count_unfinished ss) kept.current.states) ∙ all_finished plan es

pub all_kept : (plan : PlanParts) (es : List Entry) (room : ℕ) (parts : Parts) → IsKept plan es room parts → parts.unfinished ≡ 0 → are_all_final plan es ≡ true
all_kept plan es room parts kept none = sym (finished_kept plan es room parts kept) ∙ ap (λ (n : ℕ). n == 0) none

pub some_kept : (plan : PlanParts) (es : List Entry) (room : ℕ) (parts : Parts) → IsKept plan es room parts → parts.unfinished ≢ 0 → are_all_final plan es ≡ false
some_kept plan es room parts kept some = sym (finished_kept plan es room parts kept) ∙ ne_eqb parts.unfinished 0 some

-- the cause of a test that may be settled
cause_given : (plan : PlanParts) (es : List Entry) (t : PlanTest) → is_some (settle_cause plan t es) ≡ true → settle_cause plan t es ≡ (if has_stop es then Some Stopped else cause_then plan es t)
cause_given plan es t some = elim (cases_Bool (has_stop es)) [
  | inl stop ↦ cause_stopped plan t es stop some ∙ sym (ap (λ (b : Bool). if b then Some Stopped else cause_then plan es t) stop)
  | inr on ↦ cause_going plan t es on some ∙ sym (ap (λ (b : Bool). if b then Some Stopped else cause_then plan es t) on)
]

-- the test at the least mark is settled with the cause that is found
module _ (plan : PlanParts) (es : List Entry) (place : ℕ) (t : PlanTest) (settles : SettlesAt plan es place) (there : slice_get plan.tests place ≡ Some t) where
  marked_cause : (given : Option Cause) → given ≡ (if has_stop es then Some Stopped else cause_then plan es t) → given ≡ Some settles.cause
  marked_cause given is =
      let same : settles.test ≡ t = same_Some settles.test t (sym settles.there ∙ there) in
      let has : settle_cause plan t es ≡ Some settles.cause = ap (λ (u : PlanTest). settle_cause plan u es) (sym same) ∙ settles.has in
      is ∙ sym (cause_given plan es t (ap is_some has)) ∙ has

  pub marked_settles : (given : Option Cause) (cause : Cause) → given ≡ (if has_stop es then Some Stopped else cause_then plan es t) → given ≡ Some cause → IsLeastToSettle plan es t.number cause
  marked_settles given cause is some =
      let same : settles.test ≡ t = same_Some settles.test t (sym settles.there ∙ there) in
      let caused : settles.cause ≡ cause = same_Some settles.cause cause (sym (marked_cause given is) ∙ some) in
      subst (λ (u : PlanTest). IsLeastToSettle plan es u.number cause) same (subst (λ (x : Cause). IsLeastToSettle plan es settles.test.number x) caused settles.least)

  pub marked_some : (given : Option Cause) → given ≡ (if has_stop es then Some Stopped else cause_then plan es t) → given ≡ None → ⊥
  marked_some given is none = none-some settles.cause (sym none ∙ marked_cause given is)

-- the state that is read at a test's place is its state
state_there : (plan : PlanParts) (es : List Entry) (parts : Parts) (n place : ℕ) (s : State) → AreCurrent plan es parts → IsPlaceOf plan.tests n place → s ≡ get_or parts.states.items place s → slice_get (states_of plan es) place ≡ Some s
state_there plan es parts n place s told here is =
    let mapped : length (states_of plan es) ≡ length plan.tests = length-map plan.tests (state_of plan.repeat es) in
    slice_get_read (states_of plan es) (length plan.tests) place s (sym mapped) here.within (is ∙ ap (λ (ss : List State). get_or ss place s) told.states)

-- a test has passed exactly if the state that is read at its place has passed
pub passed_there : (plan : PlanParts) (es : List Entry) (parts : Parts) (n place : ℕ) (s : State) → AreCurrent plan es parts → IsPlaceOf plan.tests n place → s ≡ get_or parts.states.items place s → is_passed_verdict (verdict_of_state s) ≡ is_passed_verdict (verdict_of_test plan es n)
passed_there plan es parts n place s told here is =
    let there = state_there plan es parts n place s told here is in
    ap (λ (v : Option Verdict). is_passed_verdict v)
    (sym (ap (λ (o : Option State). option_and_then verdict_of_state o) there) ∙ sym (verdict_state_at plan es n place here))

-- a due test may start, but for its placement, exactly if there is room
due_may : (plan : PlanParts) (es : List Entry) (n : ℕ) (t : PlanTest) → IsDue plan es n → test_at plan.tests n ≡ Some t → may_start_if_placed plan t es ≡ has_room plan t es
due_may plan es n t due found =
    let u = due.test in
    let same : u ≡ t = same_Some u t (sym due.planned ∙ found) in
    subst (λ (v : PlanTest). may_start_if_placed plan v es ≡ has_room plan v es) same
    (ap (λ (b : Bool). not b && is_pending plan u es && is_ready plan u es && has_room plan u es) due.goes_on
    ∙ ap (λ (b : Bool). b && is_ready plan u es && has_room plan u es) due.pending
    ∙ ap (λ (b : Bool). b && has_room plan u es) due.ready)

-- a due test, as it is found at its place, and whether it may start
pub record IsDueAt (plan : PlanParts) (es : List Entry) (parts : Parts) (number : ℕ) (t : PlanTest) : Type 0 where
  pub found : test_at plan.tests number ≡ Some t
  pub room : may_start_if_placed plan t es ≡ has_room_beside plan.level parts.in_use t

pub due_at : (plan : PlanParts) (es : List Entry) (parts : Parts) (n place : ℕ) (t : PlanTest) (tests : List PlanTest) → AreCurrent plan es parts → IsDue plan es n → tests ≡ plan.tests → IsPlaceOf tests n place → t ≡ get_or tests place t → IsDueAt plan es parts n t
due_at plan es parts n place t tests told due same at is =
    let here : IsPlaceOf plan.tests n place = subst (λ (ts : List PlanTest). IsPlaceOf ts n place) same at in
    let there : slice_get plan.tests place ≡ Some t = slice_get_read plan.tests (length plan.tests) place t refl here.within (is ∙ ap (λ (ts : List PlanTest). get_or ts place t) same) in
    let found : test_at plan.tests n ≡ Some t = sym here.there ∙ there in
    record {
      found = found;
      room = due_may plan es n t due found ∙ sym (room_beside plan es parts.in_use t told.in_use);
    }

-- the state at the place of a due test is pending, with the number of its ended attempts
pub due_stands : (plan : PlanParts) (es : List Entry) (parts : Parts) (n place : ℕ) (s : State) → AreCurrent plan es parts → (due : IsDue plan es n) → IsPlaceOf plan.tests n place → s ≡ get_or parts.states.items place s → s ≡ Pending (length (attempts_of due.test.number due.test.rules es))
due_stands plan es parts n place s told due here read =
    same_Some s (Pending (length (attempts_of due.test.number due.test.rules es)))
    (sym (state_there plan es parts n place s told here read) ∙ pending_at plan es n place due.test here due.planned due.pending)

pub attempts_stand : (s : State) (k most : ℕ) → s ≡ Pending k → s ≡ Pending most → k ≡ most
attempts_stand s k most is stands = let same : Pending k ≡ Pending most = sym is ∙ stands in (cc)

-- the test at a place of the queue is due
pub next_due : (plan : PlanParts) (es : List Entry) (place : ℕ) → MayBeNext plan es place → has_stop es ≡ false → IsDue plan es (get_or plan.queue place 0)
next_due plan es place next on = record {
  test = next.test;
  planned = next.found;
  goes_on = on;
  pending = next.pending;
  ready = next.ready;
}

-- if all processors are in use, or a serial test is open, no test of the queue may start
pub none_full : (plan : PlanParts) (es : List Entry) (u : InUse) → IsSound plan → IsInUse plan (open_starts es) u → (nat_le plan.level u.processors || u.serial) ≡ true → NoneStarts plan es plan.queue
none_full plan es u sound is full = elim (cases_Bool (nat_le plan.level u.processors)) [
  | inl used ↦
      none_when_full plan sound es plan.queue (subst (λ (n : ℕ). plan.level ≤ n) is.processors (leb-true plan.level u.processors used))
  | inr left ↦
      none_beside_serial plan sound es plan.queue
      (sym is.serial ∙ sym (ap (λ (b : Bool). b || u.serial) left) ∙ full)
]

-- what comes next takes memory if a test may be settled
pub settle_takes : (plan : PlanParts) (es : List Entry) (n : ℕ) (cause : Cause) → IsLeastToSettle plan es n cause → TakesMemory plan es
settle_takes plan es n cause least = record {
  unfinished = false_from_ne_true (are_all_final plan es) (λ done. done_settles_none plan es n cause done least.may);
  goes_on = inl (record { number = n; cause = cause; may = least.may });
}

-- what comes next takes memory if none may be settled and a test may start
pub start_takes : (plan : PlanParts) (es : List Entry) (start : Startable) → NoneSettles plan es → IsStartable plan es start → TakesMemory plan es
start_takes plan es start unsettled able = record {
  unfinished = false_from_ne_true (are_all_final plan es) (λ done. done_starts_none plan es start.test done (record { placement = start.placement; may = able.first.may }));
  goes_on = inr (
    unsettled,
    record {
      earlier = able.first.earlier;
      number = start.test;
      later = able.first.later;
      queued = able.first.queued;
      may = if_placed (test_at plan.tests start.test) able.first.may;
      first = able.first.first;
    },
  );
}
  where
    if_placed : (o : Option PlanTest) → may_start_at plan es start.placement o ≡ true → may_start_if_placed_at plan es o ≡ true
    if_placed None may = may
    if_placed (Some t) may = (and_parts (may_start_if_placed plan t es) (is_placed plan.resources t.needs (used_slots es) start.placement) may).0

-- a test is to be placed if it may start, but for its placement, and no test in front of it may start
pub placing : (plan : PlanParts) (es : List Entry) (i n : ℕ) → i < length plan.queue → n ≡ get_or plan.queue i 0 → NoneStarts plan es (take i plan.queue) → may_start_if_placed_at plan es (test_at plan.tests n) ≡ true → SomeIsToPlace plan es
placing plan es i n lt is none may = record {
  earlier = take i plan.queue;
  number = n;
  later = drop (suc i) plan.queue;
  queued = split_at plan.queue i 0 lt ∙ ap (λ (m : ℕ). take i plan.queue ++ m ∷ drop (suc i) plan.queue) (sym is);
  may = may;
  first = none;
}

-- what holds anyway holds of each error
pub failed : {A E P : Type 0} (r : Result A E) → P → IfErr r (λ _. P)
failed (Ok x) holds = tt
failed (Err e) holds = holds
