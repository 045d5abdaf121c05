-- The marks and the ready set decide the choice: which test is settled, and which may start.
use Rattle.std.proofs.Common.{◌≡◌, ◌∙◌, sym, ap, subst, Bool, true, false, not, ◌&&◌, ◌||◌, ◌==◌, if◌then◌else◌, ℕ, ◌+◌, ◌<◌, ◌≤◌, List, [], ◌∷◌, length, take, get_or, slice_get, is_some, is_none, ltb, nat_le, refl, arith, inl, inr}
use Rattle.std.specs.Prelude.{Option, Some, None}
use Rattle.std.specs.List.{list_any}
use Rattle.std.proofs.lemmas.Bool.{true≢false, and_from, and_parts, cases_Bool, cases_lt, leb-true, ltb-true, or_right}
use Rattle.std.proofs.lemmas.List.{get_or_default, get_or-take, length-take}
use Rattle.std.proofs.lemmas.Option.{none-some, same_Some, slice_get_within}
use Rattle.ct_alloc.specs.declared.placement.Placement.{Placement}
use Rattle.ct_verdict.specs.declared.verdict.Cause.{Cause}
use Rattle.ct_verdict.specs.declared.verdict.Cause.TheVariants.{Fixture, Stopped}
use Rattle.ct_history.specs.declared.plan.PlanTest.{PlanTest}
use Rattle.ct_history.specs.declared.plan.PlanParts.{PlanParts}
use Rattle.ct_history.specs.declared.history.Entry.{Entry}
use Rattle.ct_history.specs.Plan.{IsSound, has_sound_processors, test_at}
use Rattle.ct_history.specs.History.{Running, has_stop, open_starts, used_processors}
use Rattle.ct_history.specs.Rules.{CanStart, cause_behind, exclude, first_unpassed, follows_finals, has_room, is_pending, is_ready, is_serial, locks_out, may_start_at, may_start_if_placed, settle_cause, settle_cause_at}
use Rattle.ct_history.proofs.MayLemmas.{MayStart, may_start-parts}
use Rattle.ct_history.proofs.ProgressLemmas.{all_found}
use Rattle.ct_queue.specs.Ready.{ReadyValue, count_at, is_member, is_out_at, place_of}
use Rattle.ct_queue.specs.Marks.{is_marked, IsLeastWithin, NoneWithin}
use Rattle.ct_core.specs.Choice.{IsLeastToSettle, NoneSettles, NoneStarts}
use Rattle.ct_core.specs.Waiting.{AreSettleable, IsQueued, cause_then, settles_but}
use Rattle.ct_core.proofs.AllowedLemmas.{number_at}
use Rattle.ct_core.proofs.EnabledLemmas.{queued_enabled}
use Rattle.ct_core.proofs.QueueLemmas.{found_place, place_there, places_ascend, stands_there, there_found}
use Rattle.ct_core.proofs.LowerLemmas.{ready_says, settle_going}

-- the test with the lowest number that may be settled stands at this place, and has this cause
pub record SettlesAt (plan : PlanParts) (es : List Entry) (place : ℕ) : Type 0 where
  pub test : PlanTest
  pub cause : Cause
  pub there : slice_get plan.tests place ≡ Some test
  pub has : settle_cause plan test es ≡ Some cause
  pub least : IsLeastToSettle plan es test.number cause

no_cause : (o : Option Cause) → (is_some o && true) ≡ false → o ≡ None
no_cause None is = refl
no_cause (Some c) is = absurd (true≢false is)

some_cause : (o : Option Cause) → (is_some o && true) ≡ true → (c : Cause) × (o ≡ Some c)
some_cause None is = absurd (true≢false (sym is))
some_cause (Some c) is = (c, refl)

-- the test that was looked up is there, and may be settled
pub record HasCause (plan : PlanParts) (es : List Entry) (looked_up : Option PlanTest) : Type 0 where
  pub test : PlanTest
  pub cause : Cause
  pub found : looked_up ≡ Some test
  pub has : settle_cause plan test es ≡ Some cause

has_cause : (plan : PlanParts) (es : List Entry) (o : Option PlanTest) → settles_but plan es [] o ≡ true → HasCause plan es o
has_cause plan es None is = absurd (true≢false (sym is))
has_cause plan es (Some t) is =
    let some = some_cause (settle_cause plan t es) is in
    record { test = t; cause = some.0; found = refl; has = some.1 }

cause_none : (plan : PlanParts) (es : List Entry) (o : Option PlanTest) → ((u : PlanTest) → o ≡ Some u → settle_cause plan u es ≡ None) → settle_cause_at plan es o ≡ None
cause_none plan es None none = refl
cause_none plan es (Some u) none = none u refl

module _ (plan : PlanParts) (sound : IsSound plan) (es : List Entry) (m : List Bool) (marks : AreSettleable plan es [] m) where
  -- a test at a place without a mark may not be settled
  unsettled : (place : ℕ) (u : PlanTest) → is_marked m place ≡ false → slice_get plan.tests place ≡ Some u → settle_cause plan u es ≡ None
  unsettled place u bare there =
      no_cause (settle_cause plan u es) (sym (marks.marked place ∙ ap (λ (o : Option PlanTest). settles_but plan es [] o) there) ∙ bare)

  -- a test with a lower number than the first marked one may not be settled
  unsettled_lesser : (place n : ℕ) (t u : PlanTest) → NoneWithin m 0 0 place → slice_get plan.tests place ≡ Some t → n < t.number → test_at plan.tests n ≡ Some u → settle_cause plan u es ≡ None
  unsettled_lesser place n t u none there less found =
      let at = found_place plan.tests n u found in
      let number = number_at plan.tests n u found in
      unsettled at.0 u (none at.0 (omega arith) (omega arith) (before at.0 at.1 number)) at.1
    where
      before : (k : ℕ) → slice_get plan.tests k ≡ Some u → u.number ≡ n → k < place
      before k at number = elim (cases_lt k place) [
        | inl lesser ↦ lesser
        | inr behind ↦ elim (cases_lt place k) [
          | inl more ↦ absurd (omega (arith, less, number, places_ascend 1 plan.tests place k t u sound.numbers there at more))
          | inr same ↦
              let here : k ≡ place = omega (arith, behind, same) in
              let is : t ≡ u = same_Some t u (sym there ∙ ap (λ (j : ℕ). slice_get plan.tests j) (sym here) ∙ at) in
              let equal : t.number ≡ u.number = ap (λ (x : PlanTest). x.number) is in
              absurd (omega (arith, less, number, equal))
        ]
      ]

  -- the least marked place is that of the test with the lowest number that may be settled
  pub least_mark_settles : (place : ℕ) → IsLeastWithin m 0 0 (length m) place → SettlesAt plan es place
  least_mark_settles place least =
      let at = has_cause plan es (slice_get plan.tests place) (sym (marks.marked place) ∙ least.marked) in
      record {
        test = at.test;
        cause = at.cause;
        there = at.found;
        has = at.has;
        least = record {
          may = ap (λ (o : Option PlanTest). settle_cause_at plan es o) (there_found plan.tests place at.test sound.numbers at.found) ∙ at.has;
          least = λ n less. cause_none plan es (test_at plan.tests n) (λ u found. unsettled_lesser place n at.test u least.least at.found less found);
        };
      }

  -- if no place is marked, no test may be settled
  pub no_mark_settles : NoneWithin m 0 0 (length m) → NoneSettles plan es
  no_mark_settles none = λ n. cause_none plan es (test_at plan.tests n) (λ u found.
      let at = found_place plan.tests n u found in
      let within = slice_get_within plan.tests at.0 u at.1 in
      let room = marks.room in
      unsettled at.0 u (none at.0 (omega arith) (omega arith) (omega (arith, within, room))) at.1)

-- the cause of a test that may be settled: a Stop if there
-- is one, else what its setups and its fixed cause tell
pub cause_stopped : (plan : PlanParts) (t : PlanTest) (es : List Entry) → has_stop es ≡ true → is_some (settle_cause plan t es) ≡ true → settle_cause plan t es ≡ Some Stopped
cause_stopped plan t es stop some = by_parts (is_pending plan t es) (has_stop es) (if follows_finals plan t es then cause_behind (first_unpassed plan t es) t.fixed else None) stop some
  where
    by_parts : (pending stop : Bool) (rest : Option Cause) → stop ≡ true → is_some (if not pending then None else (if stop then Some Stopped else rest)) ≡ true → (if not pending then None else (if stop then Some Stopped else rest)) ≡ Some Stopped
    by_parts true true rest is has = refl
    by_parts true false rest is has = absurd (true≢false (sym is))
    by_parts false stop rest is has = absurd (true≢false (sym has))

pub cause_going : (plan : PlanParts) (t : PlanTest) (es : List Entry) → has_stop es ≡ false → is_some (settle_cause plan t es) ≡ true → settle_cause plan t es ≡ cause_then plan es t
cause_going plan t es on some =
    let is = settle_going plan t es on in
    is ∙ by_cases (follows_finals plan t es && is_pending plan t es) (cause_then plan es t) (sym (ap is_some is) ∙ some)
  where
    by_cases : (b : Bool) (c : Option Cause) → is_some (if b then c else None) ≡ true → (if b then c else None) ≡ c
    by_cases true c has = refl
    by_cases false c has = absurd (true≢false (sym has))

-- if no cause is found, each setup has passed and there is no fixed cause
not_kept : (setup : Option ℕ) (fixed : Option Cause) → cause_behind setup fixed ≡ None → (is_none setup ≡ true) × (is_none fixed ≡ true)
not_kept None None none = (refl, refl)
not_kept None (Some c) none = absurd (none-some c (sym none))
not_kept (Some s) fixed none = absurd (none-some (Fixture s) (sym none))

-- the test at this place of the queue is pending and ready, and may start if there is room for it
pub record MayBeNext (plan : PlanParts) (es : List Entry) (place : ℕ) : Type 0 where
  pub test : PlanTest
  pub within : place < length plan.queue
  pub found : test_at plan.tests (get_or plan.queue place 0) ≡ Some test
  pub pending : is_pending plan test es ≡ true
  pub ready : is_ready plan test es ≡ true
  pub may : may_start_if_placed plan test es ≡ has_room plan test es

module _ (plan : PlanParts) (sound : IsSound plan) (es : List Entry) (r : ReadyValue) (q : IsQueued plan es [] r) where
  -- a member is a pending test whose predecessors are final
  member_says : (place : ℕ) (t : PlanTest) → place < length plan.queue → test_at plan.tests (get_or plan.queue place 0) ≡ Some t → is_member r place ≡ (follows_finals plan t es && is_pending plan t es)
  member_says place t within found =
      let n = get_or plan.queue place 0 in
      let at : place_of r.order n ≡ place = ap (λ (o : List ℕ). place_of o n) q.order ∙ place_there plan sound place within in
      ap (λ (p : ℕ). is_member r p) (sym at) ∙ ready_says plan es [] r n t q (stands_there plan sound place within) refl found

  pub member_within : (place : ℕ) → is_member r place ≡ true → place < length plan.queue
  member_within place member =
      let two = and_parts (ltb place (length r.order) && count_at r place == 0) (not (is_out_at r place)) member in
      let one = and_parts (ltb place (length r.order)) (count_at r place == 0) two.0 in
      subst (λ (o : List ℕ). place < length o) q.order (ltb-true place (length r.order) one.0)

  pub member_may : (place : ℕ) → has_stop es ≡ false → NoneSettles plan es → is_member r place ≡ true → MayBeNext plan es place
  member_may place on unsettled member =
      let within = member_within place member in
      let n = get_or plan.queue place 0 in
      let at = queued_enabled plan sound n (stands_there plan sound place within) in
      let t = at.test in
      let both = and_parts (follows_finals plan t es) (is_pending plan t es) (sym (member_says place t within at.found) ∙ member) in
      let none : settle_cause plan t es ≡ None = sym (ap (λ (o : Option PlanTest). settle_cause_at plan es o) at.found) ∙ unsettled n in
      let ripe : settle_cause plan t es ≡ cause_then plan es t =
      settle_going plan t es on ∙ ap (λ (b : Bool). if b then cause_then plan es t else None) (and_from (follows_finals plan t es) (is_pending plan t es) both.0 both.1) in
      let free = not_kept (first_unpassed plan t es) t.fixed (sym ripe ∙ none) in
      let ready = and_from (follows_finals plan t es && is_none (first_unpassed plan t es)) (is_none t.fixed) (and_from (follows_finals plan t es) (is_none (first_unpassed plan t es)) both.0 free.0) free.1 in
      record {
        test = t;
        within = within;
        found = at.found;
        pending = both.1;
        ready = ready;
        may =
            ap (λ (b : Bool). not b && is_pending plan t es && is_ready plan t es && has_room plan t es) on
            ∙ ap (λ (b : Bool). b && is_ready plan t es && has_room plan t es) both.1
            ∙ ap (λ (b : Bool). b && has_room plan t es) ready;
      }

  -- a test that is not a member can't start
  pub no_member : (place : ℕ) → place < length plan.queue → is_member r place ≡ false → CanStart plan es (get_or plan.queue place 0) → ⊥
  no_member place within none can =
      let n = get_or plan.queue place 0 in
      let at = queued_enabled plan sound n (stands_there plan sound place within) in
      let t = at.test in
      let may = may_start-parts plan t can.placement es (sym (ap (λ (o : Option PlanTest). may_start_at plan es can.placement o) at.found) ∙ can.may) in
      let ready = and_parts (follows_finals plan t es && is_none (first_unpassed plan t es)) (is_none t.fixed) may.ready in
      let follows = and_parts (follows_finals plan t es) (is_none (first_unpassed plan t es)) ready.0 in
      true≢false (sym (member_says place t within at.found ∙ and_from (follows_finals plan t es) (is_pending plan t es) follows.0 may.pending) ∙ none)

-- if no test at all may start, none of these may
none_starts : (plan : PlanParts) (es : List Entry) (numbers : List ℕ) → ((n : ℕ) → CanStart plan es n → ⊥) → NoneStarts plan es numbers
none_starts plan es numbers none = λ i d within. none (get_or numbers i d)

-- a test that may start was found, and each condition for its start holds
pub found_parts : (plan : PlanParts) (es : List Entry) (p : Option Placement) (o : Option PlanTest) → may_start_at plan es p o ≡ true → (t : PlanTest) × (o ≡ Some t) × MayStart plan t p es
found_parts plan es p None may = absurd (true≢false (sym may))
found_parts plan es p (Some t) may = (t, refl, may_start-parts plan t p es may)

-- behind a Stop no test may start
pub none_stopped : (plan : PlanParts) (es : List Entry) (numbers : List ℕ) → has_stop es ≡ true → NoneStarts plan es numbers
none_stopped plan es numbers stop = none_starts plan es numbers (λ n can.
    let parts = found_parts plan es can.placement (test_at plan.tests n) can.may in
    let may = parts.2 in
    true≢false (sym stop ∙ may.goes_on))

-- how many places there are up to the given one; 0 if none is given
abbrev pub places_to : Option ℕ → ℕ
places_to None = 0
places_to (Some given) = given + 1

module _ (plan : PlanParts) (es : List Entry) where
  -- if no test in front of a place can start, none of the list up to there can
  pub none_before : (k : ℕ) → ((place : ℕ) → place < k → place < length plan.queue → CanStart plan es (get_or plan.queue place 0) → ⊥) → NoneStarts plan es (take k plan.queue)
  none_before k none = λ place d within.
      let len = length-take k plan.queue in
      let before : place < k = omega (arith, within, len) in
      let inside : place < length plan.queue = omega (arith, within, len) in
      let same : get_or (take k plan.queue) place d ≡ get_or plan.queue place 0 = get_or-take k plan.queue place d before ∙ get_or_default plan.queue place d 0 inside in
      subst (λ (n : ℕ). CanStart plan es n → ⊥) (sym same) (none place before inside)

-- if each element that passes `p` passes `q`, and some element passes `p`, some element passes `q`
any_wider : {A : Type 0} (p q : A → Bool) → ((x : A) → p x ≡ true → q x ≡ true) → (xs : List A) → list_any p xs ≡ true → list_any q xs ≡ true
any_wider p q wider [] any = any
any_wider p q wider (x ∷ xs) any = elim (cases_Bool (p x)) [
  | inl here ↦ ap (λ (b : Bool). b || list_any q xs) (wider x here)
  | inr not_here ↦ or_right (q x) (list_any q xs) (any_wider p q wider xs (sym (ap (λ (b : Bool). b || list_any p xs) not_here) ∙ any))
]

-- a serial test excludes each other test
serial_excludes : (one other : Option PlanTest) → is_serial other ≡ true → exclude one other ≡ true
unfolding exclude
serial_excludes one other serial = last (locks_out one other || locks_out other one) (is_serial one) (is_serial other) serial
  where
    last : (a b c : Bool) → c ≡ true → (a || b || c) ≡ true
    last true b c is = refl
    last false true c is = refl
    last false false c is = is

module _ (plan : PlanParts) (sound : IsSound plan) (es : List Entry) (numbers : List ℕ) where
  -- if all processors are used, no test may start
  pub none_when_full : plan.level ≤ used_processors plan.tests es → NoneStarts plan es numbers
  none_when_full full = none_starts plan es numbers (λ n can.
      let parts = found_parts plan es can.placement (test_at plan.tests n) can.may in
      let t = parts.0 in
      let may = parts.2 in
      let fits = all_found (has_sound_processors plan.level) (λ (x : PlanTest). x.number == n) plan.tests t sound.processors parts.1 in
      let least = leb-true 1 t.processors (and_parts (nat_le 1 t.processors) (nat_le t.processors plan.level) fits).0 in
      let most = leb-true (t.processors + used_processors plan.tests es) plan.level may.processors in
      omega (arith, full, least, most))

  -- if a serial test is open, no test may start
  pub none_beside_serial : list_any (λ (u : Running). is_serial (test_at plan.tests u.test)) (open_starts es) ≡ true → NoneStarts plan es numbers
  none_beside_serial alone = none_starts plan es numbers (λ n can.
      let parts = found_parts plan es can.placement (test_at plan.tests n) can.may in
      let t = parts.0 in
      let may = parts.2 in
      let excluded = any_wider (λ (u : Running). is_serial (test_at plan.tests u.test)) (λ (u : Running). exclude (Some t) (test_at plan.tests u.test)) (λ u serial. serial_excludes (Some t) (test_at plan.tests u.test) serial) (open_starts es) alone in
      true≢false (sym excluded ∙ may.apart))
