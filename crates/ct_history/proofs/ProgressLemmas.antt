-- While nothing is open and some test is not final, some test may be settled or may start.
use Rattle.std.proofs.Common.{◌≡◌, ◌∙◌, sym, ap, subst, Bool, true, false, ℕ, zero, suc, ◌+◌, ◌<◌, List, [], ◌∷◌, length, get_or, refl, arith, inl, inr}
use Rattle.std.specs.Prelude.{Option, Some, None, IfSome, All, Contains, find, map, not, ◌&&◌, ◌==◌, is_none, is_some, cond, nat_le, nat_lt, sum_by, if◌then◌else◌}
use Rattle.std.specs.List.{list_any, list_all}
use Rattle.std.proofs.lemmas.Bool.{and_parts, and_from, cases_Bool, le-leb, leb-true, ltb-true}
use Rattle.std.proofs.lemmas.List.Elements.{All-contains}
use Rattle.std.proofs.lemmas.List.Sorted.{Contains-permutation, IsPermutation-sym}
use Rattle.ct_base.specs.declared.defs.Need.{Need}
use Rattle.ct_base.specs.declared.defs.Resource.{Resource}
use Rattle.ct_alloc.specs.declared.placement.Placement.{Placement}
use Rattle.ct_alloc.specs.Placement.{SomeFits, fits_beside, is_placement}
use Rattle.ct_verdict.specs.declared.verdict.Cause.{Cause}
use Rattle.ct_verdict.specs.declared.verdict.Cause.TheVariants.{Fixture, Stopped}
use Rattle.ct_verdict.specs.declared.verdict.Verdict.TheVariants.{Disabled}
use Rattle.ct_history.specs.declared.plan.PlanTest.{PlanTest}
use Rattle.ct_history.specs.declared.plan.PlanParts.{PlanParts}
use Rattle.ct_history.specs.declared.history.Entry.{Entry}
use Rattle.ct_history.specs.Plan.{IsPlaceable, IsSound, enabled, has_sound_links, has_sound_processors, is_before_rank, test_at}
use Rattle.ct_history.specs.History.{Running, has_stop, is_open_in, open_starts, placed_slots, processors_of, used_processors, used_slots}
use Rattle.ct_history.specs.Verdicts.{are_all_final, is_final_in, settled_cause, settled_or, attempted_verdict, verdict_at, verdict_of_test}
use Rattle.ct_history.specs.Rules.{CanStart, cause_behind, exclude, first_unpassed, follows_finals, has_processors, has_room, is_excluded, is_idle, is_pending, is_placed, is_ready, may_start_at, settle_cause, settle_cause_at, settle_cause_of_test}
use Rattle.ct_history.proofs.PlanLemmas.{found_at}

-- where nothing is open, the list of open starts is empty
pub idle_empty : (es : List Entry) → is_idle es ≡ true → open_starts es ≡ []
idle_empty es idle = by_list (open_starts es) idle
  where
    by_list : (rs : List Running) → not (list_any (λ (r : Running). true) rs) ≡ true → rs ≡ []
    by_list [] is = refl
    by_list (r ∷ rs) is = cc

-- while no slot is used, a test without a fixed cause has a right placement
placed_somehow : (resources : Option (List Resource)) (t : PlanTest) (used : ℕ → ℕ) → used ≡ (λ place. 0) → IfSome resources (λ rs. IsPlaceable rs t) → t.fixed ≡ None → (p : Option Placement) × (is_placed resources t.needs used p ≡ true)
placed_somehow None t used none placeable free = (None, refl)
placed_somehow (Some rs) t used none placeable free =
    let fits = placeable free in
    by_needs t.needs fits
  where
    by_needs : (needs : List Need) → SomeFits rs needs (λ place. 0) → (p : Option Placement) × (is_placed (Some rs) needs used p ≡ true)
    by_needs [] fits = (None, refl)
    by_needs (need ∷ needs) fits =
        let p : Placement = record { picks = fits.picks } in (
          Some p,
          and_from (is_placement rs (need ∷ needs) fits.picks) (fits_beside rs used fits.picks) fits.placed
              (ap (λ (u : ℕ → ℕ). fits_beside rs u fits.picks) none ∙ fits.fits),
        )

-- where not all elements pass, the first that does not is found
not_all : {A : Type 0} (p : A → Bool) (xs : List A) → list_all p xs ≡ false → (x : A) × (find (λ y. not (p y)) xs ≡ Some x) × (p x ≡ false)
not_all p [] is = cc
not_all p (x ∷ xs) is = elim (cases_Bool (p x)) [
  | inl passes ↦
      let later = not_all p xs (sym (ap (λ (b : Bool). b && list_all p xs) passes) ∙ is) in
      (later.0, ap (λ (b : Bool). cond (not b) (Some x) (find (λ y. not (p y)) xs)) passes ∙ later.1, later.2)
  | inr fails ↦ (x, ap (λ (b : Bool). cond (not b) (Some x) (find (λ y. not (p y)) xs)) fails, fails)
]

-- where all elements pass, one that is found passes
pub all_found : {A : Type 0} (p q : A → Bool) (xs : List A) (x : A) → list_all p xs ≡ true → find q xs ≡ Some x → p x ≡ true
all_found p q [] x all is = cc
all_found p q (y ∷ ys) x all is = elim (cases_Bool (q y)) [
  | inl here ↦
      let found : Some y ≡ Some x = sym (ap (λ (b : Bool). cond b (Some y) (find q ys)) here) ∙ is in
      let same : y ≡ x = cc in
      ap p (sym same) ∙ (and_parts (p y) (list_all p ys) all).0
  | inr not_here ↦ all_found p q ys x (and_parts (p y) (list_all p ys) all).1 (sym (ap (λ (b : Bool). cond b (Some y) (find q ys)) not_here) ∙ is)
]

pub found_contains : {A : Type 0} (q : A → Bool) (xs : List A) (x : A) → find q xs ≡ Some x → (k : ℕ) × (k < length xs) × (get_or xs k x ≡ x)
found_contains q [] x is = cc
found_contains q (y ∷ ys) x is = elim (cases_Bool (q y)) [
  | inl here ↦
      let found : Some y ≡ Some x = sym (ap (λ (b : Bool). cond b (Some y) (find q ys)) here) ∙ is in
      let same : y ≡ x = cc in
      (0, omega arith, same)
  | inr not_here ↦
      let later = found_contains q ys x (sym (ap (λ (b : Bool). cond b (Some y) (find q ys)) not_here) ∙ is) in
      (suc later.0, omega (arith, later.1), later.2)
]

-- a test that was found and is not disabled has its number among those of the enabled tests
enabled_number : (q : PlanTest → Bool) (ts : List PlanTest) (t : PlanTest) → t.disabled ≡ false → find q ts ≡ Some t → Contains (map (λ (x : PlanTest). x.number) (enabled ts)) t.number
enabled_number q [] t on is = cc
enabled_number q (u ∷ us) t on is = elim (cases_Bool (q u)) [
  | inl here ↦
      let found : Some u ≡ Some t = sym (ap (λ (b : Bool). cond b (Some u) (find q us)) here) ∙ is in
      let same : u ≡ t = cc in
      let works : u.disabled ≡ false = ap (λ (x : PlanTest). x.disabled) same ∙ on in
      subst (λ (ns : List ℕ). Contains ns t.number) (sym (ap (λ (b : Bool). map (λ (x : PlanTest). x.number) (cond (not b) (u ∷ enabled us) (enabled us))) works))
      (0, omega arith, ap (λ (x : PlanTest). x.number) same)
  | inr not_here ↦
      let later = enabled_number q us t on (sym (ap (λ (b : Bool). cond b (Some u) (find q us)) not_here) ∙ is) in
      elim (cases_Bool u.disabled) [
        | inl off ↦ subst (λ (ns : List ℕ). Contains ns t.number) (sym (ap (λ (b : Bool). map (λ (x : PlanTest). x.number) (cond (not b) (u ∷ enabled us) (enabled us))) off)) later
        | inr works ↦
            subst (λ (ns : List ℕ). Contains ns t.number) (sym (ap (λ (b : Bool). map (λ (x : PlanTest). x.number) (cond (not b) (u ∷ enabled us) (enabled us))) works))
            (suc later.0, omega (arith, later.1), later.2)
      ]
]

-- a test that is not final is not disabled
not_disabled : (plan : PlanParts) (t : PlanTest) (es : List Entry) → is_final_in plan.repeat t es ≡ false → t.disabled ≡ false
not_disabled plan t es unfinished = by_disabled t.disabled unfinished
  where
    by_disabled : (d : Bool) → is_some (if d then Some Disabled else settled_or (settled_cause t.number es) (attempted_verdict plan.repeat t es)) ≡ false → d ≡ false
    by_disabled true is = cc
    by_disabled false is = refl

-- some test can go on: it may be settled, or it stands in the queue and may start
pub data GoesOn (plan : PlanParts) (es : List Entry) : Type 0 where
  settles_on : (number : ℕ) (cause : Cause) → settle_cause_of_test plan es number ≡ Some cause → GoesOn plan es
  starts_on : (number : ℕ) → Contains plan.queue number → CanStart plan es number → GoesOn plan es

-- a test of the plan that is not final, by its number
pub record IsLeft (plan : PlanParts) (es : List Entry) (t : PlanTest) : Type 0 where
  pub found : test_at plan.tests t.number ≡ Some t
  pub unfinished : is_final_in plan.repeat t es ≡ false

module _ (plan : PlanParts) (sound : IsSound plan) (es : List Entry) (idle : open_starts es ≡ []) where
  pending : (t : PlanTest) → IsLeft plan es t → is_pending plan t es ≡ true
  pending t left =
      and_from (not (is_final_in plan.repeat t es)) (not (is_open_in t.number es)) (ap not left.unfinished)
      (ap (λ (rs : List Running). not (list_any (λ (r : Running). r.test == t.number) rs)) idle)

  settled_here : (t : PlanTest) (cause : Cause) → IsLeft plan es t → settle_cause plan t es ≡ Some cause → GoesOn plan es
  settled_here t cause left is = settles_on t.number cause (ap (λ (o : Option PlanTest). settle_cause_at plan es o) left.found ∙ is)

  stopped : (t : PlanTest) → IsLeft plan es t → has_stop es ≡ true → settle_cause plan t es ≡ Some Stopped
  stopped t left stop =
      ap (λ (b : Bool). if not b then None else (if has_stop es then Some Stopped else (if follows_finals plan t es then cause_behind (first_unpassed plan t es) t.fixed else None))) (pending t left)
      ∙ ap (λ (b : Bool). if b then Some Stopped else (if follows_finals plan t es then cause_behind (first_unpassed plan t es) t.fixed else None)) stop

  behind : (t : PlanTest) → IsLeft plan es t → has_stop es ≡ false → follows_finals plan t es ≡ true → settle_cause plan t es ≡ cause_behind (first_unpassed plan t es) t.fixed
  behind t left on follows =
      ap (λ (b : Bool). if not b then None else (if has_stop es then Some Stopped else (if follows_finals plan t es then cause_behind (first_unpassed plan t es) t.fixed else None))) (pending t left)
      ∙ ap (λ (b : Bool). if b then Some Stopped else (if follows_finals plan t es then cause_behind (first_unpassed plan t es) t.fixed else None)) on
      ∙ ap (λ (b : Bool). if b then cause_behind (first_unpassed plan t es) t.fixed else None) follows

  no_slots : used_slots es ≡ (λ place. 0)
  no_slots = ap (λ (rs : List Running). λ (place : ℕ). sum_by (λ (r : Running). placed_slots place r.placement) rs) idle

  placeable : (t : PlanTest) → IsLeft plan es t → IfSome plan.resources (λ rs. IsPlaceable rs t)
  placeable t left = by_resources plan.resources sound.placeable
    where
      by_resources : (o : Option (List Resource)) → IfSome o (λ rs. All (IsPlaceable rs) plan.tests) → IfSome o (λ rs. IsPlaceable rs t)
      by_resources None all = tt
      by_resources (Some rs) all = All-contains (IsPlaceable rs) plan.tests t all (found_contains (λ (x : PlanTest). x.number == t.number) plan.tests t left.found)

  room : (t : PlanTest) → IsLeft plan es t → has_room plan t es ≡ true
  room t left =
      let fits = all_found (has_sound_processors plan.level) (λ (x : PlanTest). x.number == t.number) plan.tests t sound.processors left.found in
      let most = leb-true t.processors plan.level (and_parts (nat_le 1 t.processors) (nat_le t.processors plan.level) fits).1 in
      let used : used_processors plan.tests es ≡ 0 = ap (λ (rs : List Running). sum_by (λ (r : Running). processors_of (test_at plan.tests r.test)) rs) idle in
      and_from (has_processors plan t es) (not (is_excluded plan.tests t es)) (le-leb (t.processors + used_processors plan.tests es) plan.level (omega arith))
      (ap (λ (rs : List Running). not (list_any (λ (r : Running). exclude (Some t) (test_at plan.tests r.test)) rs)) idle)

  -- a test that is ready may start, where there is no Stop
  pub can_start : (t : PlanTest) → IsLeft plan es t → has_stop es ≡ false → is_ready plan t es ≡ true → t.fixed ≡ None → CanStart plan es t.number
  can_start t left on ready free =
      let place = placed_somehow plan.resources t (used_slots es) no_slots (placeable t left) free in
      let two = and_from (not (has_stop es)) (is_pending plan t es) (ap not on) (pending t left) in
      let three = and_from (not (has_stop es) && is_pending plan t es) (is_ready plan t es) two ready in
      let four = and_from (not (has_stop es) && is_pending plan t es && is_ready plan t es) (has_room plan t es) three (room t left) in
      let may = and_from (not (has_stop es) && is_pending plan t es && is_ready plan t es && has_room plan t es) (is_placed plan.resources t.needs (used_slots es) place.0) four place.1 in
      record { placement = place.0; may = ap (λ (o : Option PlanTest). may_start_at plan es place.0 o) left.found ∙ may }

  starts_here : (t : PlanTest) → IsLeft plan es t → has_stop es ≡ false → follows_finals plan t es ≡ true → first_unpassed plan t es ≡ None → t.fixed ≡ None → GoesOn plan es
  starts_here t left on follows passed free =
      let numbers = map (λ (x : PlanTest). x.number) (enabled plan.tests) in
      let ready = and_from (follows_finals plan t es && is_none (first_unpassed plan t es)) (is_none t.fixed) (and_from (follows_finals plan t es) (is_none (first_unpassed plan t es)) follows (ap is_none passed)) (ap is_none free) in
      let queued = Contains-permutation numbers plan.queue t.number (IsPermutation-sym plan.queue numbers sound.queue) (enabled_number (λ (x : PlanTest). x.number == t.number) plan.tests t (not_disabled plan t es left.unfinished) left.found) in
      starts_on t.number queued (can_start t left on ready free)

  -- a test whose predecessors are final may be settled or may start
  ripe : (t : PlanTest) → IsLeft plan es t → has_stop es ≡ false → follows_finals plan t es ≡ true → (setup : Option ℕ) → first_unpassed plan t es ≡ setup → (fixed : Option Cause) → t.fixed ≡ fixed → GoesOn plan es
  ripe t left on follows (Some s) is fixed free =
      settled_here t (Fixture s) left (behind t left on follows ∙ ap (λ (o : Option ℕ). cause_behind o t.fixed) is)
  ripe t left on follows None is (Some cause) free =
      settled_here t cause left (behind t left on follows ∙ ap (λ (o : Option ℕ). cause_behind o t.fixed) is ∙ free)
  ripe t left on follows None is None free = starts_here t left on follows is free

  left_before : (rank j : ℕ) (o : Option PlanTest) → test_at plan.tests j ≡ o → is_before_rank rank o ≡ true → is_some (verdict_at plan es o) ≡ false → (u : PlanTest) × IsLeft plan es u × (u.rank < rank)
  left_before rank j None is lesser unfinished = cc
  left_before rank j (Some u) is lesser unfinished = (
    u,
    record { found = found_at (λ (x : PlanTest). x.number == j) 1 plan.tests u sound.numbers is; unfinished = unfinished },
    ltb-true u.rank rank (and_parts (not u.disabled) (nat_lt u.rank rank) lesser).1,
  )

  -- where a test waits for a predecessor, a test of lesser rank is not final
  earlier : (t : PlanTest) → IsLeft plan es t → follows_finals plan t es ≡ false → (u : PlanTest) × IsLeft plan es u × (u.rank < t.rank)
  earlier t left waits =
      let found = not_all (λ j. is_some (verdict_of_test plan es j)) t.before waits in
      let linked = all_found (has_sound_links plan.tests) (λ (x : PlanTest). x.number == t.number) plan.tests t sound.links left.found in
      let before = and_parts (list_all (λ j. is_before_rank t.rank (test_at plan.tests j)) t.before) (list_all (λ s. list_any (λ j. j == s) t.before) t.setups) linked in
      let lesser = all_found (λ j. is_before_rank t.rank (test_at plan.tests j)) (λ j. not (is_some (verdict_of_test plan es j))) t.before found.0 before.0 found.1 in
      left_before t.rank found.0 (test_at plan.tests found.0) refl lesser found.2

  goes_on_below : (most : ℕ) (t : PlanTest) → IsLeft plan es t → t.rank < most → has_stop es ≡ false → GoesOn plan es
  goes_on_below zero t left low on = absurd (omega arith)
  goes_on_below (suc most) t left low on = elim (cases_Bool (follows_finals plan t es)) [
    | inl follows ↦ ripe t left on follows (first_unpassed plan t es) refl t.fixed refl
    | inr waits ↦
        let before = earlier t left waits in
        goes_on_below most before.0 before.1 (omega (arith, before.2)) on
  ]

  -- some test can go on
  pub goes_on : are_all_final plan es ≡ false → GoesOn plan es
  goes_on unfinished =
      let found = not_all (λ (t : PlanTest). is_final_in plan.repeat t es) plan.tests unfinished in
      let t = found.0 in
      let left : IsLeft plan es t = record { found = found_at (λ (x : PlanTest). not (is_final_in plan.repeat x es)) 1 plan.tests t sound.numbers found.1; unfinished = found.2 } in
      elim (cases_Bool (has_stop es)) [
        | inl stop ↦ settled_here t Stopped left (stopped t left stop)
        | inr on ↦ goes_on_below (t.rank + 1) t left (omega arith) on
      ]
