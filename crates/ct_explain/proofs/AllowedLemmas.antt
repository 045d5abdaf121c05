-- A Start that is allowed waits for nothing.
use Rattle.std.proofs.Common.{◌≡◌, ◌∙◌, sym, ap, subst, ℕ, ◌+◌, ◌-◌, Bool, true, false, List, [], ◌∷◌, ◌++◌, filter, map, fold, refl, cond, inl, inr, Option, Some, None}
use Rattle.std.specs.Prelude.{not, ◌&&◌, ◌||◌, find, is_some, is_none, option_map, option_and_then, nat_le, bytes_eq}
use Rattle.std.specs.List.{list_all, list_any}
use Rattle.std.proofs.lemmas.Bool.{and_parts, cases_Bool, or_cases, or_left, or_parts, or_right}
use Rattle.std.proofs.lemmas.Slice.Eq.{bytes_eq-Decides}
use Rattle.ct_base.specs.declared.defs.Need.{Need}
use Rattle.ct_base.specs.declared.defs.Resource.{Resource}
use Rattle.ct_base.specs.Names.{is_among, shares_name}
use Rattle.ct_alloc.specs.declared.placement.Pick.{Pick}
use Rattle.ct_alloc.specs.declared.placement.Placement.{Placement}
use Rattle.ct_alloc.specs.Placement.{fits_beside, fits_from, is_placement, slots_at}
use Rattle.ct_history.specs.declared.plan.PlanTest.{PlanTest}
use Rattle.ct_history.specs.declared.plan.PlanParts.{PlanParts}
use Rattle.ct_history.specs.declared.history.Entry.{Entry}
use Rattle.ct_history.specs.declared.history.Entry.TheVariants as Happened
use Rattle.ct_history.specs.Plan.{test_at}
use Rattle.ct_history.specs.History.{Running, is_busy_in, open_starts, used_slots}
use Rattle.ct_history.specs.Verdicts.{verdict_of_test}
use Rattle.ct_history.specs.Rules.{exclude, first_unpassed, follows_finals, is_placed, is_serial, locks_of, locks_out, may_start, shared_of}
use Rattle.ct_history.specs.Legal.{is_allowed, is_next_attempt, is_stop_due, starts}
use Rattle.ct_history.specs.Seen.{processors_used, slots_used}
use Rattle.ct_history.proofs.MayLemmas.{may_start-parts}
use Rattle.ct_explain.specs.declared.wait.Wait.TheVariants.{Attempt, Predecessor, Serial, Processors, Resource as Slots, Worker, Nothing}
use Rattle.ct_explain.specs.Waits.{exclude_on, first_wait, full_from, full_place, holds_lock, is_excluded_on, least_lock, lesser, lesser_name, lock_wait_on, names, open_serial, unfinished, unless, wait_of}

none_of_some : {V : Type 0} (o : Option V) → is_some o ≡ true → is_none o ≡ false
none_of_some None is = cc
none_of_some (Some v) is = refl

all_final : {V : Type 0} (verdict : ℕ → Option V) (ns : List ℕ) → list_all (λ (j : ℕ). is_some (verdict j)) ns ≡ true → find (λ (j : ℕ). is_none (verdict j)) ns ≡ None
all_final verdict [] all = refl
all_final verdict (n ∷ ns) all =
    let both = and_parts (is_some (verdict n)) (list_all (λ (j : ℕ). is_some (verdict j)) ns) all in
    ap (λ (b : Bool). cond b (Some n) (find (λ (j : ℕ). is_none (verdict j)) ns)) (none_of_some (verdict n) both.0) ∙ all_final verdict ns both.1

open_none : (P : ℕ → Bool) (Q : Running → Bool) → ((r : Running) → Q r ≡ false → P r.test ≡ false) → (rs : List Running) → list_any Q rs ≡ false → filter P (map (λ (r : Running). r.test) rs) ≡ []
open_none P Q leads [] none = refl
open_none P Q leads (r ∷ rs) none =
    let both = or_parts (Q r) (list_any Q rs) none in
    ap (λ (b : Bool). cond b (r.test ∷ filter P (map (λ (x : Running). x.test) rs)) (filter P (map (λ (x : Running). x.test) rs))) (leads r both.0) ∙ open_none P Q leads rs both.1

any_none : (P Q : Running → Bool) → ((r : Running) → Q r ≡ false → P r ≡ false) → (rs : List Running) → list_any Q rs ≡ false → list_any P rs ≡ false
any_none P Q leads [] none = refl
any_none P Q leads (r ∷ rs) none =
    let both = or_parts (Q r) (list_any Q rs) none in
    ap (λ (b : Bool). b || list_any P rs) (leads r both.0) ∙ any_none P Q leads rs both.1

filter_none : (P : List ℕ → Bool) → ((n : List ℕ) → P n ≡ false) → (ns : List (List ℕ)) → filter P ns ≡ []
filter_none P none [] = refl
filter_none P none (n ∷ ns) = ap (λ (b : Bool). cond b (n ∷ filter P ns) (filter P ns)) (none n) ∙ filter_none P none ns

-- two tests that do not exclude each other
record AreApart (one other : Option PlanTest) : Type 0 where
  here : locks_out one other ≡ false
  there : locks_out other one ≡ false
  first : is_serial one ≡ false
  second : is_serial other ≡ false

apart-parts : (one other : Option PlanTest) → exclude one other ≡ false → AreApart one other
unfolding exclude
apart-parts one other none =
    let three = or_parts (locks_out one other || locks_out other one || is_serial one) (is_serial other) none in
    let two = or_parts (locks_out one other || locks_out other one) (is_serial one) three.0 in
    let both = or_parts (locks_out one other) (locks_out other one) two.0 in
    record { here = both.0; there = both.1; first = two.1; second = three.1 }

shares_at : (lock : List ℕ) (xs ys : List (List ℕ)) → is_among lock xs ≡ true → is_among lock ys ≡ true → shares_name xs ys ≡ true
shares_at lock [] ys one other = cc
shares_at lock (x ∷ xs) ys one other = elim (cases_Bool (bytes_eq lock x)) [
  | inl same ↦ or_left (is_among x ys) (shares_name xs ys) (subst (λ (n : List ℕ). is_among n ys ≡ true) ((bytes_eq-Decides lock x).0 same) other)
  | inr differs ↦ or_right (is_among x ys) (shares_name xs ys) (shares_at lock xs ys (sym (ap (λ (b : Bool). b || is_among lock xs) differs) ∙ one) other)
]

out_on : (lock : List ℕ) (one other : Option PlanTest) → holds_lock lock one ≡ true → names lock other ≡ true → locks_out one other ≡ true
out_on lock one other held named = elim (or_cases (holds_lock lock other) (is_among lock (shared_of other)) named) [
  | inl alone ↦ or_left (shares_name (locks_of one) (locks_of other)) (shares_name (locks_of one) (shared_of other)) (shares_at lock (locks_of one) (locks_of other) held alone)
  | inr shared ↦ or_right (shares_name (locks_of one) (locks_of other)) (shares_name (locks_of one) (shared_of other)) (shares_at lock (locks_of one) (shared_of other) held shared)
]

not_on : (lock : List ℕ) (one other : Option PlanTest) → AreApart one other → exclude_on lock one other ≡ false
not_on lock one other apart = elim (cases_Bool (exclude_on lock one other)) [
  | inr none ↦ none
  | inl on ↦ elim (or_cases (holds_lock lock one && names lock other) (names lock one && holds_lock lock other) on) [
    | inl first ↦
        let both = and_parts (holds_lock lock one) (names lock other) first in
        let no : true ≡ false = sym (out_on lock one other both.0 both.1) ∙ apart.here in
        cc
    | inr second ↦
        let both = and_parts (names lock one) (holds_lock lock other) second in
        let no : true ≡ false = sym (out_on lock other one both.1 both.0) ∙ apart.there in
        cc
  ]
]

full_none : (place : ℕ) (rs : List Resource) (used : ℕ → ℕ) (picks : List Pick) → fits_from place rs used picks ≡ true → full_from place rs used picks ≡ None
full_none place [] used picks fits = refl
full_none place (r ∷ rs) used picks fits =
    let both = and_parts (nat_le (used place + slots_at place picks) r.slots) (fits_from (place + 1) rs used picks) fits in
    ap (λ (b : Bool). cond b (full_from (place + 1) rs used picks) (Some place)) both.0 ∙ full_none (place + 1) rs used picks both.1

placed_none : (resources : Option (List Resource)) (needs : List Need) (used : ℕ → ℕ) (placement : Option Placement) → is_placed resources needs used placement ≡ true → full_place resources used placement ≡ None
placed_none None needs used placement placed = refl
placed_none (Some rs) needs used None placed = refl
placed_none (Some rs) [] used (Some p) placed = cc
placed_none (Some rs) (need ∷ needs) used (Some p) placed = full_none 0 rs used p.picks (and_parts (is_placement rs (need ∷ needs) p.picks) (fits_beside rs used p.picks) placed).1

pub waits_for_nothing : (plan : PlanParts) (front : List Entry) (t : PlanTest) (attempt worker : ℕ) (placement : Option Placement) → test_at plan.tests t.number ≡ Some t → is_allowed plan front (Happened.Start t.number attempt worker placement) ≡ true → wait_of plan front t attempt worker placement ≡ Nothing
waits_for_nothing plan front t attempt worker placement found allowed =
    let most = and_parts (not (is_stop_due plan front) && starts plan front attempt placement (test_at plan.tests t.number)) (not (is_busy_in worker front)) allowed in
    let begins = and_parts (not (is_stop_due plan front)) (starts plan front attempt placement (test_at plan.tests t.number)) most.0 in
    let this : starts plan front attempt placement (Some t) ≡ true = subst (λ (o : Option PlanTest). starts plan front attempt placement o ≡ true) found begins.1 in
    let both = and_parts (may_start plan t placement front) (is_next_attempt t attempt front) this in
    let may = may_start-parts plan t placement front both.0 in
    let ready = and_parts (follows_finals plan t front && is_none (first_unpassed plan t front)) (is_none t.fixed) may.ready in
    let follows = and_parts (follows_finals plan t front) (is_none (first_unpassed plan t front)) ready.0 in
    let final : unfinished plan t front ≡ None = all_final (verdict_of_test plan front) t.before follows.0 in
    let serial : open_serial plan.tests t (open_starts front) ≡ None = ap (fold lesser None) (open_none (λ (x : ℕ). t.serial || is_serial (test_at plan.tests x)) (λ (r : Running). exclude (Some t) (test_at plan.tests r.test)) (λ r none. (let apart = apart-parts (Some t) (test_at plan.tests r.test) none in λ i. apart.first i || apart.second i)) (open_starts front) may.apart) in
    let lock : least_lock plan.tests t (open_starts front) ≡ None = ap (fold lesser_name None) (filter_none (is_excluded_on plan.tests t (open_starts front)) (λ l. any_none (λ (r : Running). exclude_on l (Some t) (test_at plan.tests r.test)) (λ (r : Running). exclude (Some t) (test_at plan.tests r.test)) (λ r none. not_on l (Some t) (test_at plan.tests r.test) (apart-parts (Some t) (test_at plan.tests r.test) none)) (open_starts front) may.apart) (t.locks ++ t.shared)) in
    let place : full_place plan.resources (slots_used (open_starts front)) placement ≡ None = placed_none plan.resources t.needs (used_slots front) placement may.placed in
    λ i. first_wait (option_map Attempt (unless (both.1 i) (attempt - 1))
    ∷ option_map Predecessor (final i)
    ∷ option_map Serial (serial i)
    ∷ option_map Processors (unless (may.processors i) (processors_used plan.tests (open_starts front)))
    ∷ option_and_then (lock_wait_on plan.tests t (open_starts front)) (lock i)
    ∷ option_map Slots (place i)
    ∷ option_map Worker (unless (most.1 i) worker)
    ∷ [])
