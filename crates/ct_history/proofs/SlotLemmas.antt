-- What the open starts of an allowed history use of each resource, one start after the other.
use Rattle.std.proofs.Common.{◌≡◌, ◌∙◌, sym, ap, subst, ℕ, suc, ◌+◌, ◌-◌, ◌<◌, ◌≤◌, Bool, true, false, List, [], ◌∷◌, ◌++◌, length, get_or, take, drop, length-drop, refl, arith}
use Rattle.std.specs.Prelude.{Option, Some, None, IfSome, option_and_then, slice_get, nat_le, sum_by, cond, not, ◌&&◌}
use Rattle.std.specs.List.{list_all, list_any, cons_option}
use Rattle.std.proofs.lemmas.Bool.{and_from, and_parts, le-leb}
use Rattle.std.proofs.lemmas.List.{at_drop_more, take_all}
use Rattle.std.proofs.lemmas.List.Sums.{sum_by-append}
use Rattle.ct_base.specs.declared.defs.Need.{Need}
use Rattle.ct_base.specs.declared.defs.Resource.{Resource}
use Rattle.ct_alloc.specs.declared.placement.Pick.{Pick}
use Rattle.ct_alloc.specs.declared.placement.Placement.{Placement}
use Rattle.ct_alloc.specs.Free.{are_there}
use Rattle.ct_alloc.specs.Placement.{fits_beside, fits_from, is_placement, meets, slots_at}
use Rattle.ct_alloc.proofs.PlaceLemmas.{placed-there}
use Rattle.ct_history.specs.declared.plan.PlanParts.{PlanParts}
use Rattle.ct_history.specs.declared.history.Entry.{Entry}
use Rattle.ct_history.specs.declared.history.Entry.TheVariants.{Start, End, Settle, Stop}
use Rattle.ct_history.specs.Plan.{test_at}
use Rattle.ct_history.specs.History.{Running, is_busy_in, is_end_of, open_starts, opened, opened_placement, placed_slots, used_slots}
use Rattle.ct_history.specs.Rules.{is_placed}
use Rattle.ct_history.specs.Legal.{IsWithin, are_allowed_behind, is_allowed, is_allowed_so_far, is_stop_due, starts}
use Rattle.ct_history.proofs.BoolLemmas.{all_at}
use Rattle.ct_history.proofs.MayLemmas.{starts-parts}
use Rattle.ct_history.proofs.WithinLemmas.{stays_within}

-- a placement has one pick for each need
pub placement-length : (rs : List Resource) (needs : List Need) (picks : List Pick) → is_placement rs needs picks ≡ true → length needs ≡ length picks
placement-length rs [] [] all = refl
placement-length rs [] (pick ∷ picks) all = cc
placement-length rs (need ∷ needs) [] all = cc
placement-length rs (need ∷ needs) (pick ∷ picks) all =
    ap (λ (n : ℕ). suc n) (placement-length rs needs picks (and_parts (meets rs need pick) (is_placement rs needs picks) all).1)

-- the placement of a start names resources that are there
abbrev is_start_there : List Resource → Entry → Bool
is_start_there rs (Start t a w None) = true
is_start_there rs (Start t a w (Some p)) = are_there rs p.picks
is_start_there rs (End t a w s) = true
is_start_there rs (Settle t c) = true
is_start_there rs Stop = true

placed_there : (rs : List Resource) (needs : List Need) (used : ℕ → ℕ) (p : Placement) → is_placed (Some rs) needs used (Some p) ≡ true → are_there rs p.picks ≡ true
placed_there rs [] used p placed = cc
placed_there rs (need ∷ needs) used p placed =
    placed-there rs (need ∷ needs) p.picks (and_parts (is_placement rs (need ∷ needs) p.picks) (fits_beside rs used p.picks) placed).0

open_there : (rs : List Resource) (e : Entry) (behind : List Entry) (p : Placement) → is_start_there rs e ≡ true → opened_placement e behind ≡ Some p → are_there rs p.picks ≡ true
open_there rs (Start t a w q) behind p there is = by_ended (list_any (is_end_of t a) behind) q there is
  where
    by_ended : (b : Bool) (o : Option Placement) → is_start_there rs (Start t a w o) ≡ true → option_and_then (λ (r : Running). r.placement) (cond b None (Some (record { test = t; attempt = a; worker = w; placement = o }))) ≡ Some p → are_there rs p.picks ≡ true
    by_ended true o there is = cc
    by_ended false None there is = cc
    by_ended false (Some x) there is =
        let same : x ≡ p = cc in
        subst (λ (y : Placement). are_there rs y.picks ≡ true) same there
open_there rs (End t a w s) behind p there is = cc
open_there rs (Settle t c) behind p there is = cc
open_there rs Stop behind p there is = cc

-- what an entry opens, by all entries behind it
pub opened-rest : (es : List Entry) (at : ℕ) (e : Entry) (o : Option Placement) → at < length es → o ≡ opened_placement e (take (length es - (at + 1)) (drop (at + 1) es)) → opened_placement e (drop (at + 1) es) ≡ o
opened-rest es at e o lt is =
    ap (λ (xs : List Entry). opened_placement e xs) (sym (take_all (length es - (at + 1)) (drop (at + 1) es) (omega (arith, length-drop (at + 1) es)))) ∙ sym is

-- the slots that one more entry in front adds
used_slots-cons : (e : Entry) (es : List Entry) (place : ℕ) → used_slots (e ∷ es) place ≡ placed_slots place (opened_placement e es) + used_slots es place
used_slots-cons e es place = by_opened (opened e es)
  where
    by_opened : (o : Option Running) → sum_by (λ (r : Running). placed_slots place r.placement) (cons_option o (open_starts es)) ≡ placed_slots place (option_and_then (λ (r : Running). r.placement) o) + used_slots es place
    by_opened None = omega arith
    by_opened (Some r) =
        let f : Running → ℕ = λ x. placed_slots place x.placement in
        let one : sum_by f (r ∷ []) ≡ f r = omega arith in
        sum_by-append f (r ∷ []) (open_starts es) ∙ ap (λ (n : ℕ). n + sum_by f (open_starts es)) one

-- what is used from a place of the history on, and from the next one on
pub used_slots-drop : (es : List Entry) (at : ℕ) (e : Entry) (o : Option Placement) (place : ℕ) → at < length es → e ≡ get_or es at e → opened_placement e (drop (at + 1) es) ≡ o → used_slots (drop at es) place ≡ placed_slots place o + used_slots (drop (at + 1) es) place
used_slots-drop es at e o place lt is opens =
    at_drop_more (λ (xs : List Entry). used_slots xs place) es at e lt
    ∙ ap (λ (x : Entry). used_slots (x ∷ drop (at + 1) es) place) (sym is)
    ∙ used_slots-cons e (drop (at + 1) es) place
    ∙ ap (λ (p : Option Placement). placed_slots place p + used_slots (drop (at + 1) es) place) opens

fits_within : (k : ℕ) (rs : List Resource) (used most : ℕ → ℕ) (picks : List Pick) → ((place : ℕ) → used place + slots_at place picks ≤ most place) → ((place at : ℕ) → at ≡ k + place → IfSome (slice_get rs place) (λ (r : Resource). most at ≤ r.slots)) → fits_from k rs used picks ≡ true
fits_within k [] used most picks le has = refl
fits_within k (r ∷ rs) used most picks le has =
    let here : most k ≤ r.slots = has 0 k (omega arith) in
    and_from (nat_le (used k + slots_at k picks) r.slots) (fits_from (k + 1) rs used picks)
    (le-leb (used k + slots_at k picks) r.slots (omega (arith, le k, here)))
    (fits_within (k + 1) rs used most picks le (λ place at is. has (suc place) at (omega (arith, is))))

module _ (plan : PlanParts) (rs : List Resource) (given : plan.resources ≡ Some rs) where
  start_there : (front : List Entry) (e : Entry) → is_allowed plan front e ≡ true → is_start_there rs e ≡ true
  start_there front (Start t a w None) allowed = refl
  start_there front (Start t a w (Some p)) allowed =
      let most = and_parts (not (is_stop_due plan front) && starts plan front a (Some p) (test_at plan.tests t)) (not (is_busy_in w front)) allowed in
      let both = and_parts (not (is_stop_due plan front)) (starts plan front a (Some p) (test_at plan.tests t)) most.0 in
      let begins = starts-parts plan front a (Some p) (test_at plan.tests t) both.1 in
      placed_there rs begins.test.needs (used_slots front) p
      (ap (λ (o : Option (List Resource)). is_placed o begins.test.needs (used_slots front) (Some p)) (sym given) ∙ begins.may.placed)
  start_there front (End t a w s) allowed = refl
  start_there front (Settle t c) allowed = refl
  start_there front Stop allowed = refl

  starts_there : (front es : List Entry) → are_allowed_behind plan front es ≡ true → list_all (is_start_there rs) es ≡ true
  starts_there front [] allowed = refl
  starts_there front (e ∷ es) allowed =
      let both = and_parts (is_allowed plan front e) (are_allowed_behind plan (front ++ e ∷ []) es) allowed in
      and_from (is_start_there rs e) (list_all (is_start_there rs) es) (start_there front e both.0) (starts_there (front ++ e ∷ []) es both.1)

  -- the placement of an open start names resources that are there
  pub placement_there : (es : List Entry) → is_allowed_so_far plan es ≡ true → (at : ℕ) (e : Entry) (p : Placement) → at < length es → e ≡ get_or es at e → opened_placement e (drop (at + 1) es) ≡ Some p → are_there rs p.picks ≡ true
  placement_there es allowed at e p lt is opens =
      let there = all_at (is_start_there rs) es at e (starts_there [] es allowed) lt in
      open_there rs e (drop (at + 1) es) p (ap (λ (x : Entry). is_start_there rs x) is ∙ there) opens

  -- picks fit beside used slots, where both together are at most what the open starts use
  pub placement_fits : (es : List Entry) → is_allowed_so_far plan es ≡ true → (used : ℕ → ℕ) (p : Placement) → ((place : ℕ) → used place + slots_at place p.picks ≤ used_slots es place) → fits_beside rs used p.picks ≡ true
  placement_fits es allowed used p le =
      let within = subst (λ (xs : List Entry). IsWithin plan xs) (take_all (length es) es (omega arith)) (stays_within plan es allowed (length es)) in
      let slots = subst (λ (o : Option (List Resource)). IfSome o (λ xs. (place : ℕ) → IfSome (slice_get xs place) (λ (r : Resource). used_slots es place ≤ r.slots))) given within.slots in
      fits_within 0 rs used (used_slots es) p.picks le
      (λ place at is. (let same : place ≡ at = omega (arith, is) in subst (λ (i : ℕ). IfSome (slice_get rs place) (λ (r : Resource). used_slots es i ≤ r.slots)) same (slots place)))
