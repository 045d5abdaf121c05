-- A history that is allowed so far has stayed within the plan at each moment.
use Rattle.std.proofs.Common.{◌≡◌, ◌∙◌, sym, ap, subst, Bool, true, ℕ, zero, suc, ◌+◌, ◌<◌, ◌≤◌, List, [], ◌∷◌, ◌++◌, length, get_or, take, refl, arith, inl, inr, append_assoc, leb-true}
use Rattle.std.specs.Prelude.{Option, Some, None, IfSome, AllPairs, not, ◌&&◌, slice_get, filter, nat_le, sum_by}
use Rattle.std.proofs.lemmas.Bool.{and_parts, cases_Bool, true≢false}
use Rattle.std.proofs.lemmas.List.{append-nil}
use Rattle.std.proofs.lemmas.List.Folds.{list_any_at}
use Rattle.std.proofs.lemmas.List.Filters.{sum_by-filter_both}
use Rattle.std.proofs.lemmas.List.Kept.{AllPairs-filter}
use Rattle.std.proofs.lemmas.List.Quantifiers.{all_pairs_push}
use Rattle.std.proofs.lemmas.List.Sums.{sum_by-append}
use Rattle.ct_base.specs.declared.defs.Need.{Need}
use Rattle.ct_base.specs.declared.defs.Resource.{Resource}
use Rattle.ct_alloc.specs.declared.placement.Pick.{Pick}
use Rattle.ct_alloc.specs.declared.placement.Placement.{Placement}
use Rattle.ct_alloc.specs.Placement.{fits_beside, fits_from, is_placement, slots_at}
use Rattle.ct_history.specs.declared.plan.PlanTest.{PlanTest}
use Rattle.ct_history.specs.declared.plan.PlanParts.{PlanParts}
use Rattle.ct_history.specs.declared.history.Entry.{Entry}
use Rattle.ct_history.specs.declared.history.Entry.TheVariants.{Start, End, Settle, Stop}
use Rattle.ct_history.specs.History.{Running, is_busy_in, open_starts, placed_slots, processors_of, used_slots}
use Rattle.ct_history.specs.Rules.{exclude, is_placed, test_at}
use Rattle.ct_history.specs.Legal.{GetAlong, IsWithin, StaysWithin, are_allowed_behind, is_allowed, is_allowed_so_far, is_stop_due, starts}
use Rattle.ct_history.proofs.ExcludeLemmas.{exclude-sym}
use Rattle.ct_history.proofs.MayLemmas.{StartsAs, starts-parts}
use Rattle.ct_history.proofs.OpenLemmas.{is_of, open_starts-end, open_starts-snoc}

-- what fits from a place on fits at each later place
fits_at : (k : ℕ) (rs : List Resource) (used : ℕ → ℕ) (picks : List Pick) → fits_from k rs used picks ≡ true → (place at : ℕ) → at ≡ k + place → IfSome (slice_get rs place) (λ (r : Resource). used at + slots_at at picks ≤ r.slots)
fits_at k [] used picks fits place at is = tt
fits_at k (r ∷ rs) used picks fits zero at is =
    let both = and_parts (nat_le (used k + slots_at k picks) r.slots) (fits_from (k + 1) rs used picks) fits in
    let same : at ≡ k = omega arith in
    subst (λ (i : ℕ). used i + slots_at i picks ≤ r.slots) (sym same) (leb-true (used k + slots_at k picks) r.slots both.0)
fits_at k (r ∷ rs) used picks fits (suc place) at is =
    let both = and_parts (nat_le (used k + slots_at k picks) r.slots) (fits_from (k + 1) rs used picks) fits in
    fits_at (k + 1) rs used picks both.1 place at (omega arith)

-- no more slots of a resource are used than it has
abbrev HasSlots : Option (List Resource) → (ℕ → ℕ) → Type 0
HasSlots resources used = IfSome resources (λ rs. (place : ℕ) → IfSome (slice_get rs place) (λ (r : Resource). used place ≤ r.slots))

slots_along : (o : Option Resource) (n m : ℕ) → m ≤ n → IfSome o (λ (r : Resource). n ≤ r.slots) → IfSome o (λ (r : Resource). m ≤ r.slots)
slots_along None n m le has = tt
slots_along (Some r) n m le has = omega (arith, le, has)

slots_less : (resources : Option (List Resource)) (used less : ℕ → ℕ) → ((place : ℕ) → less place ≤ used place) → HasSlots resources used → HasSlots resources less
slots_less None used less le has = tt
slots_less (Some rs) used less le has = λ place. slots_along (slice_get rs place) (used place) (less place) (le place) (has place)

slots_placed : (resources : Option (List Resource)) (needs : List Need) (used more : ℕ → ℕ) (p : Option Placement) → is_placed resources needs used p ≡ true → ((place : ℕ) → more place ≤ used place + placed_slots place p) → HasSlots resources used → HasSlots resources more
slots_placed None needs used more p placed le has = tt
slots_placed (Some rs) [] used more None placed le has = slots_less (Some rs) used more (λ place. omega (arith, le place)) has
slots_placed (Some rs) [] used more (Some p) placed le has = cc
slots_placed (Some rs) (need ∷ needs) used more None placed le has = cc
slots_placed (Some rs) (need ∷ needs) used more (Some p) placed le has =
    let both = and_parts (is_placement rs (need ∷ needs) p.picks) (fits_beside rs used p.picks) placed in
    λ place. slots_along (slice_get rs place) (used place + slots_at place p.picks) (more place) (le place) (fits_at 0 rs used p.picks both.1 place place (omega arith))

-- what these open starts use is within the plan
record AreWithin (plan : PlanParts) (rs : List Running) : Type 0 where
  processors : sum_by (λ (r : Running). processors_of (test_at plan.tests r.test)) rs ≤ plan.level
  slots : HasSlots plan.resources (λ place. sum_by (λ (r : Running). placed_slots place r.placement) rs)
  apart : AllPairs (GetAlong plan.tests) rs

opened_from : (plan : PlanParts) (es : List Entry) → IsWithin plan es → AreWithin plan (open_starts es)
opened_from plan es within = record { processors = within.processors; slots = within.slots; apart = within.apart }

within_from : (plan : PlanParts) (es : List Entry) (rs : List Running) → open_starts es ≡ rs → AreWithin plan rs → IsWithin plan es
within_from plan es rs is all =
    let here = subst (λ (xs : List Running). AreWithin plan xs) (sym is) all in
    record { processors = here.processors; slots = here.slots; apart = here.apart }

less_sum : (f : Running → ℕ) (p : Running → Bool) (rs : List Running) → sum_by f (filter p rs) ≤ sum_by f rs
less_sum f p rs = omega (arith, sum_by-filter_both p (λ r. not (p r)) (λ r. refl) f rs)

are_within-filter : (plan : PlanParts) (p : Running → Bool) (rs : List Running) → AreWithin plan rs → AreWithin plan (filter p rs)
are_within-filter plan p rs all = record {
  processors = omega (arith, all.processors, less_sum (λ (r : Running). processors_of (test_at plan.tests r.test)) p rs);
  slots = slots_less plan.resources _ _ (λ place. less_sum (λ (r : Running). placed_slots place r.placement) p rs) all.slots;
  apart = AllPairs-filter (GetAlong plan.tests) p rs all.apart;
}

one_sum : (f : Running → ℕ) (rs : List Running) (r : Running) → sum_by f (rs ++ r ∷ []) ≡ sum_by f rs + f r
one_sum f rs r = let one : sum_by f (r ∷ []) ≡ f r = omega arith in sum_by-append f rs (r ∷ []) ∙ ap (λ (n : ℕ). sum_by f rs + n) one

-- a history with one more Start
module _ (plan : PlanParts) (es : List Entry) (n a w : ℕ) (p : Option Placement) where
  abbrev begun : Running
  begun = record { test = n; attempt = a; worker = w; placement = p }

  none_excludes : StartsAs plan es a p (test_at plan.tests n) → (k : ℕ) (d : Running) → k < length (open_starts es) → GetAlong plan.tests (get_or (open_starts es) k d) begun
  none_excludes begins k d lt =
      let x = get_or (open_starts es) k d in
      elim (cases_Bool (exclude (Some begins.test) (test_at plan.tests x.test))) [
        | inl both ↦
            absurd (true≢false (sym (list_any_at (λ (r : Running). exclude (Some begins.test) (test_at plan.tests r.test)) (open_starts es) k d lt both) ∙ begins.may.apart))
        | inr neither ↦
            exclude-sym (test_at plan.tests x.test) (test_at plan.tests n)
            ∙ ap (λ (o : Option PlanTest). exclude o (test_at plan.tests x.test)) begins.found
            ∙ neither
      ]

  within-start : IsWithin plan es → starts plan es a p (test_at plan.tests n) ≡ true → IsWithin plan (es ++ Start n a w p ∷ [])
  within-start within is =
      let begins = starts-parts plan es a p (test_at plan.tests n) is in
      let t = begins.test in
      let takes : processors_of (test_at plan.tests n) ≡ t.processors = ap processors_of begins.found in
      let fits = leb-true _ _ begins.may.processors in
      within_from plan (es ++ Start n a w p ∷ []) (open_starts es ++ begun ∷ []) (open_starts-snoc es (Start n a w p) refl) (record {
        processors = omega (arith, one_sum (λ (r : Running). processors_of (test_at plan.tests r.test)) (open_starts es) begun, takes, fits);
        slots =
            slots_placed plan.resources t.needs (used_slots es) _ p begins.may.placed
            (λ place. omega (arith, one_sum (λ (r : Running). placed_slots place r.placement) (open_starts es) begun)) within.slots;
        apart = all_pairs_push (GetAlong plan.tests) (open_starts es) begun within.apart (none_excludes begins);
      })

-- an entry that opens nothing and ends nothing
within-other : (plan : PlanParts) (es : List Entry) (e : Entry) → open_starts (es ++ e ∷ []) ≡ open_starts es ++ [] → IsWithin plan es → IsWithin plan (es ++ e ∷ [])
within-other plan es e is within = within_from plan (es ++ e ∷ []) (open_starts es) (is ∙ append-nil (open_starts es)) (opened_from plan es within)

-- a history within the plan stays within it with one more allowed entry
pub within-snoc : (plan : PlanParts) (es : List Entry) (e : Entry) → IsWithin plan es → is_allowed plan es e ≡ true → IsWithin plan (es ++ e ∷ [])
within-snoc plan es (Start n a w p) within allowed =
    let most = and_parts (not (is_stop_due plan es) && starts plan es a p (test_at plan.tests n)) (not (is_busy_in w es)) allowed in
    let both = and_parts (not (is_stop_due plan es)) (starts plan es a p (test_at plan.tests n)) most.0 in
    within-start plan es n a w p within both.1
within-snoc plan es (End t a w s) within allowed =
    within_from plan (es ++ End t a w s ∷ []) (filter (λ r. not (is_of t a r)) (open_starts es)) (open_starts-end es t a w s)
    (are_within-filter plan (λ r. not (is_of t a r)) (open_starts es) (opened_from plan es within))
within-snoc plan es (Settle t c) within allowed = within-other plan es (Settle t c) (open_starts-snoc es (Settle t c) refl) within
within-snoc plan es Stop within allowed = within-other plan es Stop (open_starts-snoc es Stop refl) within

within_empty : (plan : PlanParts) → IsWithin plan []
within_empty plan = record {
  processors = omega arith;
  slots = no_slots plan.resources;
  apart = λ i j d lt short. absurd (omega arith);
}
  where
    none : (o : Option Resource) → IfSome o (λ (r : Resource). 0 ≤ r.slots)
    none None = tt
    none (Some r) = omega arith

    no_slots : (resources : Option (List Resource)) → HasSlots resources (λ place. 0)
    no_slots None = tt
    no_slots (Some rs) = λ place. none (slice_get rs place)

within_behind : (plan : PlanParts) (front rest : List Entry) → IsWithin plan front → are_allowed_behind plan front rest ≡ true → (n : ℕ) → IsWithin plan (front ++ take n rest)
within_behind plan front [] within allowed zero = subst (λ (es : List Entry). IsWithin plan es) (sym (append-nil front)) within
within_behind plan front [] within allowed (suc n) = subst (λ (es : List Entry). IsWithin plan es) (sym (append-nil front)) within
within_behind plan front (e ∷ es) within allowed zero = subst (λ (xs : List Entry). IsWithin plan xs) (sym (append-nil front)) within
within_behind plan front (e ∷ es) within allowed (suc n) =
    let both = and_parts (is_allowed plan front e) (are_allowed_behind plan (front ++ e ∷ []) es) allowed in
    subst (λ (xs : List Entry). IsWithin plan xs) (append_assoc front (e ∷ []) (take n es))
    (within_behind plan (front ++ e ∷ []) es (within-snoc plan front e within both.0) both.1 n)

-- at no moment was more given than is declared
pub stays_within : (plan : PlanParts) (es : List Entry) → is_allowed_so_far plan es ≡ true → StaysWithin plan es
stays_within plan es allowed = λ n. within_behind plan [] es (within_empty plan) allowed n
