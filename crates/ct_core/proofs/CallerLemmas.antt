-- What a caller may conclude from an answer of `next`, above all for a plan of tests without links.
use Rattle.std.proofs.Common.{◌≡◌, ◌∙◌, sym, ap, subst, Bool, true, false, ℕ, List, [], ◌∷◌, ◌++◌, get_or, refl, arith}
use Rattle.std.specs.Prelude.{Option, Some, None, All, Contains, map, not, ◌&&◌, ◌==◌, is_none, is_some, if◌then◌else◌}
use Rattle.std.specs.List.{list_all}
use Rattle.std.proofs.lemmas.Bool.{and_from, true≢false}
use Rattle.std.proofs.lemmas.List.{map-append}
use Rattle.std.proofs.lemmas.List.Elements.{All-contains, All-head, All-map, All-tail, Contains-append_left, Contains-append_right, Contains-get_or}
use Rattle.ct_alloc.specs.declared.placement.Placement.{Placement}
use Rattle.ct_base.specs.declared.defs.Resource.{Resource}
use Rattle.ct_verdict.specs.declared.verdict.Cause.{Cause}
use Rattle.ct_verdict.specs.declared.verdict.Cause.TheVariants.{Stopped}
use Rattle.ct_history.specs.declared.plan.PlanTest.{PlanTest}
use Rattle.ct_history.specs.declared.plan.PlanParts.{PlanParts}
use Rattle.ct_history.specs.declared.history.Entry.{Entry}
use Rattle.ct_history.specs.declared.history.Entry.TheVariants.{Stop}
use Rattle.ct_history.specs.Plan.{IsSound, test_at}
use Rattle.ct_history.specs.History.{has_stop, open_starts, used_slots}
use Rattle.ct_history.specs.Verdicts.{are_all_final, is_final_in, verdict_of_test}
use Rattle.ct_history.specs.Rules.{CanStart, cause_behind, first_unpassed, follows_finals, is_pending, is_placed, may_start_at, settle_cause, settle_cause_at, settle_cause_of_test}
use Rattle.ct_history.specs.Legal.{ends_in_first_failure}
use Rattle.ct_history.proofs.MayLemmas.{may_start-parts, pending-parts, settled_pending}
use Rattle.ct_history.proofs.PlanLemmas.{contained_at}
use Rattle.ct_history.proofs.ProgressLemmas.{IsLeft, all_found, can_start, found_contains}
use Rattle.ct_core.specs.Choice.{IsFirstToStart, NoneSettles, NoneStarts}
use Rattle.ct_core.specs.Core.{with_entry, with_final}
use Rattle.ct_core.specs.CoreValue.{CoreValue}

-- in a run that does not stop on failure, no entry makes a Stop due
pub with_final-off : (core : CoreValue) (e : Entry) → core.plan.stop_on_failure ≡ false → with_final core e ≡ with_entry core e
with_final-off core e off =
    ap (λ (b : Bool). let c : CoreValue = record core { entries = (if b && ends_in_first_failure core.plan (core.entries ++ e ∷ []) then (core.entries ++ e ∷ []) ++ Stop ∷ [] else core.entries ++ e ∷ []) } in c) off

-- if no resources are given, a start has no placement
pub no_placement : (plan : PlanParts) (es : List Entry) (n : ℕ) (p : Option Placement) → plan.resources ≡ None → IsFirstToStart plan es n p → p ≡ None
no_placement plan es n p none first = by_test (test_at plan.tests n) p first.may
  where
    by_test : (o : Option PlanTest) (q : Option Placement) → may_start_at plan es q o ≡ true → q ≡ None
    by_test None q may = cc
    by_test (Some t) None may = refl
    by_test (Some t) (Some r) may =
        let placed = sym (ap (λ (rs : Option (List Resource)). is_placed rs t.needs (used_slots es) (Some r)) none) ∙ (may_start-parts plan t (Some r) es may).placed in
        (cc)

split_same : (plan : PlanParts) (es : List Entry) (front rest earlier later : List ℕ) (n m : ℕ) → earlier ++ m ∷ later ≡ front ++ n ∷ rest → NoneStarts plan es earlier → NoneStarts plan es front → CanStart plan es m → CanStart plan es n → m ≡ n
split_same plan es [] rest [] later n m is none no_one can may = cc
split_same plan es [] rest (x ∷ xs) later n m is none no_one can may =
    let same : x ≡ n = cc in
    absurd (All-head (λ k. CanStart plan es k → ⊥) x xs none (subst (λ k. CanStart plan es k) (sym same) may))
split_same plan es (y ∷ ys) rest [] later n m is none no_one can may =
    let same : m ≡ y = cc in
    absurd (All-head (λ k. CanStart plan es k → ⊥) y ys no_one (subst (λ k. CanStart plan es k) same can))
split_same plan es (y ∷ ys) rest (x ∷ xs) later n m is none no_one can may =
    let tails : xs ++ m ∷ later ≡ ys ++ n ∷ rest = cc in
    split_same plan es ys rest xs later n m tails (All-tail (λ k. CanStart plan es k → ⊥) x xs none) (All-tail (λ k. CanStart plan es k → ⊥) y ys no_one) can may

-- if a test can start and no test in front of it in the queue can, it is the first to start
pub first_is : (plan : PlanParts) (es : List Entry) (m n : ℕ) (p : Option Placement) (front rest : List ℕ) → IsFirstToStart plan es m p → plan.queue ≡ front ++ n ∷ rest → NoneStarts plan es front → CanStart plan es n → m ≡ n
first_is plan es m n p front rest first queued none can =
    split_same plan es front rest first.earlier first.later n m (sym first.queued ∙ queued) first.first none (record { placement = p; may = first.may }) can

-- a test that can start is not final
unfinished : (plan : PlanParts) (es : List Entry) (n : ℕ) (t : PlanTest) → test_at plan.tests n ≡ Some t → CanStart plan es n → is_final_in plan.repeat t es ≡ false
unfinished plan es n t found can =
    let may = sym (ap (λ (o : Option PlanTest). may_start_at plan es can.placement o) found) ∙ can.may in
    (pending-parts plan t es (may_start-parts plan t can.placement es may).pending).unfinished

-- if all tests are final, none can start
pub done_starts_none : (plan : PlanParts) (es : List Entry) (n : ℕ) → are_all_final plan es ≡ true → CanStart plan es n → ⊥
done_starts_none plan es n done can = by_test (test_at plan.tests n) refl
  where
    by_test : (o : Option PlanTest) → test_at plan.tests n ≡ o → ⊥
    by_test None is = true≢false (sym can.may ∙ ap (λ (o : Option PlanTest). may_start_at plan es can.placement o) is)
    by_test (Some t) is =
        true≢false (sym (all_found (λ (x : PlanTest). is_final_in plan.repeat x es) (λ (x : PlanTest). x.number == n) plan.tests t done is) ∙ unfinished plan es n t is can)

-- if all tests are final, none may be settled
pub done_settles_none : (plan : PlanParts) (es : List Entry) (n : ℕ) (cause : Cause) → are_all_final plan es ≡ true → settle_cause_of_test plan es n ≡ Some cause → ⊥
done_settles_none plan es n cause done may = by_test (test_at plan.tests n) refl
  where
    by_test : (o : Option PlanTest) → test_at plan.tests n ≡ o → ⊥
    by_test None is = let never = sym may ∙ ap (λ (o : Option PlanTest). settle_cause_at plan es o) is in (cc)
    by_test (Some t) is =
        let settled = sym (ap (λ (o : Option PlanTest). settle_cause_at plan es o) is) ∙ may in
        true≢false (sym (all_found (λ (x : PlanTest). is_final_in plan.repeat x es) (λ (x : PlanTest). x.number == n) plan.tests t done is) ∙ (pending-parts plan t es (settled_pending plan t es cause settled)).unfinished)

-- a test without links and without a fixed cause
pub record IsFree (t : PlanTest) : Type 0 where
  pub before : t.before ≡ []
  pub setups : t.setups ≡ []
  pub fixed : t.fixed ≡ None

free_follows : (plan : PlanParts) (t : PlanTest) (es : List Entry) → IsFree t → follows_finals plan t es ≡ true
free_follows plan t es free = ap (λ (js : List ℕ). list_all (λ j. is_some (verdict_of_test plan es j)) js) free.before

free_passed : (plan : PlanParts) (t : PlanTest) (es : List Entry) → IsFree t → first_unpassed plan t es ≡ None
free_passed plan t es free = ap (λ (js : List ℕ). first_unpassed plan (record t { setups = js }) es) free.setups

free_unsettled : (plan : PlanParts) (t : PlanTest) (es : List Entry) → IsFree t → has_stop es ≡ false → settle_cause plan t es ≡ None
free_unsettled plan t es free on = by_pending (is_pending plan t es)
  where
    rest : (if has_stop es then Some Stopped else (if follows_finals plan t es then cause_behind (first_unpassed plan t es) t.fixed else None)) ≡ None
    rest =
        ap (λ (b : Bool). if b then Some Stopped else (if follows_finals plan t es then cause_behind (first_unpassed plan t es) t.fixed else None)) on
        ∙ ap (λ (b : Bool). if b then cause_behind (first_unpassed plan t es) t.fixed else None) (free_follows plan t es free)
        ∙ ap (λ (o : Option ℕ). cause_behind o t.fixed) (free_passed plan t es free)
        ∙ free.fixed

    by_pending : (b : Bool) → (if not b then None else (if has_stop es then Some Stopped else (if follows_finals plan t es then cause_behind (first_unpassed plan t es) t.fixed else None))) ≡ None
    by_pending true = rest
    by_pending false = refl

module _ (plan : PlanParts) (sound : IsSound plan) (free : All IsFree plan.tests) (es : List Entry) (on : has_stop es ≡ false) where
  -- in a plan of free tests none may be settled while there is no Stop
  pub free_settles_none : NoneSettles plan es
  free_settles_none = λ n. by_test n (test_at plan.tests n) refl
    where
      by_test : (n : ℕ) (o : Option PlanTest) → test_at plan.tests n ≡ o → settle_cause_at plan es o ≡ None
      by_test n None is = refl
      by_test n (Some t) is = free_unsettled plan t es (All-contains IsFree plan.tests t free (found_contains (λ (x : PlanTest). x.number == n) plan.tests t is)) on

  -- if the tests are queued in their order and none is open, the first that is not final starts
  module _ (idle : open_starts es ≡ []) (queued : plan.queue ≡ map (λ (t : PlanTest). t.number) plan.tests) (done rest : List PlanTest) (t : PlanTest) (tests : plan.tests ≡ done ++ t ∷ rest) (final : All (λ u. is_final_in plan.repeat u es ≡ true) done) (left : is_final_in plan.repeat t es ≡ false) where
    here : Contains plan.tests t
    here = subst (λ (ts : List PlanTest). Contains ts t) (sym tests) (Contains-append_right done (t ∷ rest) t (0, omega arith, refl))

    pub free_can_start : CanStart plan es t.number
    free_can_start =
        let is_free = All-contains IsFree plan.tests t free here in
        let is_left : IsLeft plan es t = record { found = contained_at 1 plan.tests t sound.numbers here; unfinished = left } in
        let ready = and_from (follows_finals plan t es && is_none (first_unpassed plan t es)) (is_none t.fixed) (and_from (follows_finals plan t es) (is_none (first_unpassed plan t es)) (free_follows plan t es is_free) (ap is_none (free_passed plan t es is_free))) (ap is_none is_free.fixed) in
        can_start plan sound es idle t is_left on ready is_free.fixed

    none_before : NoneStarts plan es (map (λ (u : PlanTest). u.number) done)
    none_before =
        All-map (λ n. CanStart plan es n → ⊥) (λ (u : PlanTest). u.number) done
        (λ k d lt can.
        let u = get_or done k d in
        let there : Contains plan.tests u = subst (λ (ts : List PlanTest). Contains ts u) (sym tests) (Contains-append_left done (t ∷ rest) u (Contains-get_or done k d lt)) in
        true≢false (sym (final k d lt) ∙ unfinished plan es u.number u (contained_at 1 plan.tests u sound.numbers there) can))

    pub free_starts : (m : ℕ) (p : Option Placement) → IsFirstToStart plan es m p → m ≡ t.number
    free_starts m p first =
        first_is plan es m t.number p (map (λ (u : PlanTest). u.number) done) (map (λ (u : PlanTest). u.number) rest) first
        (queued ∙ ap (λ (ts : List PlanTest). map (λ (u : PlanTest). u.number) ts) tests ∙ map-append (λ (u : PlanTest). u.number) done (t ∷ rest))
        none_before free_can_start
