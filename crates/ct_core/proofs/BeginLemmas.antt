-- The tests that wait at the beginning of a run, when its history is empty.
use Rattle.std.proofs.Common.{◌≡◌, ◌∙◌, sym, ap, subst, Bool, true, false, not, cond, ◌&&◌, ◌==◌, if◌then◌else◌, ℕ, zero, suc, ◌+◌, ◌≤◌, List, [], ◌∷◌, length, filter, find, slice_get, is_some, is_none, nat_lt, refl, arith}
use Rattle.std.specs.Prelude.{Option, Some, None}
use Rattle.std.specs.List.{list_all, list_any}
use Rattle.std.proofs.Math.Bool.{and-true}
use Rattle.std.proofs.lemmas.Bool.{true≢false, and_parts, eqb-true, not-true}
use Rattle.std.proofs.lemmas.List.{get_or-map, get_or-replicate, length-map, length-replicate}
use Rattle.std.proofs.lemmas.Option.{none-some, same_Some}
use Rattle.ct_verdict.specs.declared.verdict.Cause.{Cause}
use Rattle.ct_verdict.specs.declared.verdict.Verdict.{Verdict}
use Rattle.ct_verdict.specs.declared.verdict.Verdict.TheVariants.{Disabled}
use Rattle.ct_history.specs.declared.plan.PlanTest.{PlanTest}
use Rattle.ct_history.specs.declared.plan.PlanParts.{PlanParts}
use Rattle.ct_history.specs.Plan.{IsSound, has_sound_links, is_before_rank, test_at}
use Rattle.ct_history.specs.Verdicts.{is_over, verdict_at, verdict_in, verdict_of_test}
use Rattle.ct_history.specs.Rules.{cause_behind, is_pending, is_passed_verdict}
use Rattle.ct_history.proofs.ProgressLemmas.{all_found}
use Rattle.ct_queue.specs.Ready.{StandsIn, predecessors_left, none_out, place_of}
use Rattle.ct_queue.specs.Marks.{is_marked}
use Rattle.ct_queue.proofs.CallerLemmas.{test_at_place}
use Rattle.ct_core.specs.Lines.{AreLinesOf}
use Rattle.ct_core.specs.Standing.{open_before}
use Rattle.ct_core.specs.Waiting.{AreSettleable, IsQueued, cause_then, is_pending_at, open_before_at, settles_but}
use Rattle.ct_core.specs.Begin.{count_before, first_counts, settles_first}
use Rattle.ct_core.proofs.EnabledLemmas.{queued_enabled}
use Rattle.ct_core.proofs.LowerLemmas.{follows_by_count, settle_going}

-- what holds of each element holds of the element at a place
all_there : {A : Type 0} (p : A → Bool) (xs : List A) (place : ℕ) (x : A) → list_all p xs ≡ true → slice_get xs place ≡ Some x → p x ≡ true
all_there p [] place x all there = absurd (none-some x there)
all_there p (y ∷ ys) zero x all there = ap p (sym (same_Some y x there)) ∙ (and_parts (p y) (list_all p ys) all).0
all_there p (y ∷ ys) (suc place) x all there = all_there p ys place x (and_parts (p y) (list_all p ys) all).1 there

abbrev no_verdict : Option Verdict
no_verdict = None

-- before any entry a test is final exactly if it is disabled
verdict_first : (plan : PlanParts) (t : PlanTest) → verdict_in plan.repeat t [] ≡ (if t.disabled then Some Disabled else None)
verdict_first plan t = ap (λ (o : Option Verdict). if t.disabled then Some Disabled else o) (no_attempt (is_over plan.repeat []))
  where
    no_attempt : (over : Bool) → (if over then no_verdict else no_verdict) ≡ no_verdict
    no_attempt true = refl
    no_attempt false = refl

none_first : (plan : PlanParts) (rank : ℕ) (o : Option PlanTest) → is_before_rank rank o ≡ true → verdict_at plan [] o ≡ None
none_first plan rank None lesser = absurd (true≢false (sym lesser))
none_first plan rank (Some u) lesser =
    let works = not-true u.disabled (and_parts (not u.disabled) (nat_lt u.rank rank) lesser).0 in
    verdict_first plan u ∙ ap (λ (b : Bool). if b then Some Disabled else None) works

-- before any entry no predecessor of a test is final
all_left : (plan : PlanParts) (rank : ℕ) (js : List ℕ) → list_all (λ j. is_before_rank rank (test_at plan.tests j)) js ≡ true → length (filter (λ j. is_none (verdict_of_test plan [] j)) js) ≡ length js
all_left plan rank [] lesser = refl
all_left plan rank (j ∷ js) lesser =
    let both = and_parts (is_before_rank rank (test_at plan.tests j)) (list_all (λ i. is_before_rank rank (test_at plan.tests i)) js) lesser in
    ap (λ (o : Option Verdict). length (cond (is_none o) (j ∷ filter (λ i. is_none (verdict_of_test plan [] i)) js) (filter (λ i. is_none (verdict_of_test plan [] i)) js))) (none_first plan rank (test_at plan.tests j) both.0)
    ∙ ap suc (all_left plan rank js both.1)

pending_first : (plan : PlanParts) (t : PlanTest) → is_pending plan t [] ≡ not t.disabled
pending_first plan t = ap (λ (o : Option Verdict). not (is_some o) && true) (verdict_first plan t) ∙ by_disabled t.disabled
  where
    by_disabled : (d : Bool) → (not (is_some (if d then Some Disabled else None)) && true) ≡ not d
    by_disabled true = refl
    by_disabled false = refl

open_first : (plan : PlanParts) (t : PlanTest) → has_sound_links plan.tests t ≡ true → open_before plan [] t ≡ length t.before
open_first plan t linked = all_left plan t.rank t.before (and_parts (list_all (λ j. is_before_rank t.rank (test_at plan.tests j)) t.before) (list_all (λ s. list_any (λ j. j == s) t.before) t.setups) linked).0

-- a test without predecessors has no setup
no_setup : (p : ℕ → Bool) (before setups : List ℕ) → list_all (λ s. list_any (λ j. j == s) before) setups ≡ true → (length before == 0) ≡ true → find p setups ≡ None
no_setup p (j ∷ js) setups linked none = absurd (omega (arith, eqb-true (length (j ∷ js)) 0 none))
no_setup p [] [] linked none = refl
no_setup p [] (s ∷ ss) linked none = absurd (true≢false (sym linked))

settles_at_first : (plan : PlanParts) (t : PlanTest) → has_sound_links plan.tests t ≡ true → settles_but plan [] [] (Some t) ≡ settles_first (Some t)
settles_at_first plan t linked =
    ap (λ (o : Option Cause). is_some o && true) (settle_going plan t [] refl)
    ∙ ap (λ (b : Bool). is_some (if b && is_pending plan t [] then cause_then plan [] t else None) && true) (follows_by_count plan t [] ∙ ap (λ (n : ℕ). n == 0) (open_first plan t linked))
    ∙ ap (λ (b : Bool). is_some (if length t.before == 0 && b then cause_then plan [] t else None) && true) (pending_first plan t)
    ∙ by_parts t.disabled (length t.before == 0) (cause_then plan [] t) t.fixed
    (λ none. ap (λ (o : Option ℕ). cause_behind o t.fixed) (no_setup (λ s. not (is_passed_verdict (verdict_of_test plan [] s))) t.before t.setups (and_parts (list_all (λ j. is_before_rank t.rank (test_at plan.tests j)) t.before) (list_all (λ s. list_any (λ j. j == s) t.before) t.setups) linked).1 none))
  where
    by_parts : (d e : Bool) (c f : Option Cause) → (e ≡ true → c ≡ f) → (is_some (if e && not d then c else None) && true) ≡ (not d && e && is_some f)
    by_parts true true c f same = refl
    by_parts true false c f same = refl
    by_parts false true c f same = and-true (is_some c) ∙ ap is_some (same refl)
    by_parts false false c f same = refl

module _ (plan : PlanParts) (sound : IsSound plan) where
  count_first : (lines bunches : List ℕ) (n : ℕ) → StandsIn plan.queue n → predecessors_left (none_out plan.queue (first_counts plan) lines bunches) n ≡ count_before (test_at plan.tests n)
  count_first lines bunches n stands =
      get_or-map (λ (k : ℕ). count_before (test_at plan.tests k)) plan.queue (place_of plan.queue n) 0 0 stands
      ∙ ap (λ (k : ℕ). count_before (test_at plan.tests k)) (test_at_place plan.queue n stands)

  -- the tests of the queue begin with as many predecessors as they have, and none of them is out
  pub begins_queued : (lines bunches : List ℕ) → AreLinesOf plan lines → IsQueued plan [] [] (none_out plan.queue (first_counts plan) lines bunches)
  begins_queued lines bunches are = record {
    order = refl;
    counted = length-map plan.queue (λ (k : ℕ). count_before (test_at plan.tests k));
    said = length-replicate (length plan.queue) false;
    counts = λ n stands.
        let at = queued_enabled plan sound n stands in
        let t = at.test in
        let linked = all_found (has_sound_links plan.tests) (λ (x : PlanTest). x.number == n) plan.tests t sound.links at.found in
        let here : length t.before ≡ open_before plan [] t + 0 = omega (arith, open_first plan t linked) in
        count_first lines bunches n stands ∙ subst (λ (o : Option PlanTest). count_before o ≡ open_before_at plan [] o + 0) (sym at.found) here;
    outs = λ n stands.
        let at = queued_enabled plan sound n stands in
        let t = at.test in
        let pending : not (is_pending plan t []) ≡ false = ap not (pending_first plan t) ∙ ap (λ (b : Bool). not (not b)) at.enabled in
        get_or-replicate (length plan.queue) (place_of plan.queue n) false false stands
        ∙ sym (ap (λ (o : Option PlanTest). not (is_pending_at plan [] o)) at.found ∙ pending);
    lines = are;
  }

  -- before any entry, marks at exactly the tests without predecessors and with a fixed cause are right
  pub begins_settleable : (m : List Bool) → length plan.tests ≤ length m → ((place : ℕ) → is_marked m place ≡ settles_first (slice_get plan.tests place)) → AreSettleable plan [] [] m
  begins_settleable m room marked = record {
    room = room;
    marked = λ place. marked place ∙ by_test place (slice_get plan.tests place) refl;
  }
    where
      by_test : (place : ℕ) (o : Option PlanTest) → slice_get plan.tests place ≡ o → settles_first o ≡ settles_but plan [] [] o
      by_test place None is = refl
      by_test place (Some t) is = sym (settles_at_first plan t (all_there (has_sound_links plan.tests) plan.tests place t sound.links is))
