-- A history is legal and complete for a plan whatever the queue and the ranks of its tests.
use Rattle.std.proofs.Common.{◌≡◌, ◌∙◌, sym, ap, Bool, true, false, ℕ, List, [], ◌∷◌, ◌++◌, refl, map}
use Rattle.std.specs.Prelude.{Option, Some, None, option_map, not, ◌&&◌, cond, find, is_some, is_none, nat_le, sum_by, ◌+◌, ◌==◌}
use Rattle.std.specs.List.{list_any, list_all}
use Rattle.std.proofs.Math.Path.{fun_ext}
use Rattle.ct_alloc.specs.declared.placement.Placement.{Placement}
use Rattle.ct_verdict.specs.declared.verdict.Cause.{Cause}
use Rattle.ct_verdict.specs.declared.verdict.Verdict.{Verdict}
use Rattle.ct_history.specs.declared.plan.PlanTest.{PlanTest}
use Rattle.ct_history.specs.declared.plan.PlanParts.{PlanParts}
use Rattle.ct_history.specs.declared.history.Entry.{Entry}
use Rattle.ct_history.specs.declared.history.Entry.TheVariants.{Start, End, Settle, Stop}
use Rattle.ct_history.specs.Plan.{test_at}
use Rattle.ct_history.specs.History.{Running, has_stop, is_busy_in, holds_start, open_starts, processors_of, used_processors, used_slots}
use Rattle.ct_history.specs.Verdicts.{are_all_final, is_failing_in, is_final_in, is_passed_verdict, verdict_at, verdict_in, verdict_of_test}
use Rattle.ct_history.specs.Rules.{exclude, first_unpassed, follows_finals, has_processors, has_room, is_excluded, is_pending, is_placed, is_ready, may_start, settle_cause}
use Rattle.ct_history.specs.Legal.{IsComplete, are_allowed_behind, has_failing, is_allowed, is_legal, is_stop_due, settles, starts, without_last}
use Rattle.ct_journal.specs.RecordPlan.{without_order, without_rank}

mapped_choice : (b : Bool) (x y : Option PlanTest) → cond b (option_map without_rank x) (option_map without_rank y) ≡ option_map without_rank (cond b x y)
mapped_choice true x y = refl
mapped_choice false x y = refl

test_unranked : (tests : List PlanTest) (number : ℕ) → test_at (map without_rank tests) number ≡ option_map without_rank (test_at tests number)
test_unranked [] number = refl
test_unranked (t ∷ ts) number =
    ap (cond (t.number == number) (Some (without_rank t))) (test_unranked ts number) ∙ mapped_choice (t.number == number) (Some t) (test_at ts number)

any_unranked : (test : PlanTest → Bool) (tests : List PlanTest) → ((t : PlanTest) → test (without_rank t) ≡ test t) → list_any test (map without_rank tests) ≡ list_any test tests
any_unranked test [] same = refl
any_unranked test (t ∷ ts) same = rw (same t, any_unranked test ts same) refl

all_unranked : (test : PlanTest → Bool) (tests : List PlanTest) → ((t : PlanTest) → test (without_rank t) ≡ test t) → list_all test (map without_rank tests) ≡ list_all test tests
all_unranked test [] same = refl
all_unranked test (t ∷ ts) same = rw (same t, all_unranked test ts same) refl

module _ (plan : PlanParts) where
  found : (number : ℕ) → test_at (without_order plan).tests number ≡ option_map without_rank (test_at plan.tests number)
  found number = test_unranked plan.tests number

  verdict_there : (entries : List Entry) (test : Option PlanTest) → verdict_at (without_order plan) entries (option_map without_rank test) ≡ verdict_at plan entries test
  verdict_there entries None = refl
  verdict_there entries (Some t) = refl

  verdict_alike : (entries : List Entry) → verdict_of_test (without_order plan) entries ≡ verdict_of_test plan entries
  verdict_alike entries = fun_ext λ number.
      ap (verdict_at (without_order plan) entries) (found number) ∙ verdict_there entries (test_at plan.tests number)

  follows_alike : (t : PlanTest) (entries : List Entry) → follows_finals (without_order plan) (without_rank t) entries ≡ follows_finals plan t entries
  follows_alike t entries = ap (λ (verdict : ℕ → Option Verdict). list_all (λ j. is_some (verdict j)) t.before) (verdict_alike entries)

  unpassed_alike : (t : PlanTest) (entries : List Entry) → first_unpassed (without_order plan) (without_rank t) entries ≡ first_unpassed plan t entries
  unpassed_alike t entries = ap (λ (verdict : ℕ → Option Verdict). find (λ s. not (is_passed_verdict (verdict s))) t.setups) (verdict_alike entries)

  ready_alike : (t : PlanTest) (entries : List Entry) → is_ready (without_order plan) (without_rank t) entries ≡ is_ready plan t entries
  ready_alike t entries =
      ap (λ (b : Bool). b && is_none (first_unpassed (without_order plan) (without_rank t) entries) && is_none t.fixed) (follows_alike t entries)
      ∙ ap (λ (unpassed : Option ℕ). follows_finals plan t entries && is_none unpassed && is_none t.fixed) (unpassed_alike t entries)

  processors_there : (test : Option PlanTest) → processors_of (option_map without_rank test) ≡ processors_of test
  processors_there None = refl
  processors_there (Some t) = refl

  used_alike : (entries : List Entry) → used_processors (without_order plan).tests entries ≡ used_processors plan.tests entries
  used_alike entries =
      ap (λ (of : ℕ → ℕ). sum_by (λ (r : Running). of r.test) (open_starts entries))
      (fun_ext λ number. ap processors_of (found number) ∙ processors_there (test_at plan.tests number))

  exclude_there : (t : PlanTest) (other : Option PlanTest) → exclude (Some (without_rank t)) (option_map without_rank other) ≡ exclude (Some t) other
  unfolding exclude
  exclude_there t None = refl
  exclude_there t (Some other) = refl

  excluded_alike : (t : PlanTest) (entries : List Entry) → is_excluded (without_order plan).tests (without_rank t) entries ≡ is_excluded plan.tests t entries
  excluded_alike t entries =
      ap (λ (out : ℕ → Bool). list_any (λ (r : Running). out r.test) (open_starts entries))
      (fun_ext λ number. ap (exclude (Some (without_rank t))) (found number) ∙ exclude_there t (test_at plan.tests number))

  room_alike : (t : PlanTest) (entries : List Entry) → has_room (without_order plan) (without_rank t) entries ≡ has_room plan t entries
  room_alike t entries =
      ap (λ (used : ℕ). nat_le (t.processors + used) plan.level && not (is_excluded (without_order plan).tests (without_rank t) entries)) (used_alike entries)
      ∙ ap (λ (out : Bool). has_processors plan t entries && not out) (excluded_alike t entries)

  may_alike : (t : PlanTest) (placement : Option Placement) (entries : List Entry) → may_start (without_order plan) (without_rank t) placement entries ≡ may_start plan t placement entries
  may_alike t placement entries =
      ap (λ (ready : Bool). not (has_stop entries) && is_pending plan t entries && ready && has_room (without_order plan) (without_rank t) entries && is_placed plan.resources t.needs (used_slots entries) placement) (ready_alike t entries)
      ∙ ap (λ (room : Bool). not (has_stop entries) && is_pending plan t entries && is_ready plan t entries && room && is_placed plan.resources t.needs (used_slots entries) placement) (room_alike t entries)

  starts_there : (front : List Entry) (attempt : ℕ) (placement : Option Placement) (test : Option PlanTest) → starts (without_order plan) front attempt placement (option_map without_rank test) ≡ starts plan front attempt placement test
  starts_there front attempt placement None = refl
  starts_there front attempt placement (Some t) = rw (may_alike t placement front) refl

  cause_alike : (t : PlanTest) (entries : List Entry) → settle_cause (without_order plan) (without_rank t) entries ≡ settle_cause plan t entries
  cause_alike t entries =
      rw (follows_alike t entries, unpassed_alike t entries) refl

  settles_there : (front : List Entry) (cause : Cause) (test : Option PlanTest) → settles (without_order plan) front cause (option_map without_rank test) ≡ settles plan front cause test
  settles_there front cause None = refl
  settles_there front cause (Some t) = rw (cause_alike t front) refl

  failing_alike : (entries : List Entry) → has_failing (without_order plan) entries ≡ has_failing plan entries
  failing_alike entries = any_unranked (λ t. is_failing_in (verdict_in plan.repeat t entries)) plan.tests (λ t. refl)

  due_alike : (entries : List Entry) → is_stop_due (without_order plan) entries ≡ is_stop_due plan entries
  due_alike entries =
      ap (λ (b : Bool). plan.stop_on_failure && (b && not (has_failing (without_order plan) (without_last entries)))) (failing_alike entries)
      ∙ ap (λ (b : Bool). plan.stop_on_failure && (has_failing plan entries && not b)) (failing_alike (without_last entries))

  allowed_alike : (front : List Entry) (e : Entry) → is_allowed (without_order plan) front e ≡ is_allowed plan front e
  allowed_alike front (Start t a w p) =
      ap (λ (due : Bool). not due && starts (without_order plan) front a p (test_at (without_order plan).tests t) && not (is_busy_in w front)) (due_alike front)
      ∙ ap (λ (may : Bool). not (is_stop_due plan front) && may && not (is_busy_in w front)) (ap (starts (without_order plan) front a p) (found t) ∙ starts_there front a p (test_at plan.tests t))
  allowed_alike front (End t a w seen) = ap (λ (due : Bool). not due && holds_start t a w front) (due_alike front)
  allowed_alike front (Settle t cause) =
      ap (λ (due : Bool). not due && settles (without_order plan) front cause (test_at (without_order plan).tests t)) (due_alike front)
      ∙ ap (λ (may : Bool). not (is_stop_due plan front) && may) (ap (settles (without_order plan) front cause) (found t) ∙ settles_there front cause (test_at plan.tests t))
  allowed_alike front Stop = due_alike front

  behind_alike : (front entries : List Entry) → are_allowed_behind (without_order plan) front entries ≡ are_allowed_behind plan front entries
  behind_alike front [] = refl
  behind_alike front (e ∷ es) =
      ap (λ (b : Bool). b && are_allowed_behind (without_order plan) (front ++ e ∷ []) es) (allowed_alike front e)
      ∙ ap (λ (b : Bool). is_allowed plan front e && b) (behind_alike (front ++ e ∷ []) es)

  legal_alike : (entries : List Entry) → is_legal (without_order plan) entries ≡ is_legal plan entries
  legal_alike entries =
      ap (λ (b : Bool). b && not (is_stop_due (without_order plan) entries)) (behind_alike [] entries)
      ∙ ap (λ (b : Bool). are_allowed_behind plan [] entries && not b) (due_alike entries)

  final_alike : (entries : List Entry) → are_all_final (without_order plan) entries ≡ are_all_final plan entries
  final_alike entries = all_unranked (λ t. is_final_in plan.repeat t entries) plan.tests (λ t. refl)

-- a history is legal for both of two plans that differ in the order of their starts, or for none
pub legal_same : (one other : PlanParts) (entries : List Entry) → without_order one ≡ without_order other → is_legal one entries ≡ is_legal other entries
legal_same one other entries same = sym (legal_alike one entries) ∙ ap (λ (plan : PlanParts). is_legal plan entries) same ∙ legal_alike other entries

-- a history that is complete for one of them is complete for the other one
pub complete_same : (one other : PlanParts) (entries : List Entry) → without_order one ≡ without_order other → IsComplete one entries → IsComplete other entries
complete_same one other entries same complete = record {
  final = sym (final_alike other entries) ∙ ap (λ (plan : PlanParts). are_all_final plan entries) (sym same) ∙ final_alike one entries ∙ complete.final;
  closed = complete.closed;
}
