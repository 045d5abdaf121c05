-- In a legal history each End has its bar, since a Start of its test stands in front of it.
use Rattle.std.proofs.Common.{◌≡◌, ◌∙◌, sym, ap, ℕ, ◌+◌, List, [], ◌∷◌, ◌++◌, length, refl, Bool, true, false, inl, inr}
use Rattle.std.specs.Prelude.{Option, Some, None, cond, filter_map, map, not, option_map, ◌==◌, ◌||◌}
use Rattle.std.specs.Option.{option_or}
use Rattle.std.specs.List.{cons_option, list_any}
use Rattle.std.proofs.lemmas.Bool.{and_parts, cases_Bool}
use Rattle.ct_history.specs.declared.plan.PlanParts.{PlanParts}
use Rattle.ct_history.specs.declared.history.Entry.{Entry}
use Rattle.ct_history.specs.declared.history.Entry.TheVariants.{Start, End, Settle, Stop}
use Rattle.ct_history.specs.History.{Running, holds_start, is_end_of, is_open_in, open_starts}
use Rattle.ct_history.specs.Legal.{are_allowed_behind, is_allowed, is_legal, is_stop_due}
use Rattle.ct_history.proofs.FinalLemmas.{open_by_hold}
use Rattle.ct_history.proofs.LegalLemmas.{legal_allowed}
use Rattle.ct_verdict.specs.declared.attempt.Seen.{Seen}
use Rattle.ct_explain.specs.declared.bars.Bar.{Bar}
use Rattle.ct_explain.specs.Bars.{Attempt, ShowEachEnd, attempt_ended, bar_attempt, bar_by, bar_with, bars, bars_behind, is_start_of, last_place}

placed-later : (o mine : Option ℕ) → (p : ℕ) × (o ≡ Some p) → (q : ℕ) × (option_or (option_map (λ (n : ℕ). n + 1) o) mine ≡ Some q)
placed-later o mine (p, is) = (p + 1, ap (λ (x : Option ℕ). option_or (option_map (λ (n : ℕ). n + 1) x) mine) is)

placed-here : (o : Option ℕ) → (q : ℕ) × (option_or (option_map (λ (n : ℕ). n + 1) o) (Some 0) ≡ Some q)
placed-here None = (0, refl)
placed-here (Some p) = (p + 1, refl)

open-behind : (test : ℕ) (r : Running) (b : Bool) (rs : List Running) → (r.test == test) ≡ false → list_any (λ (q : Running). q.test == test) (cons_option (cond b None (Some r)) rs) ≡ true → list_any (λ (q : Running). q.test == test) rs ≡ true
open-behind test r true rs other any = any
open-behind test r false rs other any = sym (ap (λ (c : Bool). c || list_any (λ (q : Running). q.test == test) rs) other) ∙ any

-- where a test is open, it has a last Start
pub start-placed : (test : ℕ) (es : List Entry) → is_open_in test es ≡ true → (p : ℕ) × (last_place (is_start_of test) es ≡ Some p)
start-placed test [] any = cc
start-placed test (Start t a w p ∷ es) any = elim (cases_Bool (t == test)) [
  | inl here ↦
      let found = placed-here (last_place (is_start_of test) es) in
      (found.0, ap (λ (b : Bool). option_or (option_map (λ (n : ℕ). n + 1) (last_place (is_start_of test) es)) (cond b (Some 0) None)) here ∙ found.1)
  | inr other ↦
      placed-later (last_place (is_start_of test) es) (cond (t == test) (Some 0) None)
      (start-placed test es (open-behind test (record { test = t; attempt = a; worker = w; placement = p }) (list_any (is_end_of t a) es) (open_starts es) other any))
]
start-placed test (End t a w seen ∷ es) any = placed-later (last_place (is_start_of test) es) None (start-placed test es any)
start-placed test (Settle t cause ∷ es) any = placed-later (last_place (is_start_of test) es) None (start-placed test es any)
start-placed test (Stop ∷ es) any = placed-later (last_place (is_start_of test) es) None (start-placed test es any)

shown-by : (times : List ℕ) (t a w : ℕ) (seen : Seen) (front : List Entry) (more : List Bar) → (p : ℕ) × (last_place (is_start_of t) front ≡ Some p) → map bar_attempt (cons_option (bar_by times front (End t a w seen)) more) ≡ record { test = t; attempt = a; worker = w } ∷ map bar_attempt more
shown-by times t a w seen front more (p, is) =
    ap (λ (o : Option ℕ). map bar_attempt (cons_option (bar_with times (length front) (λ (test : ℕ). o) (End t a w seen)) more)) is

ends-shown : (plan : PlanParts) (times : List ℕ) (front es : List Entry) → are_allowed_behind plan front es ≡ true → map bar_attempt (bars_behind times front es) ≡ filter_map attempt_ended es
ends-shown plan times front [] allowed = refl
ends-shown plan times front (Start t a w p ∷ es) allowed =
    let e = Start t a w p in
    ends-shown plan times (front ++ e ∷ []) es (and_parts (is_allowed plan front e) (are_allowed_behind plan (front ++ e ∷ []) es) allowed).1
ends-shown plan times front (Settle t cause ∷ es) allowed =
    let e = Settle t cause in
    ends-shown plan times (front ++ e ∷ []) es (and_parts (is_allowed plan front e) (are_allowed_behind plan (front ++ e ∷ []) es) allowed).1
ends-shown plan times front (Stop ∷ es) allowed =
    ends-shown plan times (front ++ Stop ∷ []) es (and_parts (is_allowed plan front Stop) (are_allowed_behind plan (front ++ Stop ∷ []) es) allowed).1
ends-shown plan times front (End t a w seen ∷ es) allowed =
    let e = End t a w seen in
    let rest = front ++ e ∷ [] in
    let both = and_parts (is_allowed plan front e) (are_allowed_behind plan rest es) allowed in
    let held : holds_start t a w front ≡ true = (and_parts (not (is_stop_due plan front)) (holds_start t a w front) both.0).1 in
    let found = start-placed t front (open_by_hold t a w (open_starts front) held) in
    let attempt : Attempt = record { test = t; attempt = a; worker = w } in
    shown-by times t a w seen front (bars_behind times rest es) found
    ∙ ap (λ (xs : List Attempt). attempt ∷ xs) (ends-shown plan times rest es both.1)

-- each End of a legal history has one bar, in order
pub shows-each-end : (plan : PlanParts) (entries : List Entry) (times : List ℕ) → is_legal plan entries ≡ true → ShowEachEnd entries (bars entries times)
shows-each-end plan entries times legal = ends-shown plan times [] entries (legal_allowed plan entries legal)
