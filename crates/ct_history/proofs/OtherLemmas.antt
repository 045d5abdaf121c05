-- An entry leaves the verdicts of the tests that it is not about.
use Rattle.std.proofs.Common.{◌≡◌, ◌∙◌, sym, ap, ℕ, Bool, true, false, not, ◌&&◌, List, [], ◌∷◌, ◌++◌, filter, refl, cond, inl, inr, Some, None}
use Rattle.std.specs.Prelude.{◌==◌, ◌||◌, if◌then◌else◌}
use Rattle.std.specs.List.{list_any}
use Rattle.std.proofs.lemmas.Bool.{cases_Bool, false_from_ne_true, true≢false}
use Rattle.std.proofs.lemmas.List.{append-nil}
use Rattle.std.proofs.lemmas.List.Folds.{list_any-append}
use Rattle.std.proofs.Math.Bool.{or-false}
use Rattle.ct_verdict.specs.declared.verdict.Verdict.TheVariants.{Disabled}
use Rattle.ct_verdict.specs.declared.rules.Rules.{Rules}
use Rattle.ct_verdict.specs.declared.repeat.Repeat.{Repeat}
use Rattle.ct_verdict.specs.Verdict.{verdict_of}
use Rattle.ct_history.specs.declared.plan.PlanTest.{PlanTest}
use Rattle.ct_history.specs.declared.history.Entry.{Entry}
use Rattle.ct_history.specs.declared.history.Entry.TheVariants.{Start, End, Settle, Stop}
use Rattle.ct_history.specs.History.{Running, attempt_by, attempts_of, is_open_in, open_starts, settled_by}
use Rattle.ct_history.specs.Verdicts.{is_over, last_of_list, settled_cause, settled_or, verdict_in}
use Rattle.ct_history.proofs.BoolLemmas.{eq_one}
use Rattle.ct_history.proofs.OpenLemmas.{is_of, open_starts-end, open_starts-snoc}
use Rattle.ct_history.proofs.FinalLemmas.{settled-snoc, attempts-snoc}

-- the entry starts, ends or settles this test
abbrev pub is_about : ℕ → Entry → Bool
is_about n (Start t a w p) = t == n
is_about n (End t a w s) = t == n
is_about n (Settle t c) = t == n
is_about n Stop = false

settled_by_other : (n : ℕ) (e : Entry) → is_about n e ≡ false → settled_by n e ≡ None
settled_by_other n (Start t a w p) other = refl
settled_by_other n (End t a w s) other = refl
settled_by_other n (Settle t c) other = ap (λ (b : Bool). if b then Some c else None) other
settled_by_other n Stop other = refl

attempt_by_other : (n : ℕ) (rules : Rules) (e : Entry) → is_about n e ≡ false → attempt_by n rules e ≡ None
attempt_by_other n rules (Start t a w p) other = refl
attempt_by_other n rules (End t a w s) other = ap (λ (b : Bool). if b then Some (verdict_of rules s) else None) other
attempt_by_other n rules (Settle t c) other = refl
attempt_by_other n rules Stop other = refl

pub settled_other : (n : ℕ) (es : List Entry) (e : Entry) → is_about n e ≡ false → settled_cause n (es ++ e ∷ []) ≡ settled_cause n es
settled_other n es e other = settled-snoc n es e (settled_by_other n e other)

pub attempts_other : (n : ℕ) (rules : Rules) (es : List Entry) (e : Entry) → is_about n e ≡ false → attempts_of n rules (es ++ e ∷ []) ≡ attempts_of n rules es
attempts_other n rules es e other = attempts-snoc n rules es e (attempt_by_other n rules e other)

-- taking away what does not pass the test leaves whether some element passes it
any_filter : (p q : Running → Bool) (rs : List Running) → ((r : Running) → p r ≡ true → q r ≡ true) → list_any p (filter q rs) ≡ list_any p rs
any_filter p q [] keeps = refl
any_filter p q (r ∷ rs) keeps = elim (cases_Bool (q r)) [
  | inl kept ↦ ap (λ (b : Bool). list_any p (cond b (r ∷ filter q rs) (filter q rs))) kept ∙ ap (λ (b : Bool). p r || b) (any_filter p q rs keeps)
  | inr gone ↦
      ap (λ (b : Bool). list_any p (cond b (r ∷ filter q rs) (filter q rs))) gone
      ∙ any_filter p q rs keeps
      ∙ sym (ap (λ (b : Bool). b || list_any p rs) (false_from_ne_true (p r) (λ is. true≢false (sym (keeps r is) ∙ gone))))
]

open_other : (n : ℕ) (es : List Entry) (e : Entry) → is_about n e ≡ false → is_open_in n (es ++ e ∷ []) ≡ is_open_in n es
open_other n es (Start m a w p) other =
    ap (λ (rs : List Running). list_any (λ (r : Running). r.test == n) rs) (open_starts-snoc es (Start m a w p) refl)
    ∙ list_any-append (λ (r : Running). r.test == n) (open_starts es) (record { test = m; attempt = a; worker = w; placement = p } ∷ [])
    ∙ ap (λ (b : Bool). is_open_in n es || (b || false)) other
    ∙ or-false (is_open_in n es)
open_other n es (End m a w s) other =
    ap (λ (rs : List Running). list_any (λ (r : Running). r.test == n) rs) (open_starts-end es m a w s)
    ∙ any_filter (λ (r : Running). r.test == n) (λ r. not (is_of m a r)) (open_starts es) (λ r is. ap (λ (b : Bool). not (b && r.attempt == a)) (eq_one n m r.test other is))
open_other n es (Settle m c) other =
    ap (λ (rs : List Running). list_any (λ (r : Running). r.test == n) rs) (open_starts-snoc es (Settle m c) refl ∙ append-nil (open_starts es))
open_other n es Stop other =
    ap (λ (rs : List Running). list_any (λ (r : Running). r.test == n) rs) (open_starts-snoc es Stop refl ∙ append-nil (open_starts es))

-- the verdict of a test that the entry is not about
pub verdict_in_other : (repeat : Repeat) (t : PlanTest) (es : List Entry) (e : Entry) → is_about t.number e ≡ false → verdict_in repeat t (es ++ e ∷ []) ≡ verdict_in repeat t es
verdict_in_other repeat t es e other =
    λ i. if t.disabled then Some Disabled else settled_or (settled_other t.number es e other i)
    (if not (open_other t.number es e other i) && is_over repeat (attempts_other t.number t.rules es e other i) then last_of_list (attempts_other t.number t.rules es e other i) else None)
