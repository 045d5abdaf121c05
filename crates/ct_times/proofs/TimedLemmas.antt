-- The least times of a history, with one entry more.
use Rattle.std.proofs.Common.{◌≡◌, ◌∙◌, sym, ap, subst, Bool, true, false, ℕ, ◌≤◌, List, [], ◌∷◌, ◌++◌, map, arith, append_assoc}
use Rattle.std.specs.Prelude.{Option, Some, None, unwrap_or, ◌==◌, cond}
use Rattle.std.specs.List.{cons_option}
use Rattle.std.proofs.lemmas.List.{append-nil, map-append}
use Rattle.std.proofs.lemmas.List.Elements.{filter_map-append}
use Rattle.ct_history.specs.declared.history.Entry.{Entry}
use Rattle.ct_history.specs.declared.history.Entry.TheVariants.{Start, End, Settle, Stop}
use Rattle.ct_history.specs.Verdicts.{last_of_list}
use Rattle.ct_history.proofs.AttemptLemmas.{last_or-snoc}
use Rattle.ct_times.specs.Times.{Timed, last_moment, next_timed, start_at, started, start_moments, timed, timed_behind}

timed_behind-snoc : (front : List Timed) (es : List Entry) (e : Entry) → timed_behind front (es ++ e ∷ []) ≡ timed_behind front es ++ next_timed (front ++ timed_behind front es) e ∷ []
timed_behind-snoc front [] e = ap (λ (f : List Timed). next_timed f e ∷ []) (sym (append-nil front))
timed_behind-snoc front (x ∷ xs) e =
    let n = next_timed front x in
    let rest = timed_behind (front ++ n ∷ []) xs in
    ap (λ (l : List Timed). n ∷ l) (timed_behind-snoc (front ++ n ∷ []) xs e ∙ ap (λ (f : List Timed). rest ++ next_timed f e ∷ []) (append_assoc front (n ∷ []) rest))

-- an entry more stands behind the others, at its least moment
pub timed-snoc : (es : List Entry) (e : Entry) → timed (es ++ e ∷ []) ≡ timed es ++ next_timed (timed es) e ∷ []
timed-snoc es e = timed_behind-snoc [] es e

-- the last moment is that of the last entry
pub last-snoc : (xs : List Timed) (x : Timed) → last_moment (xs ++ x ∷ []) ≡ x.moment
last-snoc xs x =
    ap (λ (ms : List ℕ). unwrap_or (last_of_list ms) 0) (map-append (λ (y : Timed). y.moment) xs (x ∷ []))
    ∙ ap (λ (o : Option ℕ). unwrap_or o 0) (last_or-snoc None (map (λ (y : Timed). y.moment) xs) x.moment)

started_option : (ms : List ℕ) (o : Option ℕ) → unwrap_or (last_of_list (ms ++ cons_option o [])) 0 ≡ unwrap_or o (unwrap_or (last_of_list ms) 0)
started_option ms None = ap (λ (l : List ℕ). unwrap_or (last_of_list l) 0) (append-nil ms)
started_option ms (Some m) = ap (λ (o : Option ℕ). unwrap_or o 0) (last_or-snoc None ms m)

-- the last start of a test is that of the last entry, where that starts the test, else as before
pub started-snoc : (test : ℕ) (xs : List Timed) (x : Timed) → started test (xs ++ x ∷ []) ≡ unwrap_or (start_at test x.moment x.entry) (started test xs)
started-snoc test xs x =
    ap (λ (ms : List ℕ). unwrap_or (last_of_list ms) 0) (filter_map-append (λ (y : Timed). start_at test y.moment y.entry) xs (x ∷ []))
    ∙ started_option (start_moments test xs) (start_at test x.moment x.entry)

-- what holds of no entries, and stays with each entry at its least moment, holds of each history
module _ (P : List Timed → Type 0) (step : (front : List Timed) (e : Entry) → P front → P (front ++ next_timed front e ∷ [])) where
  timed_holds : (front : List Timed) (es : List Entry) → P front → P (front ++ timed_behind front es)
  timed_holds front [] holds = subst P (sym (append-nil front)) holds
  timed_holds front (e ∷ es) holds =
      let n = next_timed front e in
      subst P (append_assoc front (n ∷ []) (timed_behind (front ++ n ∷ []) es)) (timed_holds (front ++ n ∷ []) es (step front e holds))

  pub timed_induction : P [] → (es : List Entry) → P (timed es)
  timed_induction first es = timed_holds [] es first

pub start_most : (test m s : ℕ) (e : Entry) → s ≤ m → unwrap_or (start_at test m e) s ≤ m
start_most test m s (Start t a w p) le = by_test (t == test)
  where
    by_test : (b : Bool) → unwrap_or (cond b (Some m) None) s ≤ m
    by_test true = omega arith
    by_test false = le
start_most test m s (End t a w seen) le = le
start_most test m s (Settle t c) le = le
start_most test m s Stop le = le

-- no test starts behind the last moment
pub started_most : (es : List Entry) (test : ℕ) → started test (timed es) ≤ last_moment (timed es)
started_most = timed_induction (λ front. (test : ℕ) → started test front ≤ last_moment front) step (λ test. omega arith)
  where
    step : (front : List Timed) (e : Entry) → ((test : ℕ) → started test front ≤ last_moment front) → (test : ℕ) → started test (front ++ next_timed front e ∷ []) ≤ last_moment (front ++ next_timed front e ∷ [])
    step front e holds test =
        let n = next_timed front e in
        let later : started test front ≤ n.moment = omega (arith, holds test) in
        omega (arith, started-snoc test front n, last-snoc front n, start_most test n.moment (started test front) e later)
