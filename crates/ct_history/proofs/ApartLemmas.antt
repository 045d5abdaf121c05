-- The open starts of an allowed history: no two are of one test, and no two of one worker.
use Rattle.std.proofs.Common.{◌≡◌, ◌≢◌, ◌∙◌, sym, subst, Bool, true, false, ℕ, suc, List, [], ◌∷◌, ◌++◌, get_or, refl, arith, append_assoc}
use Rattle.std.specs.Prelude.{AllPairs, filter, not, ◌&&◌, ◌==◌}
use Rattle.std.specs.List.{list_any}
use Rattle.std.proofs.lemmas.Bool.{and_parts, not-true, true≢false, eq-eqb}
use Rattle.std.proofs.lemmas.Bool.Decides.{nat_tests}
use Rattle.std.proofs.lemmas.List.{append-nil}
use Rattle.std.proofs.lemmas.List.Folds.{list_any_at, list_any_none}
use Rattle.std.proofs.lemmas.List.Kept.{AllPairs-filter}
use Rattle.std.proofs.lemmas.List.Quantifiers.{all_pairs_push}
use Rattle.ct_history.specs.declared.plan.PlanTest.{PlanTest}
use Rattle.ct_history.specs.declared.plan.PlanParts.{PlanParts}
use Rattle.ct_history.specs.declared.history.Entry.{Entry}
use Rattle.ct_history.specs.declared.history.Entry.TheVariants.{Start, End, Settle, Stop}
use Rattle.ct_history.specs.Plan.{test_at}
use Rattle.ct_history.specs.History.{Running, is_busy_in, open_starts}
use Rattle.ct_history.specs.Legal.{are_allowed_behind, is_allowed, is_allowed_so_far, is_stop_due, starts}
use Rattle.ct_history.proofs.MayLemmas.{pending-parts, starts-parts}
use Rattle.ct_history.proofs.OpenLemmas.{is_of, open_starts-end, open_starts-snoc}
use Rattle.ct_history.proofs.PlanLemmas.{find_passes}

-- what holds at first, and stays with each allowed entry, holds of each allowed history
module _ (plan : PlanParts) (P : List Entry → Type 0) (step : (es : List Entry) (e : Entry) → is_allowed plan es e ≡ true → P es → P (es ++ e ∷ [])) where
  holds_behind : (front es : List Entry) → are_allowed_behind plan front es ≡ true → P front → P (front ++ es)
  holds_behind front [] allowed holds = subst P (sym (append-nil front)) holds
  holds_behind front (e ∷ es) allowed holds =
      let both = and_parts (is_allowed plan front e) (are_allowed_behind plan (front ++ e ∷ []) es) allowed in
      subst P (append_assoc front (e ∷ []) es) (holds_behind (front ++ e ∷ []) es both.1 (step front e both.0 holds))

  pub allowed_induction : P [] → (es : List Entry) → is_allowed_so_far plan es ≡ true → P es
  allowed_induction first es so_far = holds_behind [] es so_far first

-- no two of these starts have the same number
abbrev pub Differ : (Running → ℕ) → List Running → Type 0
Differ key rs = AllPairs (λ (x y : Running). key x ≢ key y) rs

pub differ-head : (key : Running → ℕ) (r : Running) (rs : List Running) → Differ key (r ∷ rs) → list_any (λ (q : Running). key q == key r) rs ≡ false
differ-head key r rs all =
    list_any_none (λ (q : Running). key q == key r) rs (λ k d lt. unlike (key r) (key (get_or rs k d)) (all 0 (suc k) d (omega arith) (omega (arith, lt))))
  where
    unlike : (m n : ℕ) → m ≢ n → (n == m) ≡ false
    unlike m n apart = grind (arith, nat_tests, apart)

pub differ-tail : (key : Running → ℕ) (r : Running) (rs : List Running) → Differ key (r ∷ rs) → Differ key rs
differ-tail key r rs all = λ i j d less lt. all (suc i) (suc j) d (omega (arith, less)) (omega (arith, lt))

differ-snoc : (key : Running → ℕ) (rs : List Running) (r : Running) → Differ key rs → list_any (λ (q : Running). key q == key r) rs ≡ false → Differ key (rs ++ r ∷ [])
differ-snoc key rs r all none =
    all_pairs_push (λ (x y : Running). key x ≢ key y) rs r all (λ k d lt same. true≢false (sym (list_any_at (λ (q : Running). key q == key r) rs k d lt (eq-eqb (key (get_or rs k d)) (key r) same)) ∙ none))

differ-filter : (key : Running → ℕ) (p : Running → Bool) (rs : List Running) → Differ key rs → Differ key (filter p rs)
differ-filter key p rs all = AllPairs-filter (λ (x y : Running). key x ≢ key y) p rs all

-- no two of these starts are of one test, and no two of one worker
pub record AreApart (rs : List Running) : Type 0 where
  pub tests : Differ (λ r. r.test) rs
  pub workers : Differ (λ r. r.worker) rs

apart-snoc : (plan : PlanParts) (es : List Entry) (e : Entry) → is_allowed plan es e ≡ true → AreApart (open_starts es) → AreApart (open_starts (es ++ e ∷ []))
apart-snoc plan es (Start n a w p) allowed apart =
    let most = and_parts (not (is_stop_due plan es) && starts plan es a p (test_at plan.tests n)) (not (is_busy_in w es)) allowed in
    let both = and_parts (not (is_stop_due plan es)) (starts plan es a p (test_at plan.tests n)) most.0 in
    let begins = starts-parts plan es a p (test_at plan.tests n) both.1 in
    let closed = (pending-parts plan begins.test es begins.may.pending).closed in
    let passes = find_passes (λ (t : PlanTest). t.number == n) plan.tests begins.test begins.found in
    let number : begins.test.number ≡ n = grind (arith, nat_tests) in
    let run : Running = record { test = n; attempt = a; worker = w; placement = p } in
    subst AreApart (sym (open_starts-snoc es (Start n a w p) refl)) (record {
      tests = differ-snoc (λ r. r.test) (open_starts es) run apart.tests (subst (λ (k : ℕ). list_any (λ (r : Running). r.test == k) (open_starts es) ≡ false) number closed);
      workers = differ-snoc (λ r. r.worker) (open_starts es) run apart.workers (not-true (is_busy_in w es) most.1);
    })
apart-snoc plan es (End t a w s) allowed apart =
    subst AreApart (sym (open_starts-end es t a w s)) (record {
      tests = differ-filter (λ r. r.test) (λ r. not (is_of t a r)) (open_starts es) apart.tests;
      workers = differ-filter (λ r. r.worker) (λ r. not (is_of t a r)) (open_starts es) apart.workers;
    })
apart-snoc plan es (Settle t c) allowed apart = subst AreApart (sym (open_starts-snoc es (Settle t c) refl ∙ append-nil (open_starts es))) apart
apart-snoc plan es Stop allowed apart = subst AreApart (sym (open_starts-snoc es Stop refl ∙ append-nil (open_starts es))) apart

none_apart : AreApart []
none_apart = record {
  tests = λ i j d less lt. absurd (omega (arith, lt));
  workers = λ i j d less lt. absurd (omega (arith, lt));
}

-- no two open starts of an allowed history are of one test, and no two of one worker
pub starts_apart : (plan : PlanParts) (es : List Entry) → is_allowed_so_far plan es ≡ true → AreApart (open_starts es)
starts_apart plan es so_far =
    allowed_induction plan (λ (xs : List Entry). AreApart (open_starts xs)) (λ xs e allowed apart. apart-snoc plan xs e allowed apart) none_apart es so_far
