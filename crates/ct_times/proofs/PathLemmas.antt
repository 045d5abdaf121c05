-- A path of predecessors is a capacity: no two of its tests are open together.
use Rattle.std.proofs.Common.{◌≡◌, ◌∙◌, sym, ap, subst, Bool, true, false, ℕ, ◌<◌, ◌≤◌, List, [], ◌∷◌, ◌++◌, get_or, length, refl, arith, inl, inr}
use Rattle.std.specs.Prelude.{◌≢◌, ◌⊎◌, Option, Some, None, is_some, is_none, ◌==◌, ◌&&◌, ◌||◌, not, cond, filter, if◌then◌else◌}
use Rattle.std.specs.List.{list_all, list_any}
use Rattle.std.proofs.lemmas.Bool.{and_parts, and_from, cases_Bool, true≢false, or_parts, not-true}
use Rattle.std.proofs.lemmas.Bool.Decides.{nat_tests}
use Rattle.std.proofs.lemmas.List.Folds.{list_any-append, list_any_at}
use Rattle.ct_alloc.specs.declared.placement.Placement.{Placement}
use Rattle.ct_verdict.specs.declared.attempt.Seen.{Seen}
use Rattle.ct_verdict.specs.declared.verdict.Cause.{Cause}
use Rattle.ct_verdict.specs.declared.verdict.Cause.TheVariants.{Stopped}
use Rattle.ct_verdict.specs.declared.verdict.Verdict.{Verdict}
use Rattle.ct_verdict.specs.declared.verdict.Verdict.TheVariants.{Disabled}
use Rattle.ct_history.specs.declared.plan.PlanTest.{PlanTest}
use Rattle.ct_history.specs.declared.plan.PlanParts.{PlanParts}
use Rattle.ct_history.specs.declared.history.Entry.{Entry}
use Rattle.ct_history.specs.declared.history.Entry.TheVariants.{Start, End, Settle, Stop}
use Rattle.ct_history.specs.Plan.{IsSound, has_sound_links, is_before_rank, test_at}
use Rattle.ct_history.specs.History.{Running, has_stop, holds_start, is_busy_in, is_open_in, is_stop, open_starts}
use Rattle.ct_history.specs.Verdicts.{attempted_verdict, is_final_in, is_over, settled_cause, settled_or, verdict_at, verdict_in, verdict_of_test}
use Rattle.ct_history.specs.Rules.{cause_behind, first_unpassed, follows_finals, is_pending}
use Rattle.ct_history.specs.Legal.{is_allowed, is_allowed_so_far, is_stop_due, same_cause, settles, starts}
use Rattle.ct_history.proofs.ApartLemmas.{Differ, allowed_induction, differ-head, differ-tail, starts_apart}
use Rattle.ct_history.proofs.FinalLemmas.{open_by_hold, start_ends_none, verdict_stays}
use Rattle.ct_history.proofs.LegalLemmas.{allowed-snoc, stop-snoc}
use Rattle.ct_history.proofs.MayLemmas.{no_cause, pending-parts, starts-parts}
use Rattle.ct_history.proofs.OpenLemmas.{is_of, open_starts-end, open_starts-snoc, opens_settle, opens_stop}
use Rattle.ct_history.proofs.OtherLemmas.{is_about, verdict_in_other}
use Rattle.ct_history.proofs.PlanLemmas.{find_passes, found_at}
use Rattle.ct_history.proofs.ProgressLemmas.{all_found}
use Rattle.ct_times.specs.Capacity.{IsCapacity}
use Rattle.ct_times.specs.Amounts.{amount_of, comes_behind, has_number, is_path, path_amount}
use Rattle.ct_times.proofs.AloneLemmas.{capacity_from, other_at}
use Rattle.ct_times.proofs.CapacityLemmas.{none_of, one_most, one_sum}

equal : (m n : ℕ) → (m == n) ≡ true → m ≡ n
equal m n is = grind (arith, nat_tests, is)

self : (n : ℕ) → (n == n) ≡ true
self n = grind (arith, nat_tests)

flipped : (m n : ℕ) → (m == n) ≡ false → (n == m) ≡ false
flipped m n is = grind (arith, nat_tests, is)

none_kept : {A : Type 0} (p q : A → Bool) (xs : List A) → list_any p xs ≡ false → list_any p (filter q xs) ≡ false
none_kept p q [] none = refl
none_kept p q (x ∷ xs) none = by_kept (q x) (or_parts (p x) (list_any p xs) none).0 (none_kept p q xs (or_parts (p x) (list_any p xs) none).1)
  where
    by_kept : (b : Bool) → p x ≡ false → list_any p (filter q xs) ≡ false → list_any p (cond b (x ∷ filter q xs) (filter q xs)) ≡ false
    by_kept true here later = ap (λ (c : Bool). c || list_any p (filter q xs)) here ∙ later
    by_kept false here later = later

any_kept : {A : Type 0} (p q : A → Bool) (xs : List A) → list_any p (filter q xs) ≡ true → list_any p xs ≡ true
any_kept p q xs any = elim (cases_Bool (list_any p xs)) [
  | inl some ↦ some
  | inr none ↦ absurd (true≢false (sym any ∙ none_kept p q xs none))
]

-- a test whose attempt ends is no longer open
gone : (m a w : ℕ) (rs : List Running) → Differ (λ r. r.test) rs → list_any (λ (r : Running). r.test == m && r.attempt == a && r.worker == w) rs ≡ true → list_any (λ (r : Running). r.test == m) (filter (λ r. not (is_of m a r)) rs) ≡ false
gone m a w [] differ held = refl
gone m a w (r ∷ rs) differ held = elim (cases_Bool (is_of m a r)) [
  | inl this ↦
      let same : r.test ≡ m = equal r.test m (and_parts (r.test == m) (r.attempt == a) this).0 in
      let none : list_any (λ (q : Running). q.test == m) rs ≡ false = subst (λ (k : ℕ). list_any (λ (q : Running). q.test == k) rs ≡ false) same (differ-head (λ q. q.test) r rs differ) in
      ap (λ (b : Bool). list_any (λ (q : Running). q.test == m) (cond (not b) (r ∷ filter (λ q. not (is_of m a q)) rs) (filter (λ q. not (is_of m a q)) rs))) this
      ∙ none_kept (λ (q : Running). q.test == m) (λ q. not (is_of m a q)) rs none
  | inr other ↦
      let not_here : (r.test == m && r.attempt == a && r.worker == w) ≡ false = ap (λ (b : Bool). b && r.worker == w) other in
      let later : list_any (λ (q : Running). q.test == m && q.attempt == a && q.worker == w) rs ≡ true = sym (ap (λ (b : Bool). b || list_any (λ (q : Running). q.test == m && q.attempt == a && q.worker == w) rs) not_here) ∙ held in
      let unlike : (r.test == m) ≡ false = elim (cases_Bool (r.test == m)) [
        | inl same ↦
            let none : list_any (λ (q : Running). q.test == m) rs ≡ false = subst (λ (k : ℕ). list_any (λ (q : Running). q.test == k) rs ≡ false) (equal r.test m same) (differ-head (λ q. q.test) r rs differ) in
            absurd (true≢false (sym (open_by_hold m a w rs later) ∙ none))
        | inr unlike ↦ unlike
      ] in
      ap (λ (b : Bool). list_any (λ (q : Running). q.test == m) (cond (not b) (r ∷ filter (λ q. not (is_of m a q)) rs) (filter (λ q. not (is_of m a q)) rs))) other
      ∙ ap (λ (b : Bool). b || list_any (λ (q : Running). q.test == m) (filter (λ q. not (is_of m a q)) rs)) unlike
      ∙ gone m a w rs (differ-tail (λ q. q.test) r rs differ) later
]

-- what stands behind a number on a path
abbrev behind : ℕ → List ℕ → List ℕ
behind n [] = []
behind n (m ∷ ms) = if m == n then ms else behind n ms

-- of two numbers on a path, one stands behind the other
one_behind : (path : List ℕ) (a b : ℕ) → has_number path a ≡ true → has_number path b ≡ true → a ≢ b → (has_number (behind a path) b ≡ true) ⊎ (has_number (behind b path) a ≡ true)
one_behind [] a b on_a on_b apart = absurd (true≢false (sym on_a))
one_behind (m ∷ ms) a b on_a on_b apart = elim (cases_Bool (m == a)) [
  | inl here ↦
      let unlike : (m == b) ≡ false = other m here in
      let later : has_number ms b ≡ true = sym (ap (λ (c : Bool). c || has_number ms b) unlike) ∙ on_b in
      inl (ap (λ (c : Bool). has_number (if c then ms else behind a ms) b) here ∙ later)
  | inr not_a ↦
      let later_a : has_number ms a ≡ true = sym (ap (λ (c : Bool). c || has_number ms a) not_a) ∙ on_a in
      elim (cases_Bool (m == b)) [
        | inl here ↦ inr (ap (λ (c : Bool). has_number (if c then ms else behind b ms) a) here ∙ later_a)
        | inr not_b ↦
            let later_b : has_number ms b ≡ true = sym (ap (λ (c : Bool). c || has_number ms b) not_b) ∙ on_b in
            elim (one_behind ms a b later_a later_b apart) [
              | inl first ↦ inl (ap (λ (c : Bool). has_number (if c then ms else behind a ms) b) not_a ∙ first)
              | inr second ↦ inr (ap (λ (c : Bool). has_number (if c then ms else behind b ms) a) not_b ∙ second)
            ]
      ]
]
  where
    other : (k : ℕ) → (k == a) ≡ true → (k == b) ≡ false
    other k same = grind (arith, nat_tests, same, apart)

all_on : (p : ℕ → Bool) (ns : List ℕ) (n : ℕ) → list_all p ns ≡ true → has_number ns n ≡ true → p n ≡ true
all_on p [] n all on = absurd (true≢false (sym on))
all_on p (m ∷ ms) n all on =
    let both = and_parts (p m) (list_all p ms) all in
    elim (cases_Bool (m == n)) [
      | inl here ↦ subst (λ (k : ℕ). p k ≡ true) (equal m n here) both.0
      | inr other ↦ all_on p ms n both.1 (sym (ap (λ (c : Bool). c || has_number ms n) other) ∙ on)
    ]

some_value : {A : Type 0} (o : Option A) → is_some o ≡ true → (v : A) × (o ≡ Some v)
some_value None is = absurd (true≢false (sym is))
some_value (Some v) is = (v, refl)

-- a test that is not final is not disabled
enabled_open : (d : Bool) (o : Option Verdict) → is_some (if d then Some Disabled else o) ≡ false → d ≡ false
enabled_open true o is = absurd (true≢false is)
enabled_open false o is = refl

-- a test with a cause before any Stop has its predecessors final
follows_cause : (pending stop follows : Bool) (behind' : Option Cause) (c : Cause) → stop ≡ false → same_cause c (if not pending then None else (if stop then Some Stopped else (if follows then behind' else None))) ≡ true → follows ≡ true
follows_cause pending true follows behind' c on is = absurd (true≢false on)
follows_cause false false follows behind' c on is = absurd (true≢false (sym is ∙ no_cause c))
follows_cause true false true behind' c on is = refl
follows_cause true false false behind' c on is = absurd (true≢false (sym is ∙ no_cause c))

module _ (plan : PlanParts) (sound : IsSound plan) (path : List ℕ) where
  -- the test with this number is final
  abbrev final : List Entry → ℕ → Bool
  final es n = is_some (verdict_of_test plan es n)

  -- what holds of each allowed history:
  -- - while there is no Stop, a final test has final predecessors, unless it is disabled;
  -- - an open test is not disabled and not final, and has final predecessors;
  -- - what stands behind an open test on the path is final
  record GoesInOrder (es : List Entry) : Type 0 where
    so_far : is_allowed_so_far plan es ≡ true
    finals : has_stop es ≡ false → (n : ℕ) (t : PlanTest) → test_at plan.tests n ≡ Some t → t.disabled ≡ false → is_final_in plan.repeat t es ≡ true → follows_finals plan t es ≡ true
    opens : (n : ℕ) (t : PlanTest) → test_at plan.tests n ≡ Some t → is_open_in n es ≡ true → (is_final_in plan.repeat t es ≡ false) × (follows_finals plan t es ≡ true)
    clear : (n : ℕ) → is_open_in n es ≡ true → list_all (final es) (behind n path) ≡ true

  number_is : (n : ℕ) (t : PlanTest) → test_at plan.tests n ≡ Some t → t.number ≡ n
  number_is n t is = equal t.number n (find_passes (λ (x : PlanTest). x.number == n) plan.tests t is)

  at_number : (n : ℕ) (t : PlanTest) → test_at plan.tests n ≡ Some t → test_at plan.tests t.number ≡ Some t
  at_number n t is = found_at (λ (x : PlanTest). x.number == n) 1 plan.tests t sound.numbers is

  module _ (es : List Entry) (e : Entry) (allowed : is_allowed plan es e ≡ true) where
    final_at : (n : ℕ) (o : Option PlanTest) → test_at plan.tests n ≡ o → is_some (verdict_at plan es o) ≡ true → is_some (verdict_at plan (es ++ e ∷ []) o) ≡ true
    final_at n None found is = absurd (true≢false (sym is))
    final_at n (Some t) found is =
        let v = some_value (verdict_in plan.repeat t es) is in
        ap is_some (verdict_stays plan t (at_number n t found) es v.0 v.1 e allowed)

    final_still : (n : ℕ) → final es n ≡ true → final (es ++ e ∷ []) n ≡ true
    final_still n is = final_at n (test_at plan.tests n) refl is

    finals_still : (ns : List ℕ) → list_all (final es) ns ≡ true → list_all (final (es ++ e ∷ [])) ns ≡ true
    finals_still [] all = refl
    finals_still (n ∷ ns) all =
        let both = and_parts (final es n) (list_all (final es) ns) all in
        and_from (final (es ++ e ∷ []) n) (list_all (final (es ++ e ∷ [])) ns) (final_still n both.0) (finals_still ns both.1)

    -- an entry about another test leaves whether a test is final
    final_other : (t : PlanTest) → is_about t.number e ≡ false → is_final_in plan.repeat t (es ++ e ∷ []) ≡ is_final_in plan.repeat t es
    final_other t other = ap is_some (verdict_in_other plan.repeat t es e other)

  -- behind a test whose predecessors are final, all of the path is final, while there is no Stop
  rest_final : (es : List Entry) → GoesInOrder es → has_stop es ≡ false → (n : ℕ) (t : PlanTest) (ms : List ℕ) → test_at plan.tests n ≡ Some t → follows_finals plan t es ≡ true → is_path plan.tests (n ∷ ms) ≡ true → list_all (final es) ms ≡ true
  rest_final es goes on n t [] found follows is = refl
  rest_final es goes on n t (m ∷ ms) found follows is =
      let both = and_parts (comes_behind m (test_at plan.tests n)) (is_path plan.tests (m ∷ ms)) is in
      let before : has_number t.before m ≡ true = sym (ap (λ (o : Option PlanTest). comes_behind m o) found) ∙ both.0 in
      let done : final es m ≡ true = all_on (final es) t.before m follows before in
      let linked = all_found (has_sound_links plan.tests) (λ (x : PlanTest). x.number == n) plan.tests t sound.links found in
      let ranked = all_on (λ j. is_before_rank t.rank (test_at plan.tests j)) t.before m (and_parts (list_all (λ j. is_before_rank t.rank (test_at plan.tests j)) t.before) _ linked).0 before in
      and_from (final es m) (list_all (final es) ms) done (next (test_at plan.tests m) refl done ranked both.1 (λ u is_at above. rest_final es goes on m u ms is_at above both.1))
    where
      next : (o : Option PlanTest) → test_at plan.tests m ≡ o → is_some (verdict_at plan es o) ≡ true → is_before_rank t.rank o ≡ true → is_path plan.tests (m ∷ ms) ≡ true → ((u : PlanTest) → test_at plan.tests m ≡ Some u → follows_finals plan u es ≡ true → list_all (final es) ms ≡ true) → list_all (final es) ms ≡ true
      next None is_at done ranked path_is go = absurd (true≢false (sym done))
      next (Some u) is_at done ranked path_is go =
          go u is_at (goes.finals on m u is_at (not-true u.disabled (and_parts (not u.disabled) _ ranked).0) done)

  behind_final : (es : List Entry) → GoesInOrder es → has_stop es ≡ false → (n : ℕ) (t : PlanTest) (ms : List ℕ) → test_at plan.tests n ≡ Some t → follows_finals plan t es ≡ true → is_path plan.tests ms ≡ true → list_all (final es) (behind n ms) ≡ true
  behind_final es goes on n t [] found follows is = refl
  behind_final es goes on n t (m ∷ ms) found follows is = elim (cases_Bool (m == n)) [
    | inl here ↦
        let first : is_path plan.tests (n ∷ ms) ≡ true = subst (λ (k : ℕ). is_path plan.tests (k ∷ ms) ≡ true) (equal m n here) is in
        ap (λ (c : Bool). list_all (final es) (if c then ms else behind n ms)) here ∙ rest_final es goes on n t ms found follows first
    | inr other ↦
        ap (λ (c : Bool). list_all (final es) (if c then ms else behind n ms)) other ∙ behind_final es goes on n t ms found follows (tail_path m ms is)
  ]
    where
      tail_path : (k : ℕ) (ks : List ℕ) → is_path plan.tests (k ∷ ks) ≡ true → is_path plan.tests ks ≡ true
      tail_path k [] all = refl
      tail_path k (j ∷ ks) all = (and_parts (comes_behind j (test_at plan.tests k)) (is_path plan.tests (j ∷ ks)) all).1

  -- an allowed entry more, case by case
  module _ (es : List Entry) (goes : GoesInOrder es) where
    unopened : (n : ℕ) → is_open_in n es ≡ true → (k : ℕ) → is_open_in k es ≡ false → (k == n) ≡ false
    unopened n opens k closed = elim (cases_Bool (k == n)) [
      | inl same ↦ absurd (true≢false (sym (subst (λ (i : ℕ). is_open_in i es ≡ true) (sym (equal k n same)) opens) ∙ closed))
      | inr unlike ↦ unlike
    ]

    order-start : (n a w : ℕ) (p : Option Placement) → is_path plan.tests path ≡ true → is_allowed plan es (Start n a w p) ≡ true → GoesInOrder (es ++ Start n a w p ∷ [])
    order-start n a w p is_way allowed =
        let e = Start n a w p in
        let most = and_parts (not (is_stop_due plan es) && starts plan es a p (test_at plan.tests n)) (not (is_busy_in w es)) allowed in
        let both = and_parts (not (is_stop_due plan es)) (starts plan es a p (test_at plan.tests n)) most.0 in
        let begins = starts-parts plan es a p (test_at plan.tests n) both.1 in
        let t = begins.test in
        let pending = pending-parts plan t es begins.may.pending in
        let ready = and_parts (follows_finals plan t es && is_none (first_unpassed plan t es)) (is_none t.fixed) begins.may.ready in
        let follows : follows_finals plan t es ≡ true = (and_parts (follows_finals plan t es) (is_none (first_unpassed plan t es)) ready.0).0 in
        record {
          so_far = allowed-snoc plan es e goes.so_far allowed;
          finals = λ on m u found enabled done.
              let before : is_final_in plan.repeat u es ≡ true = final_before n a w p u done in
              finals_still es e allowed u.before (goes.finals begins.may.goes_on m u found enabled before);
          opens = λ m u found is. elim (cases_Bool (is_open_in m es)) [
            | inl old ↦
                let was = goes.opens m u found old in
                (not_after n a w p u was.0, finals_still es e allowed u.before was.1)
            | inr new ↦
                let here : n ≡ m = equal n m (opened_here n a w p m is new) in
                let same : Some t ≡ Some u = sym begins.found ∙ ap (λ (k : ℕ). test_at plan.tests k) here ∙ found in
                let tests : t ≡ u = cc in (
                  not_after n a w p u (subst (λ (x : PlanTest). is_final_in plan.repeat x es ≡ false) tests pending.unfinished),
                  finals_still es e allowed u.before (subst (λ (x : PlanTest). follows_finals plan x es ≡ true) tests follows),
                )
          ];
          clear = λ m is. elim (cases_Bool (is_open_in m es)) [
            | inl old ↦ finals_still es e allowed (behind m path) (goes.clear m old)
            | inr new ↦
                let here : n ≡ m = equal n m (opened_here n a w p m is new) in
                subst (λ (k : ℕ). list_all (final (es ++ e ∷ [])) (behind k path) ≡ true) here
                (finals_still es e allowed (behind n path) (behind_final es goes begins.may.goes_on n t path begins.found follows is_way))
          ];
        }
      where
        final_before : (i a' w' : ℕ) (p' : Option Placement) (u : PlanTest) → is_final_in plan.repeat u (es ++ Start i a' w' p' ∷ []) ≡ true → is_final_in plan.repeat u es ≡ true
        final_before i a' w' p' u done =
            let v = some_value (verdict_in plan.repeat u (es ++ Start i a' w' p' ∷ [])) done in
            ap is_some (start_ends_none plan.repeat u es i a' w' p' v.0 v.1)

        not_after : (i a' w' : ℕ) (p' : Option Placement) (u : PlanTest) → is_final_in plan.repeat u es ≡ false → is_final_in plan.repeat u (es ++ Start i a' w' p' ∷ []) ≡ false
        not_after i a' w' p' u before = elim (cases_Bool (is_final_in plan.repeat u (es ++ Start i a' w' p' ∷ []))) [
          | inl done ↦ absurd (true≢false (sym (final_before i a' w' p' u done) ∙ before))
          | inr none ↦ none
        ]

        shorter : (b : Bool) → (b || false) ≡ true → b ≡ true
        shorter true is = refl
        shorter false is = is

        opened_here : (i a' w' : ℕ) (p' : Option Placement) (m : ℕ) → is_open_in m (es ++ Start i a' w' p' ∷ []) ≡ true → is_open_in m es ≡ false → (i == m) ≡ true
        opened_here i a' w' p' m is new =
            let run : Running = record { test = i; attempt = a'; worker = w'; placement = p' } in
            let more : is_open_in m (es ++ Start i a' w' p' ∷ []) ≡ (is_open_in m es || (i == m || false)) =
            ap (λ (rs : List Running). list_any (λ (r : Running). r.test == m) rs) (open_starts-snoc es (Start i a' w' p') refl)
            ∙ list_any-append (λ (r : Running). r.test == m) (open_starts es) (run ∷ [])
            in
            shorter (i == m) (sym (more ∙ ap (λ (b : Bool). b || (i == m || false)) new) ∙ is)

    -- an entry behind which no more tests are open, and each open test is another one
    order-other : (e : Entry) → is_allowed plan es e ≡ true → ((m : ℕ) → is_open_in m (es ++ e ∷ []) ≡ true → (is_open_in m es ≡ true) × (is_about m e ≡ false))
        → (has_stop (es ++ e ∷ []) ≡ false → (m : ℕ) (u : PlanTest) → test_at plan.tests m ≡ Some u → is_about m e ≡ true → follows_finals plan u es ≡ true) → GoesInOrder (es ++ e ∷ [])
    order-other e allowed open_other own = record {
      so_far = allowed-snoc plan es e goes.so_far allowed;
      finals = λ on m u found enabled done. elim (cases_Bool (is_about m e)) [
        | inl about ↦ finals_still es e allowed u.before (own on m u found about)
        | inr other ↦
            let away : is_about u.number e ≡ false = subst (λ (k : ℕ). is_about k e ≡ false) (sym (number_is m u found)) other in
            finals_still es e allowed u.before (goes.finals (or_parts (has_stop es) (is_stop e || false) (sym (stop-snoc es e) ∙ on)).0 m u found enabled (sym (final_other es e allowed u away) ∙ done))
      ];
      opens = λ m u found is.
          let was = open_other m is in
          let before = goes.opens m u found was.0 in
          let away : is_about u.number e ≡ false = subst (λ (k : ℕ). is_about k e ≡ false) (sym (number_is m u found)) was.1 in
          (final_other es e allowed u away ∙ before.0, finals_still es e allowed u.before before.1);
      clear = λ m is. finals_still es e allowed (behind m path) (goes.clear m (open_other m is).0);
    }

    order-end : (t a w : ℕ) (s : Seen) → is_allowed plan es (End t a w s) ≡ true → GoesInOrder (es ++ End t a w s ∷ [])
    order-end t a w s allowed =
        let holds = (and_parts (not (is_stop_due plan es)) (holds_start t a w es) allowed).1 in
        let left = gone t a w (open_starts es) (starts_apart plan es goes.so_far).tests holds in
        order-other (End t a w s) allowed
        (λ m is.
        let kept : list_any (λ (r : Running). r.test == m) (filter (λ r. not (is_of t a r)) (open_starts es)) ≡ true = sym (ap (λ (rs : List Running). list_any (λ (r : Running). r.test == m) rs) (open_starts-end es t a w s)) ∙ is in
        (any_kept (λ (r : Running). r.test == m) (λ r. not (is_of t a r)) (open_starts es) kept, away m kept left))
        (λ on m u found about. (goes.opens m u found (subst (λ (k : ℕ). is_open_in k es ≡ true) (equal t m about) (open_by_hold t a w (open_starts es) holds))).1)
      where
        away : (m : ℕ) → list_any (λ (r : Running). r.test == m) (filter (λ r. not (is_of t a r)) (open_starts es)) ≡ true → list_any (λ (r : Running). r.test == t) (filter (λ r. not (is_of t a r)) (open_starts es)) ≡ false → (t == m) ≡ false
        away m kept left = elim (cases_Bool (t == m)) [
          | inl same ↦ absurd (true≢false (sym (subst (λ (k : ℕ). list_any (λ (r : Running). r.test == k) (filter (λ r. not (is_of t a r)) (open_starts es)) ≡ true) (sym (equal t m same)) kept) ∙ left))
          | inr unlike ↦ unlike
        ]

    order-settle : (n : ℕ) (c : Cause) → is_allowed plan es (Settle n c) ≡ true → GoesInOrder (es ++ Settle n c ∷ [])
    order-settle n c allowed =
        let is = (and_parts (not (is_stop_due plan es)) (settles plan es c (test_at plan.tests n)) allowed).1 in
        by_test (test_at plan.tests n) refl is
      where
        pending_by : (pending : Bool) (rest : Option Cause) → same_cause c (if not pending then None else rest) ≡ true → pending ≡ true
        pending_by true rest is = refl
        pending_by false rest is = absurd (true≢false (sym is ∙ no_cause c))

        by_test : (o : Option PlanTest) → test_at plan.tests n ≡ o → settles plan es c o ≡ true → GoesInOrder (es ++ Settle n c ∷ [])
        by_test None found is = absurd (true≢false (sym is))
        by_test (Some t) found is =
            let number = number_is n t found in
            let closed : is_open_in n es ≡ false = subst (λ (k : ℕ). is_open_in k es ≡ false) number (pending-parts plan t es (pending_by (is_pending plan t es) _ is)).closed in
            order-other (Settle n c) allowed
            (λ m opens.
            let before : is_open_in m es ≡ true = sym (ap (λ (rs : List Running). list_any (λ (r : Running). r.test == m) rs) (opens_settle es n c)) ∙ opens in
            (before, unopened m before n closed))
            (λ on m u known about.
            let same : Some t ≡ Some u = sym found ∙ ap (λ (k : ℕ). test_at plan.tests k) (equal n m about) ∙ known in
            let tests : t ≡ u = cc in
            let follows : follows_finals plan t es ≡ true = follows_cause (is_pending plan t es) (has_stop es) (follows_finals plan t es) (cause_behind (first_unpassed plan t es) t.fixed) c (or_parts (has_stop es) false (sym (stop-snoc es (Settle n c)) ∙ on)).0 is in
            subst (λ (x : PlanTest). follows_finals plan x es ≡ true) tests follows)

    order-stop : is_allowed plan es Stop ≡ true → GoesInOrder (es ++ Stop ∷ [])
    order-stop allowed =
        order-other Stop allowed
        (λ m opens. (sym (ap (λ (rs : List Running). list_any (λ (r : Running). r.test == m) rs) (opens_stop es)) ∙ opens, refl))
        (λ on m u found about. absurd (true≢false (sym about)))

  order-snoc : is_path plan.tests path ≡ true → (es : List Entry) (e : Entry) → is_allowed plan es e ≡ true → GoesInOrder es → GoesInOrder (es ++ e ∷ [])
  order-snoc is_way es (Start n a w p) allowed goes = order-start es goes n a w p is_way allowed
  order-snoc is_way es (End t a w s) allowed goes = order-end es goes t a w s allowed
  order-snoc is_way es (Settle n c) allowed goes = order-settle es goes n c allowed
  order-snoc is_way es Stop allowed goes = order-stop es goes allowed

  either_none : (b : Bool) (o : Option Verdict) → o ≡ None → is_some (if b then o else o) ≡ false
  either_none true o none = ap is_some none
  either_none false o none = ap is_some none

  none_final : (t : PlanTest) → t.disabled ≡ false → is_final_in plan.repeat t [] ≡ false
  none_final t enabled =
      ap (λ (d : Bool). is_some (if d then Some Disabled else settled_or (settled_cause t.number []) (attempted_verdict plan.repeat t []))) enabled
      ∙ either_none (is_over plan.repeat []) None refl

  goes_in_order : is_path plan.tests path ≡ true → (es : List Entry) → is_allowed_so_far plan es ≡ true → GoesInOrder es
  goes_in_order is_way = allowed_induction plan GoesInOrder (order-snoc is_way) (record {
    so_far = refl;
    finals = λ on n t found enabled done. absurd (true≢false (sym done ∙ none_final t enabled));
    opens = λ n t found is. absurd (true≢false (sym is));
    clear = λ n is. absurd (true≢false (sym is));
  })

  -- no two tests of a path are open together
  one_open : (es : List Entry) → GoesInOrder es → (m n : ℕ) (t v : PlanTest) → test_at plan.tests m ≡ Some t → test_at plan.tests n ≡ Some v → m ≢ n → is_open_in m es ≡ true → is_open_in n es ≡ true → has_number path m ≡ true → has_number path n ≡ true → ⊥
  one_open es goes m n t v at_m at_n apart open_m open_n on_m on_n = elim (one_behind path m n on_m on_n apart) [
    | inl later ↦ true≢false (sym (sym (ap (λ (o : Option PlanTest). is_some (verdict_at plan es o)) at_n) ∙ all_on (final es) (behind m path) n (goes.clear m open_m) later) ∙ (goes.opens n v at_n open_n).0)
    | inr later ↦ true≢false (sym (sym (ap (λ (o : Option PlanTest). is_some (verdict_at plan es o)) at_m) ∙ all_on (final es) (behind n path) m (goes.clear n open_n) later) ∙ (goes.opens m t at_m open_m).0)
  ]

  open_at : (es : List Entry) (k : ℕ) (d : Running) → k < length (open_starts es) → is_open_in (get_or (open_starts es) k d).test es ≡ true
  open_at es k d lt =
      list_any_at (λ (r : Running). r.test == (get_or (open_starts es) k d).test) (open_starts es) k d lt (self (get_or (open_starts es) k d).test)

-- a path is a capacity
pub path_holds : (plan : PlanParts) (recorded : List Entry) (path : List ℕ) → IsSound plan → is_path plan.tests path ≡ true → IsCapacity plan 1 (amount_of plan recorded 1 (path_amount path))
path_holds plan recorded path sound is_way =
    capacity_from plan sound recorded 1 (path_amount path) (omega arith) (λ es so_far are.
    let goes = goes_in_order plan sound path is_way es so_far in
    one_sum (λ (r : Running). other_at plan sound recorded 1 (path_amount path) (test_at plan.tests r.test)) (open_starts es) (λ r. most (test_at plan.tests r.test)) (λ i j d less lt.
    apart es goes (get_or (open_starts es) i d).test (get_or (open_starts es) j d).test
    (test_at plan.tests (get_or (open_starts es) i d).test) (test_at plan.tests (get_or (open_starts es) j d).test) refl refl
    ((starts_apart plan es so_far).tests i j d less lt)
    (open_at plan sound path es i d (omega (arith, less, lt))) (open_at plan sound path es j d lt)))
  where
    most : (o : Option PlanTest) → other_at plan sound recorded 1 (path_amount path) o ≤ 1
    most None = omega arith
    most (Some t) = one_most (has_number path t.number)

    apart : (es : List Entry) → GoesInOrder plan sound path es → (m n : ℕ) (o u : Option PlanTest) → test_at plan.tests m ≡ o → test_at plan.tests n ≡ u → m ≢ n → is_open_in m es ≡ true → is_open_in n es ≡ true
        → (other_at plan sound recorded 1 (path_amount path) o ≡ 0) ⊎ (other_at plan sound recorded 1 (path_amount path) u ≡ 0)
    apart es goes m n None u at_m at_n differ open_m open_n = inl refl
    apart es goes m n (Some t) None at_m at_n differ open_m open_n = inr refl
    apart es goes m n (Some t) (Some v) at_m at_n differ open_m open_n = elim (cases_Bool (has_number path t.number)) [
      | inl on ↦ elim (cases_Bool (has_number path v.number)) [
        | inl too ↦
            absurd (one_open plan sound path es goes m n t v at_m at_n differ open_m open_n
            (subst (λ (k : ℕ). has_number path k ≡ true) (number_is plan sound path m t at_m) on)
            (subst (λ (k : ℕ). has_number path k ≡ true) (number_is plan sound path n v at_n) too))
        | inr none ↦ inr (none_of (has_number path v.number) none)
      ]
      | inr none ↦ inl (none_of (has_number path t.number) none)
    ]
