-- A test that is final keeps its verdict, whatever is allowed behind.
use Rattle.std.proofs.Common.{◌≡◌, ◌∙◌, sym, ap, subst, Bool, true, false, ℕ, List, [], ◌∷◌, ◌++◌, refl, arith, inl, inr}
use Rattle.std.specs.Prelude.{Option, Some, None, is_some, not, ◌&&◌, ◌||◌, ◌==◌, cond, filter, filter_map, if◌then◌else◌}
use Rattle.std.specs.List.{list_any, cons_option}
use Rattle.std.proofs.lemmas.Bool.{and_parts, cases_Bool, false_from_ne_true, or_parts, true≢false}
use Rattle.std.proofs.lemmas.Bool.Decides.{nat_tests}
use Rattle.std.proofs.lemmas.List.{append-nil}
use Rattle.std.proofs.lemmas.List.Elements.{filter_map-append}
use Rattle.std.proofs.lemmas.List.Folds.{list_any-append}
use Rattle.ct_alloc.specs.declared.placement.Placement.{Placement}
use Rattle.ct_verdict.specs.declared.attempt.Seen.{Seen}
use Rattle.ct_verdict.specs.declared.repeat.Repeat.{Repeat}
use Rattle.ct_verdict.specs.declared.rules.Rules.{Rules}
use Rattle.ct_verdict.specs.declared.verdict.Cause.{Cause}
use Rattle.ct_verdict.specs.declared.verdict.Verdict.{Verdict}
use Rattle.ct_verdict.specs.declared.verdict.Verdict.TheVariants.{Disabled}
use Rattle.ct_verdict.specs.Verdict.{verdict_of}
use Rattle.ct_history.specs.declared.plan.PlanTest.{PlanTest}
use Rattle.ct_history.specs.declared.plan.PlanParts.{PlanParts}
use Rattle.ct_history.specs.declared.history.Entry.{Entry}
use Rattle.ct_history.specs.declared.history.Entry.TheVariants.{Start, End, Settle, Stop}
use Rattle.ct_history.specs.Plan.{test_at}
use Rattle.ct_history.specs.History.{Running, attempt_by, attempts_of, holds_start, is_busy_in, is_open_in, open_starts, settled_by}
use Rattle.ct_history.specs.Verdicts.{attempted_verdict, first_of_list, is_final_in, is_over, last_of_list, settled_cause, settled_or, verdict_in}
use Rattle.ct_history.specs.Legal.{is_allowed, is_stop_due, settles, starts}
use Rattle.ct_history.proofs.MayLemmas.{pending-parts, settles-parts, starts-parts}
use Rattle.ct_history.proofs.OpenLemmas.{is_of, open_starts-end, open_starts-snoc}

-- an entry that settles other tests leaves the cause as it is
pub settled-snoc : (n : ℕ) (es : List Entry) (e : Entry) → settled_by n e ≡ None → settled_cause n (es ++ e ∷ []) ≡ settled_cause n es
settled-snoc n es e none =
    ap first_of_list (filter_map-append (settled_by n) es (e ∷ []) ∙ ap (λ (o : Option Cause). filter_map (settled_by n) es ++ cons_option o []) none ∙ append-nil (filter_map (settled_by n) es))

first-append : {A : Type 0} (xs ys : List A) (x : A) → first_of_list xs ≡ Some x → first_of_list (xs ++ ys) ≡ Some x
first-append [] ys x is = cc
first-append (y ∷ xs) ys x is = is

-- a settled test keeps its cause, whatever follows
settled_stays : (n : ℕ) (es more : List Entry) (c : Cause) → settled_cause n es ≡ Some c → settled_cause n (es ++ more) ≡ Some c
settled_stays n es more c is =
    ap first_of_list (filter_map-append (settled_by n) es more) ∙ first-append (filter_map (settled_by n) es) (filter_map (settled_by n) more) c is

pub attempts-snoc : (n : ℕ) (rules : Rules) (es : List Entry) (e : Entry) → attempt_by n rules e ≡ None → attempts_of n rules (es ++ e ∷ []) ≡ attempts_of n rules es
attempts-snoc n rules es e none =
    filter_map-append (attempt_by n rules) es (e ∷ []) ∙ ap (λ (o : Option Verdict). filter_map (attempt_by n rules) es ++ cons_option o []) none ∙ append-nil (filter_map (attempt_by n rules) es)

any_filter : {A : Type 0} (p q : A → Bool) (xs : List A) → list_any p xs ≡ false → list_any p (filter q xs) ≡ false
any_filter p q [] none = refl
any_filter p q (x ∷ xs) none = elim (cases_Bool (q x)) [
  | inl kept ↦ ap (λ (b : Bool). list_any p (cond b (x ∷ filter q xs) (filter q xs))) kept ∙ both (p x) (list_any p xs) (list_any p (filter q xs)) none (any_filter p q xs)
  | inr gone ↦ ap (λ (b : Bool). list_any p (cond b (x ∷ filter q xs) (filter q xs))) gone ∙ any_filter p q xs ((or_parts (p x) (list_any p xs) none).1)
]
  where
    both : (a b c : Bool) → (a || b) ≡ false → (b ≡ false → c ≡ false) → (a || c) ≡ false
    both true b c is then' = cc
    both false b c is then' = then' is

any_one : {A : Type 0} (p : A → Bool) (xs : List A) (o : Option A) → list_any p xs ≡ false → list_any p (cons_option o []) ≡ false → list_any p (xs ++ cons_option o []) ≡ false
any_one p xs o none here = list_any-append p xs (cons_option o []) ∙ ap (λ (b : Bool). b || list_any p (cons_option o [])) none ∙ here

-- the parts of a test's verdict that an entry leaves as they are, as one about another test does
pub record Leaves (t : PlanTest) (es : List Entry) (e : Entry) : Type 0 where
  pub settled : settled_cause t.number (es ++ e ∷ []) ≡ settled_cause t.number es
  pub attempts : attempts_of t.number t.rules (es ++ e ∷ []) ≡ attempts_of t.number t.rules es
  pub closed : is_open_in t.number es ≡ false → is_open_in t.number (es ++ e ∷ []) ≡ false

other : (m n : ℕ) → (m == n) ≡ false → (m == n || false) ≡ false
other m n is = ap (λ (b : Bool). b || false) is

-- an entry about another test
leaves-start : (t : PlanTest) (es : List Entry) (n a w : ℕ) (p : Option Placement) → (n == t.number) ≡ false → Leaves t es (Start n a w p)
leaves-start t es n a w p unlike = record {
  settled = settled-snoc t.number es (Start n a w p) refl;
  attempts = attempts-snoc t.number t.rules es (Start n a w p) refl;
  closed = λ none.
      ap (λ (rs : List Running). list_any (λ (r : Running). r.test == t.number) rs) (open_starts-snoc es (Start n a w p) refl)
      ∙ any_one (λ (r : Running). r.test == t.number) (open_starts es) (Some (record { test = n; attempt = a; worker = w; placement = p })) none (other n t.number unlike);
}

leaves-end : (t : PlanTest) (es : List Entry) (n a w : ℕ) (s : Seen) → (n == t.number) ≡ false → Leaves t es (End n a w s)
leaves-end t es n a w s unlike = record {
  settled = settled-snoc t.number es (End n a w s) refl;
  attempts = attempts-snoc t.number t.rules es (End n a w s) (ap (λ (b : Bool). if b then Some (verdict_of t.rules s) else None) unlike);
  closed = λ none.
      ap (λ (rs : List Running). list_any (λ (r : Running). r.test == t.number) rs) (open_starts-end es n a w s)
      ∙ any_filter (λ (r : Running). r.test == t.number) (λ r. not (is_of n a r)) (open_starts es) none;
}

leaves-settle : (t : PlanTest) (es : List Entry) (n : ℕ) (c : Cause) → (n == t.number) ≡ false → Leaves t es (Settle n c)
leaves-settle t es n c unlike = record {
  settled = settled-snoc t.number es (Settle n c) (ap (λ (b : Bool). if b then Some c else None) unlike);
  attempts = attempts-snoc t.number t.rules es (Settle n c) refl;
  closed = λ none. ap (λ (rs : List Running). list_any (λ (r : Running). r.test == t.number) rs) (open_starts-snoc es (Settle n c) refl ∙ append-nil (open_starts es)) ∙ none;
}

pub leaves-stop : (t : PlanTest) (es : List Entry) → Leaves t es Stop
leaves-stop t es = record {
  settled = settled-snoc t.number es Stop refl;
  attempts = attempts-snoc t.number t.rules es Stop refl;
  closed = λ none. ap (λ (rs : List Running). list_any (λ (r : Running). r.test == t.number) rs) (open_starts-snoc es Stop refl ∙ append-nil (open_starts es)) ∙ none;
}

-- a verdict by attempts stays behind an entry that leaves the test as it is, while the test is not open
attempted_stays : (repeat : Repeat) (t : PlanTest) (es : List Entry) (e : Entry) (v : Verdict) → Leaves t es e → is_open_in t.number es ≡ false → attempted_verdict repeat t es ≡ Some v → attempted_verdict repeat t (es ++ e ∷ []) ≡ Some v
attempted_stays repeat t es e v leaves closed is =
    ap (λ (b : Bool). if not b && is_over repeat (attempts_of t.number t.rules (es ++ e ∷ [])) then last_of_list (attempts_of t.number t.rules (es ++ e ∷ [])) else None) (leaves.closed closed)
    ∙ ap (λ (vs : List Verdict). if not false && is_over repeat vs then last_of_list vs else None) leaves.attempts
    ∙ sym (ap (λ (b : Bool). if not b && is_over repeat (attempts_of t.number t.rules es) then last_of_list (attempts_of t.number t.rules es) else None) closed)
    ∙ is

closed_by_verdict : (repeat : Repeat) (t : PlanTest) (es : List Entry) (v : Verdict) → attempted_verdict repeat t es ≡ Some v → is_open_in t.number es ≡ false
closed_by_verdict repeat t es v is = by_open (is_open_in t.number es) (is_over repeat (attempts_of t.number t.rules es)) (last_of_list (attempts_of t.number t.rules es)) is
  where
    by_open : (o over : Bool) (last : Option Verdict) → (if not o && over then last else None) ≡ Some v → o ≡ false
    by_open true over last has = cc
    by_open false over last has = refl

undisabled_stays : (repeat : Repeat) (t : PlanTest) (es : List Entry) (e : Entry) (v : Verdict) → Leaves t es e → settled_or (settled_cause t.number es) (attempted_verdict repeat t es) ≡ Some v → settled_or (settled_cause t.number (es ++ e ∷ [])) (attempted_verdict repeat t (es ++ e ∷ [])) ≡ Some v
undisabled_stays repeat t es e v leaves is =
    ap (λ (o : Option Cause). settled_or o (attempted_verdict repeat t (es ++ e ∷ []))) leaves.settled ∙ by_cause (settled_cause t.number es) is
  where
    by_cause : (o : Option Cause) → settled_or o (attempted_verdict repeat t es) ≡ Some v → settled_or o (attempted_verdict repeat t (es ++ e ∷ [])) ≡ Some v
    by_cause None has = attempted_stays repeat t es e v leaves (closed_by_verdict repeat t es v has) has
    by_cause (Some c) has = has

-- an entry that leaves a test as it is leaves its verdict
pub verdict_left : (repeat : Repeat) (t : PlanTest) (es : List Entry) (e : Entry) (v : Verdict) → Leaves t es e → verdict_in repeat t es ≡ Some v → verdict_in repeat t (es ++ e ∷ []) ≡ Some v
verdict_left repeat t es e v leaves is = by_disabled t.disabled is
  where
    by_disabled : (d : Bool) → (if d then Some Disabled else settled_or (settled_cause t.number es) (attempted_verdict repeat t es)) ≡ Some v → (if d then Some Disabled else settled_or (settled_cause t.number (es ++ e ∷ [])) (attempted_verdict repeat t (es ++ e ∷ []))) ≡ Some v
    by_disabled true has = has
    by_disabled false has = undisabled_stays repeat t es e v leaves has

-- where a start of a test is held, a start of the test is open
pub open_by_hold : (n a w : ℕ) (rs : List Running) → list_any (λ (r : Running). r.test == n && r.attempt == a && r.worker == w) rs ≡ true → list_any (λ (r : Running). r.test == n) rs ≡ true
open_by_hold n a w [] is = is
open_by_hold n a w (r ∷ rs) is =
    by_test (r.test == n) (r.attempt == a) (r.worker == w) (list_any (λ (q : Running). q.test == n && q.attempt == a && q.worker == w) rs) (list_any (λ (q : Running). q.test == n) rs) (open_by_hold n a w rs) is
  where
    by_test : (x y z rest more : Bool) → (rest ≡ true → more ≡ true) → (x && y && z || rest) ≡ true → (x || more) ≡ true
    by_test true y z rest more later has = refl
    by_test false y z rest more later has = later has

-- a final test gets no further entry, so that each allowed entry is about another test
module _ (plan : PlanParts) (t : PlanTest) (at : test_at plan.tests t.number ≡ Some t) (es : List Entry) (v : Verdict) (final : verdict_in plan.repeat t es ≡ Some v) where
  final_is : is_final_in plan.repeat t es ≡ true
  final_is = ap is_some final

  found_same : (n : ℕ) (u : PlanTest) → test_at plan.tests n ≡ Some u → (n == t.number) ≡ true → u ≡ t
  found_same n u found same =
      let here : n ≡ t.number = grind (arith, nat_tests) in
      let both : Some u ≡ Some t = sym found ∙ ap (λ (m : ℕ). test_at plan.tests m) here ∙ at in
      (cc)

  not_pending : (n : ℕ) (u : PlanTest) → test_at plan.tests n ≡ Some u → is_final_in plan.repeat u es ≡ false → (n == t.number) ≡ false
  not_pending n u found unfinished =
      false_from_ne_true (n == t.number)
      (λ same. true≢false (sym final_is ∙ ap (λ (x : PlanTest). is_final_in plan.repeat x es) (sym (found_same n u found same)) ∙ unfinished))

  stays-start : (n a w : ℕ) (p : Option Placement) → starts plan es a p (test_at plan.tests n) ≡ true → verdict_in plan.repeat t (es ++ Start n a w p ∷ []) ≡ Some v
  stays-start n a w p is =
      let begins = starts-parts plan es a p (test_at plan.tests n) is in
      let unlike = not_pending n begins.test begins.found (pending-parts plan begins.test es begins.may.pending).unfinished in
      verdict_left plan.repeat t es (Start n a w p) v (leaves-start t es n a w p unlike) final

  stays-settle : (n : ℕ) (c : Cause) → settles plan es c (test_at plan.tests n) ≡ true → verdict_in plan.repeat t (es ++ Settle n c ∷ []) ≡ Some v
  stays-settle n c is =
      let settled = settles-parts plan es c (test_at plan.tests n) is in
      let unlike = not_pending n settled.test settled.found (pending-parts plan settled.test es settled.pending).unfinished in
      verdict_left plan.repeat t es (Settle n c) v (leaves-settle t es n c unlike) final

  -- the End of the test's own attempt: then it was settled, or disabled
  stays-own : (n a w : ℕ) (s : Seen) → is_open_in t.number es ≡ true → verdict_in plan.repeat t (es ++ End n a w s ∷ []) ≡ Some v
  stays-own n a w s opens = by_disabled t.disabled final
    where
      by_cause : (o : Option Cause) → settled_or o (attempted_verdict plan.repeat t es) ≡ Some v → settled_or o (attempted_verdict plan.repeat t (es ++ End n a w s ∷ [])) ≡ Some v
      by_cause None has = absurd (true≢false (sym opens ∙ closed_by_verdict plan.repeat t es v has))
      by_cause (Some c) has = has

      by_disabled : (d : Bool) → (if d then Some Disabled else settled_or (settled_cause t.number es) (attempted_verdict plan.repeat t es)) ≡ Some v → (if d then Some Disabled else settled_or (settled_cause t.number (es ++ End n a w s ∷ [])) (attempted_verdict plan.repeat t (es ++ End n a w s ∷ []))) ≡ Some v
      by_disabled true has = has
      by_disabled false has =
          ap (λ (o : Option Cause). settled_or o (attempted_verdict plan.repeat t (es ++ End n a w s ∷ []))) (settled-snoc t.number es (End n a w s) refl) ∙ by_cause (settled_cause t.number es) has

  stays-end : (n a w : ℕ) (s : Seen) → holds_start n a w es ≡ true → verdict_in plan.repeat t (es ++ End n a w s ∷ []) ≡ Some v
  stays-end n a w s holds = elim (cases_Bool (n == t.number)) [
    | inl same ↦
        let here : n ≡ t.number = grind (arith, nat_tests) in
        stays-own n a w s (subst (λ (m : ℕ). is_open_in m es ≡ true) here (open_by_hold n a w (open_starts es) holds))
    | inr unlike ↦ verdict_left plan.repeat t es (End n a w s) v (leaves-end t es n a w s unlike) final
  ]

  -- whatever is allowed behind, the verdict stays
  pub verdict_stays : (e : Entry) → is_allowed plan es e ≡ true → verdict_in plan.repeat t (es ++ e ∷ []) ≡ Some v
  verdict_stays (Start n a w p) allowed =
      let most = and_parts (not (is_stop_due plan es) && starts plan es a p (test_at plan.tests n)) (not (is_busy_in w es)) allowed in
      let both = and_parts (not (is_stop_due plan es)) (starts plan es a p (test_at plan.tests n)) most.0 in
      stays-start n a w p both.1
  verdict_stays (End n a w s) allowed = stays-end n a w s (and_parts (not (is_stop_due plan es)) (holds_start n a w es) allowed).1
  verdict_stays (Settle n c) allowed = stays-settle n c (and_parts (not (is_stop_due plan es)) (settles plan es c (test_at plan.tests n)) allowed).1
  verdict_stays Stop allowed = verdict_left plan.repeat t es Stop v (leaves-stop t es) final

-- a Start makes no test final
pub start_ends_none : (repeat : Repeat) (t : PlanTest) (es : List Entry) (n a w : ℕ) (p : Option Placement) (v : Verdict) → verdict_in repeat t (es ++ Start n a w p ∷ []) ≡ Some v → verdict_in repeat t es ≡ Some v
start_ends_none repeat t es n a w p v is = by_disabled t.disabled is
  where
    open_more : is_open_in t.number (es ++ Start n a w p ∷ []) ≡ (is_open_in t.number es || (n == t.number || false))
    open_more = ap (λ (rs : List Running). list_any (λ (r : Running). r.test == t.number) rs) (open_starts-snoc es (Start n a w p) refl) ∙ list_any-append (λ (r : Running). r.test == t.number) (open_starts es) (record { test = n; attempt = a; worker = w; placement = p } ∷ [])

    by_open : (o more over : Bool) (last : Option Verdict) → (if not (o || more) && over then last else None) ≡ Some v → (if not o && over then last else None) ≡ Some v
    by_open true more over last has = cc
    by_open false true over last has = cc
    by_open false false over last has = has

    by_attempts : attempted_verdict repeat t (es ++ Start n a w p ∷ []) ≡ Some v → attempted_verdict repeat t es ≡ Some v
    by_attempts has =
        by_open (is_open_in t.number es) (n == t.number || false) (is_over repeat (attempts_of t.number t.rules es)) (last_of_list (attempts_of t.number t.rules es))
        (sym (ap (λ (vs : List Verdict). if not (is_open_in t.number es || (n == t.number || false)) && is_over repeat vs then last_of_list vs else None) (attempts-snoc t.number t.rules es (Start n a w p) refl))
        ∙ sym (ap (λ (b : Bool). if not b && is_over repeat (attempts_of t.number t.rules (es ++ Start n a w p ∷ [])) then last_of_list (attempts_of t.number t.rules (es ++ Start n a w p ∷ [])) else None) open_more)
        ∙ has)

    by_cause : (o : Option Cause) → settled_or o (attempted_verdict repeat t (es ++ Start n a w p ∷ [])) ≡ Some v → settled_or o (attempted_verdict repeat t es) ≡ Some v
    by_cause None has = by_attempts has
    by_cause (Some c) has = has

    by_disabled : (d : Bool) → (if d then Some Disabled else settled_or (settled_cause t.number (es ++ Start n a w p ∷ [])) (attempted_verdict repeat t (es ++ Start n a w p ∷ []))) ≡ Some v → (if d then Some Disabled else settled_or (settled_cause t.number es) (attempted_verdict repeat t es)) ≡ Some v
    by_disabled true has = has
    by_disabled false has =
        by_cause (settled_cause t.number es) (sym (ap (λ (o : Option Cause). settled_or o (attempted_verdict repeat t (es ++ Start n a w p ∷ []))) (settled-snoc t.number es (Start n a w p) refl)) ∙ has)
