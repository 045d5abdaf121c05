-- What one more entry changes for a test in a history, and what the verdict of a test tells of its attempts.
use Rattle.std.proofs.Common.{◌≡◌, ◌∙◌, sym, ap, Bool, true, false, ℕ, List, [], ◌∷◌, ◌++◌, length, refl, arith, inl, inr}
use Rattle.std.specs.Prelude.{Option, Some, None, filter, filter_map, find, is_some, not, ◌&&◌, ◌||◌, ◌==◌, ◌⊎◌, cond, if◌then◌else◌}
use Rattle.std.specs.List.{list_any, list_all, cons_option}
use Rattle.std.proofs.Math.Bool.{or-false}
use Rattle.std.proofs.lemmas.Bool.{and_parts, and_from, cases_Bool, not-true, true≢false, or_right}
use Rattle.std.proofs.lemmas.Bool.Decides.{nat_tests}
use Rattle.std.proofs.lemmas.List.{append-nil}
use Rattle.std.proofs.lemmas.List.Elements.{filter_map-append}
use Rattle.std.proofs.lemmas.List.Folds.{list_all-append, list_any-append}
use Rattle.ct_alloc.specs.declared.placement.Placement.{Placement}
use Rattle.ct_verdict.specs.declared.attempt.Seen.{Seen}
use Rattle.ct_verdict.specs.declared.repeat.Repeat.{Repeat}
use Rattle.ct_verdict.specs.declared.rules.Rules.{Rules}
use Rattle.ct_verdict.specs.declared.verdict.Cause.{Cause}
use Rattle.ct_verdict.specs.declared.verdict.Cause.TheVariants.{Stopped}
use Rattle.ct_verdict.specs.declared.verdict.Verdict.{Verdict}
use Rattle.ct_verdict.specs.declared.verdict.Verdict.TheVariants.{Disabled}
use Rattle.ct_verdict.specs.Verdict.{is_repeated, verdict_of}
use Rattle.ct_history.specs.declared.plan.PlanTest.{PlanTest}
use Rattle.ct_history.specs.declared.history.Entry.{Entry}
use Rattle.ct_history.specs.declared.history.Entry.TheVariants.{Start, End}
use Rattle.ct_history.specs.History.{Running, attempt_by, attempts_of, has_stop, is_open_in, is_stop, open_starts, settled_by}
use Rattle.ct_history.specs.Verdicts.{first_of_list, is_over, is_passed_verdict, last_of_list, settled_cause, settled_or, verdict_in}
use Rattle.ct_history.specs.Legal.{same_cause}
use Rattle.ct_history.proofs.BoolLemmas.{eq_same}
use Rattle.ct_history.proofs.LegalLemmas.{stop-snoc}
use Rattle.ct_history.proofs.OpenLemmas.{is_of, open_starts-end, open_starts-snoc}
use Rattle.ct_history.specs.Endings.{last_seen, seen_at_end}
use Rattle.ct_history.proofs.FinalLemmas.{attempts-snoc}
use Rattle.ct_history.proofs.AttemptLemmas.{last_or-snoc}

pub first-append : {A : Type 0} (xs ys : List A) → first_of_list xs ≡ None → first_of_list (xs ++ ys) ≡ first_of_list ys
first-append [] ys none = refl
first-append (x ∷ xs) ys none = cc

-- the first entry that settles a test gives the test its cause
pub settled-first : (n : ℕ) (es : List Entry) (e : Entry) (c : Cause) → settled_cause n es ≡ None → settled_by n e ≡ Some c → settled_cause n (es ++ e ∷ []) ≡ Some c
settled-first n es e c none is =
    ap first_of_list (filter_map-append (settled_by n) es (e ∷ []) ∙ ap (λ (o : Option Cause). filter_map (settled_by n) es ++ cons_option o []) is) ∙ first-append (filter_map (settled_by n) es) (c ∷ []) none

-- an End adds the verdict of its attempt
pub attempts-end : (n : ℕ) (rules : Rules) (es : List Entry) (a w : ℕ) (s : Seen) → attempts_of n rules (es ++ End n a w s ∷ []) ≡ attempts_of n rules es ++ verdict_of rules s ∷ []
attempts-end n rules es a w s =
    filter_map-append (attempt_by n rules) es (End n a w s ∷ []) ∙ ap (λ (b : Bool). filter_map (attempt_by n rules) es ++ cons_option (if b then Some (verdict_of rules s) else None) []) (eq_same n)

-- an entry that ends no attempt of the test leaves what was seen of its last one
pub last-snoc : (n : ℕ) (es : List Entry) (e : Entry) → seen_at_end n e ≡ None → last_seen n (es ++ e ∷ []) ≡ last_seen n es
last-snoc n es e none =
    ap last_of_list (filter_map-append (seen_at_end n) es (e ∷ []) ∙ ap (λ (o : Option Seen). filter_map (seen_at_end n) es ++ cons_option o []) none ∙ append-nil (filter_map (seen_at_end n) es))

-- an End of the test tells what was last seen of the test
pub last-end : (n : ℕ) (es : List Entry) (a w : ℕ) (s : Seen) → last_seen n (es ++ End n a w s ∷ []) ≡ Some s
last-end n es a w s =
    ap last_of_list (filter_map-append (seen_at_end n) es (End n a w s ∷ []) ∙ ap (λ (b : Bool). filter_map (seen_at_end n) es ++ cons_option (if b then Some s else None) []) (eq_same n))
    ∙ last_or-snoc None (filter_map (seen_at_end n) es) s

pub stops : (es : List Entry) (e : Entry) → has_stop es ≡ true → has_stop (es ++ e ∷ []) ≡ true
stops es e is = stop-snoc es e ∙ ap (λ (b : Bool). b || (is_stop e || false)) is

-- all kept elements pass `r`, where all elements pass `p`, and each that passes `p` and is kept passes `r`
pub all_filter : {A : Type 0} (p q r : A → Bool) (xs : List A) → ((x : A) → p x ≡ true → q x ≡ true → r x ≡ true) → list_all p xs ≡ true → list_all r (filter q xs) ≡ true
all_filter p q r [] each all = refl
all_filter p q r (x ∷ xs) each all =
    let both = and_parts (p x) (list_all p xs) all in
    elim (cases_Bool (q x)) [
      | inl kept ↦ ap (λ (b : Bool). list_all r (cond b (x ∷ filter q xs) (filter q xs))) kept ∙ and_from (r x) (list_all r (filter q xs)) (each x both.0 kept) (all_filter p q r xs each both.1)
      | inr gone ↦ ap (λ (b : Bool). list_all r (cond b (x ∷ filter q xs) (filter q xs))) gone ∙ all_filter p q r xs each both.1
    ]

-- dropping elements does not change whether some element passes, where no dropped element passes
pub any_filter : {A : Type 0} (p q : A → Bool) (xs : List A) → ((x : A) → q x ≡ false → p x ≡ false) → list_any p (filter q xs) ≡ list_any p xs
any_filter p q [] each = refl
any_filter p q (x ∷ xs) each = elim (cases_Bool (q x)) [
  | inl kept ↦ ap (λ (b : Bool). list_any p (cond b (x ∷ filter q xs) (filter q xs))) kept ∙ ap (λ (b : Bool). p x || b) (any_filter p q xs each)
  | inr gone ↦
      ap (λ (b : Bool). list_any p (cond b (x ∷ filter q xs) (filter q xs))) gone ∙ any_filter p q xs each ∙ sym (ap (λ (b : Bool). b || list_any p xs) (each x gone))
]

pub none_passes : {A : Type 0} (p : A → Bool) (xs : List A) → list_all (λ x. not (p x)) xs ≡ true → list_any p xs ≡ false
none_passes p [] all = refl
none_passes p (x ∷ xs) all =
    let both = and_parts (not (p x)) (list_all (λ y. not (p y)) xs) all in
    ap (λ (b : Bool). b || list_any p xs) (not-true (p x) both.0) ∙ none_passes p xs both.1

-- the open start is of another test, or has this attempt
abbrev pub is_numbered : ℕ → ℕ → Running → Bool
is_numbered number attempt r = not (r.test == number) || r.attempt == attempt

pub numbered_other : (number attempt : ℕ) (r : Running) → (r.test == number) ≡ false → is_numbered number attempt r ≡ true
numbered_other number attempt r other = ap (λ (b : Bool). not b || r.attempt == attempt) other

-- the verdict of a test, from the facts of a history: disabled, cause, open start and verdicts of attempts
abbrev pub verdict_from : Repeat → Bool → Option Cause → Bool → List Verdict → Option Verdict
verdict_from repeat disabled settled opens attempts = if disabled then Some Disabled else settled_or settled (if not opens && is_over repeat attempts then last_of_list attempts else None)

-- a test that is neither final nor open is not disabled, nor settled, and its attempts are not over
pub record IsUnfinished (disabled : Bool) (settled : Option Cause) (over : Bool) : Type 0 where
  pub enabled : disabled ≡ false
  pub unsettled : settled ≡ None
  pub goes : over ≡ false

pub unfinished : (repeat : Repeat) (disabled : Bool) (settled : Option Cause) (opens : Bool) (vs : List Verdict) → opens ≡ false → is_some (verdict_from repeat disabled settled opens vs) ≡ false → IsUnfinished disabled settled (is_over repeat vs)
unfinished repeat true settled opens vs closed is = cc
unfinished repeat false (Some c) opens vs closed is = cc
unfinished repeat false None true vs closed is = cc
unfinished repeat false None false vs closed is = record { enabled = refl; unsettled = refl; goes = by_last (last_of_list vs) is }
  where
    by_again : (again : Bool) (v : Verdict) → is_some (if not false && not again then Some v else None) ≡ false → not again ≡ false
    by_again true v has = refl
    by_again false v has = cc

    by_last : (last : Option Verdict) → is_some (if not false && not (is_repeated repeat (length vs) last) then last else None) ≡ false → not (is_repeated repeat (length vs) last) ≡ false
    by_last None has = refl
    by_last (Some v) has = by_again (is_repeated repeat (length vs) (Some v)) v has

-- where attempts have a verdict, they are over, and it is the verdict of the last attempt
pub over_last : (over : Bool) (last : Option Verdict) (v : Verdict) → (if not false && over then last else None) ≡ Some v → (over ≡ true) × (last ≡ Some v)
over_last true last v is = (refl, is)
over_last false last v is = cc

-- attempts that passed are over
pub passed_over : (repeat : Repeat) (disabled : Bool) (settled : Option Cause) (opens : Bool) (vs : List Verdict) → is_passed_verdict (verdict_from repeat disabled settled opens vs) ≡ true → (is_over repeat vs ≡ true) × (is_passed_verdict (last_of_list vs) ≡ true)
passed_over repeat true settled opens vs is = cc
passed_over repeat false (Some c) opens vs is = cc
passed_over repeat false None true vs is = cc
passed_over repeat false None false vs is = by_over (is_over repeat vs) (last_of_list vs) is
  where
    by_over : (over : Bool) (last : Option Verdict) → is_passed_verdict (if not false && over then last else None) ≡ true → (over ≡ true) × (is_passed_verdict last ≡ true)
    by_over true last has = (refl, has)
    by_over false last has = cc

-- the facts of a test that stay: its attempts, what was last seen, and its open start; a Stop stays as well
pub record Keeps (t : PlanTest) (es more : List Entry) : Type 0 where
  pub attempts : attempts_of t.number t.rules more ≡ attempts_of t.number t.rules es
  pub last : last_seen t.number more ≡ last_seen t.number es
  pub opens : is_open_in t.number more ≡ is_open_in t.number es
  pub numbered : (attempt : ℕ) → list_all (is_numbered t.number attempt) (open_starts es) ≡ true → list_all (is_numbered t.number attempt) (open_starts more) ≡ true
  pub stops : has_stop es ≡ true → has_stop more ≡ true

pub verdict_kept : (repeat : Repeat) (t : PlanTest) (es more : List Entry) → Keeps t es more → settled_cause t.number more ≡ settled_cause t.number es → verdict_in repeat t more ≡ verdict_in repeat t es
verdict_kept repeat t es more kept settled =
    ap (λ (o : Option Cause). verdict_from repeat t.disabled o (is_open_in t.number more) (attempts_of t.number t.rules more)) settled
    ∙ ap (λ (b : Bool). verdict_from repeat t.disabled (settled_cause t.number es) b (attempts_of t.number t.rules more)) kept.opens
    ∙ ap (λ (vs : List Verdict). verdict_from repeat t.disabled (settled_cause t.number es) (is_open_in t.number es) vs) kept.attempts

pub keeps-start : (t : PlanTest) (es : List Entry) (n a w : ℕ) (p : Option Placement) → (n == t.number) ≡ false → Keeps t es (es ++ Start n a w p ∷ [])
keeps-start t es n a w p unlike =
    let run : Running = record { test = n; attempt = a; worker = w; placement = p } in
    let more = open_starts-snoc es (Start n a w p) refl in
    record {
      attempts = attempts-snoc t.number t.rules es (Start n a w p) refl;
      last = last-snoc t.number es (Start n a w p) refl;
      opens =
          ap (λ (rs : List Running). list_any (λ (r : Running). r.test == t.number) rs) more
          ∙ list_any-append (λ (r : Running). r.test == t.number) (open_starts es) (run ∷ [])
          ∙ ap (λ (b : Bool). is_open_in t.number es || (b || false)) unlike
          ∙ or-false (is_open_in t.number es);
      numbered = λ attempt all.
          ap (λ (rs : List Running). list_all (is_numbered t.number attempt) rs) more
          ∙ list_all-append (is_numbered t.number attempt) (open_starts es) (run ∷ [])
          ∙ and_from (list_all (is_numbered t.number attempt) (open_starts es)) (is_numbered t.number attempt run && true) all (and_from (is_numbered t.number attempt run) true (numbered_other t.number attempt run unlike) refl);
      stops = stops es (Start n a w p);
    }

-- the open start of another test is no open start of this test
pub other_test : (m n k : ℕ) (b : Bool) → (n == m) ≡ false → not (k == n && b) ≡ false → (k == m) ≡ false
other_test m n k b unlike dropped = elim (cases_Bool (k == n)) [
  | inl same ↦
      let here : k ≡ n = grind (arith, nat_tests) in
      ap (λ (i : ℕ). i == m) here ∙ unlike
  | inr other ↦ absurd (true≢false (sym (ap (λ (c : Bool). not (c && b)) other) ∙ dropped))
]

pub keeps-end : (t : PlanTest) (es : List Entry) (n a w : ℕ) (s : Seen) → (n == t.number) ≡ false → Keeps t es (es ++ End n a w s ∷ [])
keeps-end t es n a w s unlike =
    let less = open_starts-end es n a w s in
    record {
      attempts = attempts-snoc t.number t.rules es (End n a w s) (ap (λ (b : Bool). if b then Some (verdict_of t.rules s) else None) unlike);
      last = last-snoc t.number es (End n a w s) (ap (λ (b : Bool). if b then Some s else None) unlike);
      opens =
          ap (λ (rs : List Running). list_any (λ (r : Running). r.test == t.number) rs) less
          ∙ any_filter (λ (r : Running). r.test == t.number) (λ r. not (is_of n a r)) (open_starts es) (λ r dropped. other_test t.number n r.test (r.attempt == a) unlike dropped);
      numbered = λ attempt all.
          ap (λ (rs : List Running). list_all (is_numbered t.number attempt) rs) less
          ∙ all_filter (is_numbered t.number attempt) (λ r. not (is_of n a r)) (is_numbered t.number attempt) (open_starts es) (λ r is kept. is) all;
      stops = stops es (End n a w s);
    }

-- an entry that changes no open start, and ends no attempt of the test, keeps the facts of the test
pub keeps-quiet : (t : PlanTest) (es : List Entry) (e : Entry) → attempt_by t.number t.rules e ≡ None → seen_at_end t.number e ≡ None → open_starts (es ++ e ∷ []) ≡ open_starts es → Keeps t es (es ++ e ∷ [])
keeps-quiet t es e none unended same = record {
  attempts = attempts-snoc t.number t.rules es e none;
  last = last-snoc t.number es e unended;
  opens = ap (λ (rs : List Running). list_any (λ (r : Running). r.test == t.number) rs) same;
  numbered = λ attempt all. ap (λ (rs : List Running). list_all (is_numbered t.number attempt) rs) same ∙ all;
  stops = stops es e;
}

-- a held start has the attempt that all open starts of its test have
pub held_attempt : (n a w k : ℕ) (rs : List Running) → list_any (λ (r : Running). r.test == n && r.attempt == a && r.worker == w) rs ≡ true → list_all (is_numbered n k) rs ≡ true → a ≡ k
held_attempt n a w k [] is all = cc
held_attempt n a w k (r ∷ rs) is all =
    let both = and_parts (is_numbered n k r) (list_all (is_numbered n k) rs) all in
    elim (cases_Bool (r.test == n && r.attempt == a && r.worker == w)) [
      | inl here ↦
          let two = and_parts (r.test == n && r.attempt == a) (r.worker == w) here in
          let one = and_parts (r.test == n) (r.attempt == a) two.0 in
          let number : (r.attempt == k) ≡ true = sym (ap (λ (b : Bool). not b || r.attempt == k) one.0) ∙ both.0 in
          let attempt = one.1 in
          grind (arith, nat_tests)
      | inr not_here ↦ held_attempt n a w k rs (sym (ap (λ (b : Bool). b || list_any (λ (q : Running). q.test == n && q.attempt == a && q.worker == w) rs) not_here) ∙ is) both.1
    ]

-- an open start that is kept behind the End of the test's only open attempt is of another test
pub apart : (same number ended : Bool) → ended ≡ number → (not same || number) ≡ true → not (same && ended) ≡ true → not same ≡ true
apart false number ended is numbered kept = refl
apart true true true is numbered kept = cc
apart true true false is numbered kept = cc
apart true false ended is numbered kept = cc

-- a test with a settle cause is pending; the cause is Stopped after a Stop,
-- else the cause behind its predecessors
pub settled_so : (pending stop follows : Bool) (behind : Option Cause) (c : Cause) → (if not pending then None else (if stop then Some Stopped else (if follows then behind else None))) ≡ Some c → (pending ≡ true) × (((stop ≡ true) × (c ≡ Stopped)) ⊎ ((stop ≡ false) × (follows ≡ true) × (behind ≡ Some c)))
settled_so false stop follows behind c is = cc
settled_so true true follows behind c is = (refl, inl (refl, cc))
settled_so true false true behind c is = (refl, inr (refl, refl, is))
settled_so true false false behind c is = cc

pub no_cause : (c : Cause) → same_cause c None ≡ true → ⊥
no_cause c is = grind arith

pub same_cause-is : (c d : Cause) → same_cause c (Some d) ≡ true → d ≡ c
same_cause-is c d is = grind (arith, nat_tests)

pub cause-is : (c : Cause) (o : Option Cause) → same_cause c o ≡ true → o ≡ Some c
cause-is c None is = absurd (no_cause c is)
cause-is c (Some d) is = ap (λ (x : Cause). Some x) (same_cause-is c d is)

-- some element passes `q`, where some element passes `p` and the first that does passes `q`
pub any_from : {A : Type 0} (p q : A → Bool) (xs : List A) → ((x : A) → find p xs ≡ Some x → q x ≡ true) → list_any p xs ≡ true → list_any q xs ≡ true
any_from p q [] found any = cc
any_from p q (x ∷ xs) found any = elim (cases_Bool (p x)) [
  | inl here ↦ ap (λ (b : Bool). b || list_any q xs) (found x (ap (λ (b : Bool). cond b (Some x) (find p xs)) here))
  | inr not_here ↦
      or_right (q x) (list_any q xs) (any_from p q xs (λ y is. found y (ap (λ (b : Bool). cond b (Some x) (find p xs)) not_here ∙ is)) (sym (ap (λ (b : Bool). b || list_any p xs) not_here) ∙ any))
]
