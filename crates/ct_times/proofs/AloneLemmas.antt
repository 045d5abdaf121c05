-- The open starts of an allowed history: their tests are in the plan, and a lone test is open alone. So what is
-- shown of the other tests makes a capacity.
use Rattle.std.proofs.Common.{◌≡◌, ◌∙◌, sym, ap, subst, Bool, true, false, ℕ, suc, ◌+◌, ◌≤◌, List, [], ◌∷◌, ◌++◌, length, refl, arith, inl, inr, leb-true}
use Rattle.std.specs.Prelude.{◌⊎◌, Option, Some, None, is_some, ◌==◌, ◌&&◌, ◌||◌, not, cond, nat_le, sum_by, All, AllPairs}
use Rattle.std.specs.List.{list_all, list_any}
use Rattle.std.proofs.lemmas.Bool.{and_parts, and_from, cases_Bool, true≢false, or_parts}
use Rattle.std.proofs.lemmas.List.{take_all}
use Rattle.std.proofs.lemmas.List.Folds.{list_all-append}
use Rattle.std.proofs.lemmas.List.Sums.{sum_by-cons}
use Rattle.ct_history.specs.declared.plan.PlanTest.{PlanTest}
use Rattle.ct_history.specs.declared.plan.PlanParts.{PlanParts}
use Rattle.ct_history.specs.declared.history.Entry.{Entry}
use Rattle.ct_history.specs.declared.history.Entry.TheVariants.{Start, End, Settle, Stop}
use Rattle.ct_history.specs.Plan.{IsSound, has_sound_processors, test_at}
use Rattle.ct_history.specs.History.{Running, is_busy_in, open_starts, processors_of}
use Rattle.ct_history.specs.Rules.{exclude, is_serial, locks_out}
use Rattle.ct_history.specs.Legal.{GetAlong, IsWithin, is_allowed, is_allowed_so_far, is_stop_due, starts}
use Rattle.ct_history.proofs.ApartLemmas.{allowed_induction}
use Rattle.ct_history.proofs.MayLemmas.{starts-parts}
use Rattle.ct_history.proofs.OpenLemmas.{is_of, open_starts-end, open_starts-snoc, opens_settle, opens_stop}
use Rattle.ct_history.proofs.PartListLemmas.{all_kept}
use Rattle.ct_history.proofs.ProgressLemmas.{all_found}
use Rattle.ct_history.proofs.WithinLemmas.{stays_within}
use Rattle.ct_times.specs.Capacity.{IsCapacity, ran}
use Rattle.ct_times.specs.Amounts.{amount_at, amount_of, is_lone}

-- each of these starts is of a test of the plan
abbrev pub are_planned : PlanParts → List Running → Bool
are_planned plan rs = list_all (λ (r : Running). is_some (test_at plan.tests r.test)) rs

-- what holds of the open starts of an allowed history
pub record AreOpen (plan : PlanParts) (es : List Entry) : Type 0 where
  pub planned : are_planned plan (open_starts es) ≡ true
  pub within : IsWithin plan es

planned-snoc : (plan : PlanParts) (es : List Entry) (e : Entry) → is_allowed plan es e ≡ true → are_planned plan (open_starts es) ≡ true → are_planned plan (open_starts (es ++ e ∷ [])) ≡ true
planned-snoc plan es (Start n a w p) allowed planned =
    let most = and_parts (not (is_stop_due plan es) && starts plan es a p (test_at plan.tests n)) (not (is_busy_in w es)) allowed in
    let both = and_parts (not (is_stop_due plan es)) (starts plan es a p (test_at plan.tests n)) most.0 in
    let begins = starts-parts plan es a p (test_at plan.tests n) both.1 in
    let run : Running = record { test = n; attempt = a; worker = w; placement = p } in
    subst (λ (rs : List Running). are_planned plan rs ≡ true) (sym (open_starts-snoc es (Start n a w p) refl))
    (list_all-append (λ (r : Running). is_some (test_at plan.tests r.test)) (open_starts es) (run ∷ [])
    ∙ and_from (are_planned plan (open_starts es)) (is_some (test_at plan.tests n) && true) planned (ap (λ (o : Option PlanTest). is_some o && true) begins.found))
planned-snoc plan es (End t a w s) allowed planned =
    subst (λ (rs : List Running). are_planned plan rs ≡ true) (sym (open_starts-end es t a w s))
    (all_kept (λ r. not (is_of t a r)) (λ (r : Running). is_some (test_at plan.tests r.test)) (open_starts es) planned)
planned-snoc plan es (Settle t c) allowed planned = subst (λ (rs : List Running). are_planned plan rs ≡ true) (sym (opens_settle es t c)) planned
planned-snoc plan es Stop allowed planned = subst (λ (rs : List Running). are_planned plan rs ≡ true) (sym (opens_stop es)) planned

pub are_open : (plan : PlanParts) (es : List Entry) → is_allowed_so_far plan es ≡ true → AreOpen plan es
are_open plan es so_far = record {
  planned = allowed_induction plan (λ (xs : List Entry). are_planned plan (open_starts xs) ≡ true) (planned-snoc plan) refl es so_far;
  within = subst (λ (xs : List Entry). IsWithin plan xs) (take_all (length es) es (omega arith)) (stays_within plan es so_far (length es));
}

-- a test that takes no lock out of another one is serial only alone
serial_parts : (one other : Option PlanTest) → exclude one other ≡ false → (is_serial one ≡ false) × (is_serial other ≡ false)
unfolding exclude
serial_parts one other apart =
    let three = or_parts (locks_out one other || locks_out other one || is_serial one) (is_serial other) apart in
    let two = or_parts (locks_out one other || locks_out other one) (is_serial one) three.0 in
    (two.1, three.1)

-- the tests that lock each other out do not get along
pub locks_parts : (one other : Option PlanTest) → exclude one other ≡ false → (locks_out one other ≡ false) × (locks_out other one ≡ false)
unfolding exclude
locks_parts one other apart =
    let three = or_parts (locks_out one other || locks_out other one || is_serial one) (is_serial other) apart in
    let two = or_parts (locks_out one other || locks_out other one) (is_serial one) three.0 in
    or_parts (locks_out one other) (locks_out other one) two.0

-- the test that was looked up is there and lone
abbrev lone_at : ℕ → Option PlanTest → Bool
lone_at level None = false
lone_at level (Some t) = is_lone level t

-- some of these starts is of a lone test
abbrev pub has_lone : PlanParts → List Running → Bool
has_lone plan rs = list_any (λ (r : Running). lone_at plan.level (test_at plan.tests r.test)) rs

-- the processors of the test of a start
abbrev takes : PlanParts → Running → ℕ
takes plan r = processors_of (test_at plan.tests r.test)

lone_parts : (level : ℕ) (o : Option PlanTest) → lone_at level o ≡ true → (is_serial o ≡ true) ⊎ (level ≤ processors_of o)
lone_parts level None is = absurd (true≢false (sym is))
lone_parts level (Some t) is = elim (cases_Bool t.serial) [
  | inl serial ↦ inl serial
  | inr shared ↦ inr (leb-true level t.processors (sym (ap (λ (b : Bool). b || nat_le level t.processors) shared) ∙ is))
]

module _ (plan : PlanParts) (sound : IsSound plan) where
  some_taken : (o : Option PlanTest) (n : ℕ) → test_at plan.tests n ≡ o → is_some o ≡ true → 1 ≤ processors_of o
  some_taken None n is there = absurd (true≢false (sym there))
  some_taken (Some t) n is there =
      let fits = all_found (has_sound_processors plan.level) (λ (x : PlanTest). x.number == n) plan.tests t sound.processors is in
      leb-true 1 t.processors (and_parts (nat_le 1 t.processors) (nat_le t.processors plan.level) fits).0

  -- no lone test is open beside a start that gets along with all
  none_lone : (r : Running) (rs : List Running) → All (GetAlong plan.tests r) rs → has_lone plan rs ≡ true → 1 ≤ takes plan r → takes plan r + sum_by (takes plan) rs ≤ plan.level → ⊥
  none_lone r [] apart lone some most = true≢false (sym lone)
  none_lone r (x ∷ xs) apart lone some most = elim (cases_Bool (lone_at plan.level (test_at plan.tests x.test))) [
    | inl this ↦ elim (lone_parts plan.level (test_at plan.tests x.test) this) [
      | inl serial ↦ true≢false (sym serial ∙ (serial_parts (test_at plan.tests r.test) (test_at plan.tests x.test) (apart 0 x (omega arith))).1)
      | inr all ↦ omega (arith, all, some, most, sum_by-cons (takes plan) x xs)
    ]
    | inr other ↦
        none_lone r xs (λ k d lt. apart (suc k) d (omega (arith, lt))) (sym (ap (λ (b : Bool). b || has_lone plan xs) other) ∙ lone) some (omega (arith, most, sum_by-cons (takes plan) x xs))
  ]

  -- a lone test is open alone
  alone : (rs : List Running) → are_planned plan rs ≡ true → AllPairs (GetAlong plan.tests) rs → sum_by (takes plan) rs ≤ plan.level → has_lone plan rs ≡ true → length rs ≤ 1
  alone [] planned apart most lone = omega arith
  alone (r ∷ []) planned apart most lone = omega arith
  alone (r ∷ q ∷ rs) planned apart most lone =
      let first = and_parts (is_some (test_at plan.tests r.test)) (are_planned plan (q ∷ rs)) planned in
      let second = and_parts (is_some (test_at plan.tests q.test)) (are_planned plan rs) first.1 in
      let one = some_taken (test_at plan.tests r.test) r.test refl first.0 in
      let two = some_taken (test_at plan.tests q.test) q.test refl second.0 in
      let sum : takes plan r + sum_by (takes plan) (q ∷ rs) ≤ plan.level = omega (arith, most, sum_by-cons (takes plan) r (q ∷ rs)) in
      elim (cases_Bool (lone_at plan.level (test_at plan.tests r.test))) [
        | inl this ↦ elim (lone_parts plan.level (test_at plan.tests r.test) this) [
          | inl serial ↦ absurd (true≢false (sym serial ∙ (serial_parts (test_at plan.tests r.test) (test_at plan.tests q.test) (apart 0 1 r (omega arith) (omega arith))).0))
          | inr all ↦ absurd (omega (arith, all, two, sum, sum_by-cons (takes plan) q rs))
        ]
        | inr other ↦
            absurd (none_lone r (q ∷ rs) (λ k d lt. apart 0 (suc k) d (omega arith) (omega (arith, lt))) (sym (ap (λ (b : Bool). b || has_lone plan (q ∷ rs)) other) ∙ lone) one sum)
      ]

  module _ (recorded : List Entry) (size : ℕ) (other : PlanTest → ℕ) where
    -- what the test of a start takes, if it is not lone
    abbrev pub other_at : Option PlanTest → ℕ
    other_at None = 0
    other_at (Some t) = other t

    abbrev pub others : List Running → ℕ
    others rs = sum_by (λ (r : Running). other_at (test_at plan.tests r.test)) rs

    abbrev amount : ℕ → ℕ
    amount test = amount_of plan recorded size other test

    amount_most : (b : Bool) (o : Option PlanTest) → lone_at plan.level o ≡ false → cond b (amount_at plan.level size other o) 0 ≤ other_at o
    amount_most false o shared = omega arith
    amount_most true None shared = omega arith
    amount_most true (Some t) shared =
        let is : cond (is_lone plan.level t) size (other t) ≡ other t = ap (λ (b : Bool). cond b size (other t)) shared in
        omega (arith, is)

    sums_most : (rs : List Running) → has_lone plan rs ≡ false → sum_by (λ (r : Running). amount r.test) rs ≤ others rs
    sums_most [] none = omega arith
    sums_most (r ∷ rs) none =
        let both = or_parts (lone_at plan.level (test_at plan.tests r.test)) (has_lone plan rs) none in
        omega (
          arith,
          amount_most (ran recorded r.test) (test_at plan.tests r.test) both.0,
          sums_most rs both.1,
          sum_by-cons (λ (q : Running). amount q.test) r rs,
          sum_by-cons (λ (q : Running). other_at (test_at plan.tests q.test)) r rs,
        )

    lone_most : (b : Bool) (o : Option PlanTest) → lone_at plan.level o ≡ true → cond b (amount_at plan.level size other o) 0 ≤ size
    lone_most false o lone = omega arith
    lone_most true None lone = omega arith
    lone_most true (Some t) lone =
        let is : cond (is_lone plan.level t) size (other t) ≡ size = ap (λ (b : Bool). cond b size (other t)) lone in
        omega (arith, is)

    one_most : (rs : List Running) → length rs ≤ 1 → has_lone plan rs ≡ true → sum_by (λ (r : Running). amount r.test) rs ≤ size
    one_most [] few lone = omega arith
    one_most (r ∷ []) few lone = elim (cases_Bool (lone_at plan.level (test_at plan.tests r.test))) [
      | inl this ↦
          let none : sum_by (λ (q : Running). amount q.test) [] ≡ 0 = refl in
          omega (arith, none, lone_most (ran recorded r.test) (test_at plan.tests r.test) this, sum_by-cons (λ (q : Running). amount q.test) r [])
      | inr shared ↦ absurd (true≢false (sym lone ∙ ap (λ (b : Bool). b || false) shared))
    ]
    one_most (r ∷ q ∷ rs) few lone = absurd (omega (arith, few))

    -- where the other tests that are open fit into the size, the amounts are a capacity
    pub capacity_from : 1 ≤ size → ((es : List Entry) → is_allowed_so_far plan es ≡ true → AreOpen plan es → others (open_starts es) ≤ size) → IsCapacity plan size amount
    capacity_from some fits = record {
      size_is_some = some;
      holds = λ es so_far.
          let are = are_open plan es so_far in
          elim (cases_Bool (has_lone plan (open_starts es))) [
            | inl lone ↦ one_most (open_starts es) (alone (open_starts es) are.planned are.within.apart are.within.processors lone) lone
            | inr none ↦ omega (arith, sums_most (open_starts es) none, fits es so_far are)
          ];
    }
