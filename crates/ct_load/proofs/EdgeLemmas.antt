-- The tests of a load have few edges and no cycle: what comes before a test is the test in front of it.
use Rattle.std.proofs.Common.{◌≡◌, ◌∙◌, ◌⊎◌, sym, ap, subst, refl, ℕ, ◌+◌, ◌-◌, ◌%◌, ◌<◌, ◌≤◌, ◌^◌, Bool, true, false, cond, ◌||◌, ◌==◌, zero, suc, List, [], ◌∷◌, length, map, arith, inl, inr}
use Rattle.std.specs.Prelude.{Option, Some, None, bytes_eq, drop, filter, slice_get, sum_by}
use Rattle.std.specs.List.{range_with_len}
use Rattle.std.proofs.lemmas.Bool.{and_parts, cases_Bool, true≢false}
use Rattle.std.proofs.lemmas.Bool.Decides.{nat_tests}
use Rattle.std.proofs.lemmas.Fmt.{decimal_injective}
use Rattle.std.proofs.lemmas.List.FromFn.{length-map-range_with_len, length-range_with_len}
use Rattle.std.proofs.lemmas.List.Sums.{count_by-le-length, length-filter, sum_by-cons}
use Rattle.std.proofs.lemmas.Slice.Eq.{bytes_eq-Decides}
use Rattle.ct_base.specs.Numbers.{is_in}
use Rattle.ct_base.specs.declared.defs.TestDef.{TestDef}
use Rattle.ct_props.specs.Numbered.{at_number}
use Rattle.ct_props.specs.declared.props.Props.{Props}
use Rattle.ct_props.specs.declared.wanted.Choice.{Choice}
use Rattle.ct_fixture.specs.Drawing.{after_rounds, fixtures_required, is_drawn, members_of}
use Rattle.ct_graph.specs.Before.{before_of, comes_before}
use Rattle.ct_graph.specs.Cycle.{is_cycle, leads_round, leads_to}
use Rattle.ct_graph.specs.Order.{edges_of}
use Rattle.ct_load.specs.Tree.{load_test_name}
use Rattle.ct_load.proofs.TreeTests.{load_def}
use Rattle.ct_load.proofs.PropsLemmas.{load_own, own_by}

-- what a list has at a place: what is made of the number there, or nothing
found : {X : Type 0} (f : ℕ → X) (first count place : ℕ) → ((place < count) × (slice_get (map f (range_with_len first count)) place ≡ Some (f (first + place)))) ⊎ (slice_get (map f (range_with_len first count)) place ≡ None)
found f first zero place = inr refl
found f first (suc count) zero = inl (omega arith, ap (λ (n : ℕ). Some (f n)) (omega arith))
found f first (suc count) (suc place) = elim (found f (first + 1) count place) [
  | inl there ↦ inl (omega (arith, there.0), there.1 ∙ ap (λ (n : ℕ). Some (f n)) (omega arith))
  | inr none ↦ inr none
]

found_at : {X : Type 0} (f : ℕ → X) (count number : ℕ) → ((0 < number) × (number ≤ count) × (at_number (map f (range_with_len 1 count)) number ≡ Some (f number))) ⊎ (at_number (map f (range_with_len 1 count)) number ≡ None)
found_at f count zero = inr refl
found_at f count (suc place) = elim (found f 1 count place) [
  | inl there ↦ inl (omega arith, omega (arith, there.0), there.1 ∙ ap (λ (n : ℕ). Some (f n)) (omega arith))
  | inr none ↦ inr none
]

-- a test waits for the test in front of it alone
name_of_last : (j n : ℕ) → j < 2 ^ 64 → n < 2 ^ 64 → 0 < n → bytes_eq (load_test_name j) (load_test_name (n - 1)) ≡ true → suc j ≡ n
name_of_last j n small few some is =
    let same : load_test_name j ≡ load_test_name (n - 1) = (bytes_eq-Decides (load_test_name j) (load_test_name (n - 1))).0 is in
    let equal : j ≡ n - 1 = decimal_injective j (n - 1) small (omega (arith, few)) (ap (λ (t : List ℕ). drop 1 t) same) in
    omega (arith, equal, some)

before_by : (a b waits locks : Bool) (j n : ℕ) → j < 2 ^ 64 → n < 2 ^ 64 → 0 < n → comes_before (Some (load_def j)) (Some (own_by a b j)) (Some (own_by waits locks n)) ≡ true → suc j ≡ n
before_by a b false locks j n small few some is = absurd (cc)
before_by a b true locks j n small few some is = elim (cases_Bool (bytes_eq (load_test_name j) (load_test_name (n - 1)))) [
  | inl same ↦ name_of_last j n small few some same
  | inr other ↦ absurd (true≢false (sym is ∙ ap (λ (x : Bool). ((x || false) || false) || (false || false)) other))
]

module _ (count : ℕ) (few : count ≤ 100000) where
  abbrev defs : List TestDef
  defs = map load_def (range_with_len 1 count)

  abbrev owns : List Props
  owns = map load_own (range_with_len 1 count)

  -- what comes before a test is the test in front of it
  one_before : (j n : ℕ) → comes_before (at_number defs j) (at_number owns j) (at_number owns n) ≡ true → suc j ≡ n
  one_before j n is = elim (found_at load_def count j) [
    | inr none ↦ absurd (true≢false (sym is ∙ ap (λ (d : Option TestDef). comes_before d (at_number owns j) (at_number owns n)) none))
    | inl def ↦ elim (found_at load_own count j) [
      | inr none ↦ absurd (true≢false (sym is ∙ ap (λ (o : Option Props). comes_before (at_number defs j) o (at_number owns n)) none ∙ ap (λ (d : Option TestDef). comes_before d None (at_number owns n)) def.2))
      | inl own ↦ elim (found_at load_own count n) [
        | inr none ↦ absurd (true≢false (sym is ∙ ap (λ (o : Option Props). comes_before (at_number defs j) (at_number owns j) o) none ∙ ap (λ (d : Option TestDef). comes_before d (at_number owns j) None) def.2 ∙ ap (λ (o : Option Props). comes_before (Some (load_def j)) o None) own.2))
        | inl later ↦
            before_by (j % 10 == 0) (j % 4 == 0) (n % 10 == 0) (n % 4 == 0) j n (omega (arith, def.1, few)) (omega (arith, later.1, few)) later.0
            (sym (ap (λ (d : Option TestDef). comes_before d (at_number owns j) (at_number owns n)) def.2 ∙ ap (λ (o : Option Props). comes_before (Some (load_def j)) o (at_number owns n)) own.2 ∙ ap (λ (o : Option Props). comes_before (Some (load_def j)) (Some (load_own j)) o) later.2) ∙ is)
      ]
    ]
  ]

  -- what is kept of a list passes
  passes : (p : ℕ → Bool) (ns : List ℕ) (n : ℕ) → is_in (filter p ns) n ≡ true → p n ≡ true
  passes p [] n there = absurd (cc)
  passes p (m ∷ ms) n there = elim (cases_Bool (p m)) [
    | inr gone ↦ passes p ms n (sym (ap (λ (b : Bool). is_in (cond b (m ∷ filter p ms) (filter p ms)) n) gone) ∙ there)
    | inl kept ↦
        let here : ((m == n) || is_in (filter p ms) n) ≡ true = sym (ap (λ (b : Bool). is_in (cond b (m ∷ filter p ms) (filter p ms)) n) kept) ∙ there in
        elim (cases_Bool (m == n)) [
          | inl same ↦ let equal : m ≡ n = grind (same, arith, nat_tests) in ap p (sym equal) ∙ kept
          | inr other ↦ passes p ms n (sym (ap (λ (b : Bool). b || is_in (filter p ms) n) other) ∙ here)
        ]
  ]

  module _ (members : List ℕ) where
    abbrev before : ℕ → List ℕ
    before n = before_of defs owns members n

    front : (j n : ℕ) → is_in (before n) j ≡ true → suc j ≡ n
    front j n there = one_before j n (passes _ members j there)

    -- along a round the numbers fall
    falls : (first test : ℕ) (rest : List ℕ) → leads_to before first (test ∷ rest) ≡ true → first < test
    falls first test [] leads = let one = front first test leads in omega (arith, one)
    falls first test (next ∷ rest) leads =
        let parts = and_parts (is_in (before test) next) (leads_to before first (next ∷ rest)) leads in
        let one = front next test parts.0 in
        omega (arith, one, falls first next rest parts.1)

    pub no_cycle : (tests : List ℕ) → is_cycle before tests ≡ false
    no_cycle [] = refl
    no_cycle (first ∷ rest) = elim (cases_Bool (is_cycle before (first ∷ rest))) [
      | inl round ↦ absurd (omega (arith, falls first first rest (and_parts (leads_round before (first ∷ rest)) _ round).0))
      | inr none ↦ none
    ]

  -- of numbers that ascend at most one passes, where only one number can pass
  none_passes : (p q : ℕ → Bool) (first n c : ℕ) → ((j : ℕ) → q j ≡ true → suc j ≡ c) → c ≤ first → length (filter q (filter p (range_with_len first n))) ≤ 0
  none_passes p q first zero c only less = omega arith
  none_passes p q first (suc n) c only less =
      let later = none_passes p q (first + 1) n c only (omega (arith, less)) in
      elim (cases_Bool (p first)) [
        | inr gone ↦ subst (λ (b : Bool). length (filter q (cond b (first ∷ filter p (range_with_len (first + 1) n)) (filter p (range_with_len (first + 1) n)))) ≤ 0) (sym gone) later
        | inl kept ↦ subst (λ (b : Bool). length (filter q (cond b (first ∷ filter p (range_with_len (first + 1) n)) (filter p (range_with_len (first + 1) n)))) ≤ 0) (sym kept)
            (elim (cases_Bool (q first)) [
              | inl is ↦ absurd (omega (arith, only first is, less))
              | inr not ↦ subst (λ (b : Bool). length (cond b (first ∷ filter q (filter p (range_with_len (first + 1) n))) (filter q (filter p (range_with_len (first + 1) n)))) ≤ 0) (sym not) later
            ])
      ]

  one_passes : (p q : ℕ → Bool) (first n c : ℕ) → ((j : ℕ) → q j ≡ true → suc j ≡ c) → length (filter q (filter p (range_with_len first n))) ≤ 1
  one_passes p q first zero c only = omega arith
  one_passes p q first (suc n) c only =
      let later = one_passes p q (first + 1) n c only in
      elim (cases_Bool (p first)) [
        | inr gone ↦ subst (λ (b : Bool). length (filter q (cond b (first ∷ filter p (range_with_len (first + 1) n)) (filter p (range_with_len (first + 1) n)))) ≤ 1) (sym gone) later
        | inl kept ↦ subst (λ (b : Bool). length (filter q (cond b (first ∷ filter p (range_with_len (first + 1) n)) (filter p (range_with_len (first + 1) n)))) ≤ 1) (sym kept)
            (elim (cases_Bool (q first)) [
              | inl is ↦
                  let none = none_passes p q (first + 1) n c only (omega (arith, only first is)) in
                  subst (λ (b : Bool). length (cond b (first ∷ filter q (filter p (range_with_len (first + 1) n))) (filter q (filter p (range_with_len (first + 1) n)))) ≤ 1) (sym is) (omega (arith, none))
              | inr not ↦ subst (λ (b : Bool). length (cond b (first ∷ filter q (filter p (range_with_len (first + 1) n))) (filter q (filter p (range_with_len (first + 1) n)))) ≤ 1) (sym not) later
            ])
      ]

  sum_ones : (f : ℕ → ℕ) (ns : List ℕ) → ((n : ℕ) → f n ≤ 1) → sum_by f ns ≤ length ns
  sum_ones f [] one = omega arith
  sum_ones f (n ∷ ns) one = omega (arith, sum_by-cons f n ns, one n, sum_ones f ns one)

  -- the members are kept of the numbers of all tests
  pub few_edges : (choice : Choice) (chosen : List ℕ) → 0 < count → edges_of defs owns (members_of choice owns chosen) ≤ count
  few_edges choice chosen some =
      let rounds : length owns ≡ suc (count - 1) = length-map-range_with_len load_own 1 count ∙ omega (arith, some) in
      let inside : List ℕ = after_rounds choice owns chosen (count - 1) in
      let p : ℕ → Bool = λ number. is_in inside number || is_drawn choice (fixtures_required owns inside) (at_number owns number) in
      let kept : members_of choice owns chosen ≡ filter p (range_with_len 1 (length owns)) = ap (after_rounds choice owns chosen) rounds in
      let most : length (filter p (range_with_len 1 (length owns))) ≤ count =
      omega (arith, length-filter p (range_with_len 1 (length owns)), count_by-le-length p (range_with_len 1 (length owns)), length-range_with_len 1 (length owns), rounds, some) in
      let each : (n : ℕ) → length (before_of defs owns (filter p (range_with_len 1 (length owns))) n) ≤ 1 =
      λ n. one_passes p (λ j. comes_before (at_number defs j) (at_number owns j) (at_number owns n)) 1 (length owns) n (λ j is. one_before j n is) in
      subst (λ (ms : List ℕ). edges_of defs owns ms ≤ count) (sym kept) (omega (arith, most, sum_ones (λ n. length (before_of defs owns (filter p (range_with_len 1 (length owns))) n)) (filter p (range_with_len 1 (length owns))) each))
