-- The rounds of drawing in. After as many rounds as there are tests, the tests that are in draw in nothing
-- more. They stand in each set that has the chosen tests and draws in nothing more.
use Rattle.std.proofs.Common.{◌≡◌, ℕ, zero, suc, ◌≤◌, Bool, true, eqb, ◌||◌, List, [], ◌∷◌, length, filter, count_by, Option, Some, None, ◌⊎◌, inl, inr, refl, sym, ap, ◌∙◌, arith}
use Rattle.std.specs.List.{list_any, range_with_len}
use Rattle.std.proofs.lemmas.Bool.{false≢true, eq-eqb, or_cases, or_left, or_right}
use Rattle.std.proofs.lemmas.List.FromFn.{length-range_with_len}
use Rattle.ct_base.specs.Numbers.{is_in}
use Rattle.ct_base.proofs.TruthLemmas.{same_truth}
use Rattle.ct_props.proofs.NumberedLemmas.{number_within}
use Rattle.ct_props.specs.declared.props.Props.{Props}
use Rattle.ct_props.specs.declared.wanted.Choice.{Choice}
use Rattle.ct_props.specs.Numbered.{at_number}
use Rattle.ct_fixture.specs.Drawing.{draws, required_by, fixtures_required, is_drawn, next_round, after_rounds, members_of}
use Rattle.ct_fixture.proofs.NumberLemmas.{Grows, all_pass, any_at, any-flat_map, grows, in_row, from_row, kept_passes, never_any, passes_kept, same_kept, some_passes}

-- the fixtures that one test requires draw in another
abbrev pub draws_test : Choice → List Props → ℕ → ℕ → Bool
draws_test choice props test number = is_drawn choice (required_by (at_number props test)) (at_number props number)

-- these tests draw in nothing more
abbrev pub IsClosed : Choice → List Props → List ℕ → Type 0
IsClosed choice props tests = (test number : ℕ) → is_in tests test ≡ true → draws_test choice props test number ≡ true → is_in tests number ≡ true

-- the number is that of a test
abbrev pub IsNumber : List Props → ℕ → Type 0
IsNumber props number = (1 ≤ number) × (number ≤ length props)

drawn_there : (choice : Choice) (props : List Props) (fixtures : List (List ℕ)) (number : ℕ) (own : Option Props) → at_number props number ≡ own → is_drawn choice fixtures own ≡ true → IsNumber props number
drawn_there choice props fixtures number None is drawn = absurd (false≢true drawn)
drawn_there choice props fixtures number (Some own) is drawn = number_within props number own is

-- a test that is drawn in has a number
pub drawn_number : (choice : Choice) (props : List Props) (fixtures : List (List ℕ)) (number : ℕ) → is_drawn choice fixtures (at_number props number) ≡ true → IsNumber props number
drawn_number choice props fixtures number drawn = drawn_there choice props fixtures number (at_number props number) refl drawn

drawn_each : (choice : Choice) (props : List Props) (tests : List ℕ) (own : Option Props) → is_drawn choice (fixtures_required props tests) own ≡ list_any (λ test. is_drawn choice (required_by (at_number props test)) own) tests
drawn_each choice props tests None = never_any tests
drawn_each choice props tests (Some own) = any-flat_map (draws choice own) (λ test. required_by (at_number props test)) tests

-- tests draw a test in where one of them does
drawn_by_one : (choice : Choice) (props : List Props) (tests : List ℕ) (number : ℕ) → is_drawn choice (fixtures_required props tests) (at_number props number) ≡ list_any (λ test. draws_test choice props test number) tests
drawn_by_one choice props tests number = drawn_each choice props tests (at_number props number)

none_chosen : (chosen : List ℕ) → ((number : ℕ) → is_in chosen number ≡ true → ⊥) → [] ≡ chosen
none_chosen [] none = refl
none_chosen (first ∷ chosen) none = absurd (none first (or_left (eqb first first) (is_in chosen first) (eq-eqb first first refl)))

module _ (choice : Choice) (props : List Props) where
  -- a test that is in after one more round was in, or is drawn in
  from_round : (tests : List ℕ) (number : ℕ) → is_in (next_round choice props tests) number ≡ true → (is_in tests number ≡ true) ⊎ ((test : ℕ) × (is_in tests test ≡ true) × (draws_test choice props test number ≡ true))
  from_round tests number there =
      let kept = kept_passes (λ n. is_in tests n || is_drawn choice (fixtures_required props tests) (at_number props n)) number 1 (length props) there in
      elim (or_cases (is_in tests number) (is_drawn choice (fixtures_required props tests) (at_number props number)) kept.0) [
        | inl was ↦ inl was
        | inr drawn ↦ inr (some_passes (λ test. draws_test choice props test number) tests (sym (drawn_by_one choice props tests number) ∙ drawn))
      ]

  number_of_round : (tests : List ℕ) (number : ℕ) → is_in (next_round choice props tests) number ≡ true → IsNumber props number
  number_of_round tests number there =
      let kept = kept_passes (λ n. is_in tests n || is_drawn choice (fixtures_required props tests) (at_number props n)) number 1 (length props) there in
      (kept.1, omega (arith, kept.2))

  in_round : (tests : List ℕ) (number : ℕ) → IsNumber props number → (is_in tests number || is_drawn choice (fixtures_required props tests) (at_number props number)) ≡ true → is_in (next_round choice props tests) number ≡ true
  in_round tests number is passes =
      passes_kept (λ n. is_in tests n || is_drawn choice (fixtures_required props tests) (at_number props n)) number 1 (length props) (passes, is.0, omega (arith, is.1))

  -- a test that was in stays in
  stays_in : (tests : List ℕ) (number : ℕ) → IsNumber props number → is_in tests number ≡ true → is_in (next_round choice props tests) number ≡ true
  stays_in tests number is was = in_round tests number is (or_left (is_in tests number) (is_drawn choice (fixtures_required props tests) (at_number props number)) was)

  -- a test that one of the tests draws in comes in
  comes_in : (tests : List ℕ) (test number : ℕ) → is_in tests test ≡ true → draws_test choice props test number ≡ true → is_in (next_round choice props tests) number ≡ true
  comes_in tests test number there drawn =
      in_round tests number (drawn_number choice props (required_by (at_number props test)) number drawn) (or_right (is_in tests number) (is_drawn choice (fixtures_required props tests) (at_number props number)) (drawn_by_one choice props tests number ∙ any_at (λ t. draws_test choice props t number) test tests there drawn))

  -- where tests draw in nothing more, they draw in nothing more after one more round
  closed_still : (tests : List ℕ) → IsClosed choice props tests → IsClosed choice props (next_round choice props tests)
  closed_still tests closed test number there drawn =
      let was : is_in tests test ≡ true = elim (from_round tests test there) [ inl before ↦ before | inr by ↦ closed by.0 test by.1 by.2 ] in
      stays_in tests number (drawn_number choice props (required_by (at_number props test)) number drawn) (closed test number was drawn)

  -- where a round adds no test, the tests draw in nothing more
  closed_where_same : (tests : List ℕ) → ((number : ℕ) → is_in (range_with_len 1 (length props)) number ≡ true → is_in (next_round choice props tests) number ≡ true → is_in tests number ≡ true) → IsClosed choice props tests
  closed_where_same tests same test number there drawn =
      let is : IsNumber props number = drawn_number choice props (required_by (at_number props test)) number drawn in
      same number (in_row number 1 (length props) is.0 (omega (arith, is.1))) (comes_in tests test number there drawn)

  module _ (chosen : List ℕ) where
    -- how many tests are in after this many rounds
    abbrev count_after : ℕ → ℕ
    count_after rounds = count_by (λ number. is_in (after_rounds choice props chosen rounds) number) (range_with_len 1 (length props))

    -- after this many rounds, the tests draw in nothing more, or at least as many tests are in
    settles : (rounds : ℕ) → IsClosed choice props (after_rounds choice props chosen rounds) ⊎ (rounds ≤ count_after rounds)
    settles zero = inr (omega arith)
    settles (suc rounds) =
        let tests = after_rounds choice props chosen rounds in
        let row = range_with_len 1 (length props) in
        let more : Grows (λ number. is_in tests number) (λ number. is_in (next_round choice props tests) number) row =
        grows (λ number. is_in tests number) (λ number. is_in (next_round choice props tests) number) row (λ number there was. let is = from_row number 1 (length props) there in stays_in tests number (is.0, omega (arith, is.1)) was) in
        elim (settles rounds) [
          | inl closed ↦ inl (closed_still tests closed)
          | inr many ↦ elim more.more [
            | inl fewer ↦ inr (omega (arith, many, fewer))
            | inr same ↦ inl (closed_still tests (closed_where_same tests same))
          ]
        ]

    -- the members draw in nothing more
    pub members_closed : IsClosed choice props (members_of choice props chosen)
    members_closed =
        elim (settles (length props)) [
          | inl closed ↦ closed
          | inr many ↦ λ test number there drawn.
              let is : IsNumber props number = drawn_number choice props (required_by (at_number props test)) number drawn in
              all_pass (λ n. is_in (members_of choice props chosen) n) (range_with_len 1 (length props)) (omega (arith, many, length-range_with_len 1 (length props))) number (in_row number 1 (length props) is.0 (omega (arith, is.1)))
        ]

    stays : (number : ℕ) → IsNumber props number → is_in chosen number ≡ true → (rounds : ℕ) → is_in (after_rounds choice props chosen rounds) number ≡ true
    stays number is there zero = there
    stays number is there (suc rounds) = stays_in (after_rounds choice props chosen rounds) number is (stays number is there rounds)

    -- a chosen test is a member
    pub chosen_member : (number : ℕ) → IsNumber props number → is_in chosen number ≡ true → is_in (members_of choice props chosen) number ≡ true
    chosen_member number is there = stays number is there (length props)

    -- the tests that are in after any number of rounds stand in each set that has the
    -- chosen tests and draws in nothing more
    pub within_closed : (set : ℕ → Bool) → ((number : ℕ) → is_in chosen number ≡ true → set number ≡ true) → ((test number : ℕ) → set test ≡ true → draws_test choice props test number ≡ true → set number ≡ true) → (rounds number : ℕ) → is_in (after_rounds choice props chosen rounds) number ≡ true → set number ≡ true
    within_closed set start closed zero number there = start number there
    within_closed set start closed (suc rounds) number there =
        elim (from_round (after_rounds choice props chosen rounds) number there) [
          | inl was ↦ within_closed set start closed rounds number was
          | inr by ↦ closed by.0 number (within_closed set start closed rounds by.0 by.1) by.2
        ]

    -- where the chosen tests have numbers, each member has one
    numbers_after : ((number : ℕ) → is_in chosen number ≡ true → IsNumber props number) → (rounds number : ℕ) → is_in (after_rounds choice props chosen rounds) number ≡ true → IsNumber props number
    numbers_after start zero number there = start number there
    numbers_after start (suc rounds) number there = number_of_round (after_rounds choice props chosen rounds) number there

    pub member_number : ((number : ℕ) → is_in chosen number ≡ true → IsNumber props number) → (number : ℕ) → is_in (members_of choice props chosen) number ≡ true → IsNumber props number
    member_number start number there = numbers_after start (length props) number there

    listed_by : (set : ℕ → Bool) → ((number : ℕ) → is_in chosen number ≡ true → IsNumber props number) → ((number : ℕ) → is_in chosen number ≡ true → set number ≡ true) → ((test number : ℕ) → set test ≡ true → draws_test choice props test number ≡ true → set number ≡ true) → (rounds : ℕ) → length props ≡ rounds → ((number : ℕ) → set number ≡ true → is_in (after_rounds choice props chosen rounds) number ≡ true)
        → filter set (range_with_len 1 (length props)) ≡ after_rounds choice props chosen rounds
    listed_by set numbers start closed zero count sound = ap (λ n. filter set (range_with_len 1 n)) count ∙ none_chosen chosen (λ number there. let is = numbers number there in omega (arith, is.0, is.1, count))
    listed_by set numbers start closed (suc rounds) count sound =
        let tests = after_rounds choice props chosen rounds in
        let test = λ (n : ℕ). is_in tests n || is_drawn choice (fixtures_required props tests) (at_number props n) in
        same_kept set test 1 (length props) (λ number from below. same_truth (set number) (test number)
        (λ there. (kept_passes test number 1 (length props) (sound number there)).0)
        (λ passes. within_closed set start closed (suc rounds) number (passes_kept test number 1 (length props) (passes, from, below))))

    -- a set that has the chosen tests, draws in nothing more and has members alone lists the members
    pub members_listed : (set : ℕ → Bool) → ((number : ℕ) → is_in chosen number ≡ true → IsNumber props number) → ((number : ℕ) → is_in chosen number ≡ true → set number ≡ true) → ((test number : ℕ) → set test ≡ true → draws_test choice props test number ≡ true → set number ≡ true) → ((number : ℕ) → set number ≡ true → is_in (members_of choice props chosen) number ≡ true)
        → filter set (range_with_len 1 (length props)) ≡ members_of choice props chosen
    members_listed set numbers start closed sound = listed_by set numbers start closed (length props) refl sound
