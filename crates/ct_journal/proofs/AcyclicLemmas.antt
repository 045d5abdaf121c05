-- The tests of a plan have ranks, so none of them come before each other in a round.
use Rattle.std.proofs.Common.{◌≡◌, ◌∙◌, sym, ap, subst, Bool, true, false, ℕ, ◌<◌, List, [], ◌∷◌, arith, inl, inr}
use Rattle.std.specs.Prelude.{Option, Some, None, ◌==◌, ◌||◌, cond, filter, nat_lt, not}
use Rattle.std.specs.List.{list_all}
use Rattle.std.proofs.lemmas.Bool.{and_parts, cases_Bool}
use Rattle.std.proofs.lemmas.Bool.Decides.{nat_tests}
use Rattle.ct_base.specs.Numbers.{is_in}
use Rattle.ct_graph.specs.Cycle.{is_cycle, leads_round, leads_to}
use Rattle.ct_history.specs.declared.plan.PlanTest.{PlanTest}
use Rattle.ct_history.specs.declared.plan.PlanParts.{PlanParts}
use Rattle.ct_history.specs.Plan.{has_sound_links, is_before_rank, test_at}
use Rattle.ct_history.proofs.ProgressLemmas.{all_found}
use Rattle.ct_plan.specs.PlanOf.{IsPlanOf}
use Rattle.ct_plan.specs.Planned.{ArePlannedTests, IsPlannedTest}
use Rattle.ct_plan.specs.Source.{Source, members_before, run_members}

-- the rank of a test that was looked up, 0 without one
abbrev rank_at : Option PlanTest → ℕ
rank_at None = 0
rank_at (Some t) = t.rank

-- a number that is planned finds its test
planned_found : (s : Source) (numbers : List ℕ) (tests : List PlanTest) → ArePlannedTests s numbers tests → (n : ℕ) → is_in numbers n ≡ true → (t : PlanTest) × (test_at tests n ≡ Some t) × IsPlannedTest s n t
planned_found s [] [] are n there = absurd (cc)
planned_found s [] (x ∷ xs) are n there = absurd are
planned_found s (m ∷ ms) [] are n there = absurd are
planned_found s (m ∷ ms) (x ∷ xs) are n there =
    let number : x.number ≡ m = ap (λ (u : PlanTest). u.number) are.0.is in
    elim (cases_Bool (x.number == n)) [
      | inl here ↦
          let wanted : m ≡ n = grind (number, here, arith, nat_tests) in
          (x, ap (λ (b : Bool). cond b (Some x) (test_at xs n)) here, subst (λ (k : ℕ). IsPlannedTest s k x) wanted are.0)
      | inr other ↦
          let off : (m == n) ≡ false = ap (λ (k : ℕ). k == n) (sym number) ∙ other in
          let rest : is_in ms n ≡ true = sym (ap (λ (b : Bool). b || is_in ms n) off) ∙ there in
          let later = planned_found s ms xs are.1 n rest in
          (later.0, ap (λ (b : Bool). cond b (Some x) (test_at xs n)) other ∙ later.1, later.2)
    ]

-- what holds of all numbers holds of one of them
all_in : (p : ℕ → Bool) (numbers : List ℕ) (n : ℕ) → list_all p numbers ≡ true → is_in numbers n ≡ true → p n ≡ true
all_in p [] n all there = absurd (cc)
all_in p (m ∷ ms) n all there = elim (cases_Bool (m == n)) [
  | inl here ↦
      let same : m ≡ n = grind (here, arith, nat_tests) in
      ap p (sym same) ∙ (and_parts (p m) (list_all p ms) all).0
  | inr off ↦ all_in p ms n (and_parts (p m) (list_all p ms) all).1 (sym (ap (λ (b : Bool). b || is_in ms n) off) ∙ there)
]

-- a number that is kept of a list is in it
kept_in : (p : ℕ → Bool) (numbers : List ℕ) (n : ℕ) → is_in (filter p numbers) n ≡ true → is_in numbers n ≡ true
kept_in p [] n there = there
kept_in p (m ∷ ms) n there = elim (cases_Bool (m == n)) [
  | inl here ↦ ap (λ (b : Bool). b || is_in ms n) here
  | inr off ↦
      let rest : is_in (filter p ms) n ≡ true = elim (cases_Bool (p m)) [
        | inl kept ↦ sym (ap (λ (b : Bool). b || is_in (filter p ms) n) off) ∙ sym (ap (λ (b : Bool). is_in (cond b (m ∷ filter p ms) (filter p ms)) n) kept) ∙ there
        | inr gone ↦ sym (ap (λ (b : Bool). is_in (cond b (m ∷ filter p ms) (filter p ms)) n) gone) ∙ there
      ] in
      ap (λ (b : Bool). b || is_in ms n) off ∙ kept_in p ms n rest
]

-- a test with a lesser rank that was looked up is there
below_rank : (rank : ℕ) (found : Option PlanTest) → is_before_rank rank found ≡ true → rank_at found < rank
below_rank rank None is = absurd (cc)
below_rank rank (Some t) is =
    let less = (and_parts (not t.disabled) (nat_lt t.rank rank) is).1 in
    let below : t.rank < rank = grind (less, arith, nat_tests) in
    below

module _ (s : Source) (plan : PlanParts) (planned : IsPlanOf s plan) where
  abbrev rank_of : ℕ → ℕ
  rank_of n = rank_at (test_at plan.tests n)

  -- a test that comes before a member is a member
  before_member : (i j : ℕ) → is_in (members_before s i) j ≡ true → is_in (run_members s) j ≡ true
  before_member i j there = kept_in _ (run_members s) j there

  -- and it has a lesser rank
  before_below : (i j : ℕ) → is_in (run_members s) i ≡ true → is_in (members_before s i) j ≡ true → rank_of j < rank_of i
  before_below i j member there =
      let found = planned_found s (run_members s) plan.tests planned.tests i member in
      let t = found.0 in
      let sound : has_sound_links plan.tests t ≡ true = all_found (has_sound_links plan.tests) (λ (u : PlanTest). u.number == i) plan.tests t planned.ranks found.1 in
      let links = (and_parts (list_all (λ k. is_before_rank t.rank (test_at plan.tests k)) t.before) _ sound).0 in
      let before : t.before ≡ members_before s i = ap (λ (u : PlanTest). u.before) found.2.is in
      let here : is_before_rank t.rank (test_at plan.tests j) ≡ true =
      all_in (λ k. is_before_rank t.rank (test_at plan.tests k)) t.before j links (subst (λ (ns : List ℕ). is_in ns j ≡ true) (sym before) there) in
      subst (λ (x : Option PlanTest). rank_of j < rank_at x) (sym found.1) (below_rank t.rank (test_at plan.tests j) here)

  -- the first test of a round is a member
  first_member : (first test : ℕ) (rest : List ℕ) → leads_to (members_before s) first (test ∷ rest) ≡ true → is_in (run_members s) first ≡ true
  first_member first test [] leads = before_member test first leads
  first_member first test (next ∷ rest) leads = first_member first next rest (and_parts (is_in (members_before s test) next) (leads_to (members_before s) first (next ∷ rest)) leads).1

  -- along a round the ranks fall
  first_below : (first test : ℕ) (rest : List ℕ) → leads_to (members_before s) first (test ∷ rest) ≡ true → is_in (run_members s) test ≡ true → rank_of first < rank_of test
  first_below first test [] leads member = before_below test first member leads
  first_below first test (next ∷ rest) leads member =
      let parts = and_parts (is_in (members_before s test) next) (leads_to (members_before s) first (next ∷ rest)) leads in
      let near = before_below test next member parts.0 in
      let far = first_below first next rest parts.1 (before_member test next parts.0) in
      omega (arith, near, far)

  no_round : (tests : List ℕ) → leads_round (members_before s) tests ≡ true → ⊥
  no_round [] leads = cc
  no_round (first ∷ rest) leads =
      let less = first_below first first rest leads (first_member first first rest leads) in
      omega (arith, less)

  -- no tests of a source that has a plan are a cycle
  pub no_cycle : (tests : List ℕ) → is_cycle (members_before s) tests ≡ false
  no_cycle tests = elim (cases_Bool (is_cycle (members_before s) tests)) [
    | inl round ↦ absurd (no_round tests (and_parts (leads_round (members_before s) tests) _ round).0)
    | inr none ↦ none
  ]
