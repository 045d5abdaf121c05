-- Tests that are sorted by urgency stand in the queue's order.
use Rattle.std.proofs.Common.{ℕ, ◌≡◌, ◌≢◌, ◌<◌, ◌≤◌, ◌∙◌, Bool, true, false, cond, ◌==◌, nat_lt, List, [], ◌∷◌, length, get_or, map, All, Option, Some, None, refl, sym, ap, subst, arith, eqb}
use Rattle.std.specs.Prelude.{AllPairs, IsPermutation}
use Rattle.std.specs.Bool.{beq}
use Rattle.std.specs.Cmp.{IsStrictWeakOrder}
use Rattle.std.specs.List.{IsDistinct}
use Rattle.std.specs.List.Sorted.{IsSortedBy}
use Rattle.std.proofs.lemmas.Bool.{true≢false, false≢true, eqb-false}
use Rattle.std.proofs.lemmas.Bool.Decides.{nat_tests, Decides-eqb}
use Rattle.std.proofs.lemmas.List.{get_or-map, length-map}
use Rattle.std.proofs.lemmas.List.Elements.{All-cons, All-nil, All-get_or}
use Rattle.std.proofs.lemmas.List.Sorted.{All-permutation, IsPermutation-map, sorted_far}
use Rattle.std.proofs.lemmas.Map.Keys.{IsDistinct-IsPermutation, apart_from_distinct}
use Rattle.std.proofs.lemmas.Map.Made.{IsDistinct-from_AllPairs}
use Rattle.ct_base.specs.declared.defs.TestDef.{TestDef}
use Rattle.ct_props.specs.declared.props.Props.{Props}
use Rattle.ct_props.specs.Numbered.{at_number}
use Rattle.ct_history.specs.Plan.{IsAscendingFrom}
use Rattle.ct_cost.specs.declared.cost_data.CostData.{CostData}
use Rattle.ct_plan.specs.declared.standing.Standing.{Standing}
use Rattle.ct_plan.specs.Queue.{costs_more, cost_in, is_more_urgent, goes_first_there, standing_there}
use Rattle.ct_plan.specs.Linked.{standing_in}
use Rattle.ct_props.proofs.NumberedLemmas.{at_number_within}
use Rattle.ct_base.specs.Names.{is_among}
use Rattle.ct_history.proofs.AscendLemmas.{pairs_ascend}

-- what costs less does not go in front
costs_one_way : (x y : Standing) → costs_more x y ≡ true → costs_more y x ≡ false
costs_one_way x y more = grind (arith, nat_tests)

costs_chain : (x y z : Standing) → costs_more x y ≡ false → costs_more y z ≡ false → costs_more x z ≡ false
costs_chain x y z one two = grind (arith, nat_tests)

costs_decide : (x y : Standing) → costs_more y x ≡ false → x.number ≢ y.number → costs_more x y ≡ true
costs_decide x y behind apart = grind (arith, nat_tests)

-- whether one test goes in front, by whether each failed and whether it costs more
abbrev urgency : Bool → Bool → Bool → Bool
urgency one other more = cond (beq one other) more one

urgency_one_way : (x y more less : Bool) → (more ≡ true → less ≡ false) → urgency x y more ≡ true → urgency y x less ≡ false
urgency_one_way true true more less one_way is = one_way is
urgency_one_way true false more less one_way is = refl
urgency_one_way false true more less one_way is = absurd (false≢true is)
urgency_one_way false false more less one_way is = one_way is

urgency_chain : (x y z first second both : Bool) → (first ≡ false → second ≡ false → both ≡ false) → urgency x y first ≡ false → urgency y z second ≡ false → urgency x z both ≡ false
urgency_chain true true true first second both chain one two = chain one two
urgency_chain true true false first second both chain one two = two
urgency_chain true false z first second both chain one two = absurd (true≢false one)
urgency_chain false true true first second both chain one two = refl
urgency_chain false true false first second both chain one two = absurd (true≢false two)
urgency_chain false false true first second both chain one two = refl
urgency_chain false false false first second both chain one two = chain one two

urgency_decide : (x y more less : Bool) → (less ≡ false → more ≡ true) → urgency y x less ≡ false → urgency x y more ≡ true
urgency_decide true true more less decide is = decide is
urgency_decide true false more less decide is = refl
urgency_decide false true more less decide is = absurd (true≢false is)
urgency_decide false false more less decide is = decide is

pub urgent_order : IsStrictWeakOrder is_more_urgent
urgent_order = record {
  one_way = λ x y. urgency_one_way x.failed y.failed (costs_more x y) (costs_more y x) (costs_one_way x y);
  chain = λ x y z. urgency_chain x.failed y.failed z.failed (costs_more x y) (costs_more y z) (costs_more x z) (costs_chain x y z);
}

urgent_decide : (x y : Standing) → is_more_urgent y x ≡ false → x.number ≢ y.number → is_more_urgent x y ≡ true
urgent_decide x y behind apart = urgency_decide x.failed y.failed (costs_more x y) (costs_more y x) (λ less. costs_decide x y less apart) behind

distinct : (numbers : List ℕ) → IsAscendingFrom 1 numbers → IsDistinct eqb numbers
distinct numbers up = IsDistinct-from_AllPairs Decides-eqb numbers (λ i j d before within.
    let less : get_or numbers i d < get_or numbers j d = pairs_ascend 1 numbers up i j d before within in
    λ same. omega (arith, less, same))

-- a standing has the number that was asked for
pub standing_number : (costs : CostData) (number : ℕ) (def : Option TestDef) (own : Option Props) (x : Standing) → Some x ≡ standing_there costs number def own → x.number ≡ number
standing_number costs number None own x is = let no : Some x ≡ None = is in cc
standing_number costs number (Some def) None x is = let no : Some x ≡ None = is in cc
standing_number costs number (Some def) (Some own) x is =
    let same : Some x ≡ Some (record { failed = is_among def.name costs.failed; cost = cost_in costs def own; number = number }) = is in
    let here : x ≡ record { failed = is_among def.name costs.failed; cost = cost_in costs def own; number = number } = cc in
    ap (λ (y : Standing). y.number) here

-- where several may run at once, the more urgent one goes first
urgent_first : (level : ℕ) → (level == 1) ≡ false → (x y : Standing) (one other : Option Standing) → one ≡ Some x → other ≡ Some y → is_more_urgent x y ≡ true → goes_first_there level one other ≡ true
urgent_first level several x y one other one_is other_is urgent =
    (λ i. goes_first_there level (one_is i) (other_is i)) ∙ (λ i. cond (several i) (nat_lt x.number y.number) (is_more_urgent x y)) ∙ urgent

-- where one test runs at a time, the one with the lesser number goes first
numbered_first : (level : ℕ) → (level == 1) ≡ true → (x y : Standing) (one other : Option Standing) → one ≡ Some x → other ≡ Some y → x.number < y.number → goes_first_there level one other ≡ true
numbered_first level single x y one other one_is other_is less =
    let lesser : nat_lt x.number y.number ≡ true = grind (arith, nat_tests) in
    (λ i. goes_first_there level (one_is i) (other_is i)) ∙ (λ i. cond (single i) (nat_lt x.number y.number) (is_more_urgent x y)) ∙ lesser

-- what is known of tests by their numbers: each standing has the number that was asked for
abbrev pub IsOwn : (ℕ → Option Standing) → Type 0
IsOwn standing = (number : ℕ) (x : Standing) → Some x ≡ standing number → x.number ≡ number

-- it is known how the test with this number stands
abbrev pub IsKnown : (ℕ → Option Standing) → ℕ → Type 0
IsKnown standing number = (x : Standing) × (standing number ≡ Some x)

module _ (standing : ℕ → Option Standing) (own : IsOwn standing) where
  -- a standing is that of its own number
  abbrev StandsFor : Standing → Type 0
  StandsFor x = standing x.number ≡ Some x

  stands : (x : Standing) (number : ℕ) → Some x ≡ standing number → StandsFor x
  stands x number is = ap standing (own number x is) ∙ sym is

  all_stand : (xs : List Standing) (numbers : List ℕ) → map Some xs ≡ map standing numbers → All StandsFor xs
  all_stand [] numbers made = All-nil StandsFor
  all_stand (x ∷ xs) [] made = absurd (cc)
  all_stand (x ∷ xs) (n ∷ ns) made = All-cons StandsFor x xs (stands x n (cc)) (all_stand xs ns (cc))

  -- standings have the numbers that were asked for
  pub stand_numbers : (xs : List Standing) (numbers : List ℕ) → map Some xs ≡ map standing numbers → map (λ (x : Standing). x.number) xs ≡ numbers
  stand_numbers [] [] made = refl
  stand_numbers [] (n ∷ ns) made = absurd (cc)
  stand_numbers (x ∷ xs) [] made = absurd (cc)
  stand_numbers (x ∷ xs) (n ∷ ns) made =
      let one : Some x ≡ standing n = cc in
      ap (λ m. m ∷ map (λ (y : Standing). y.number) xs) (own n x one)
      ∙ ap (λ ms. n ∷ ms) (stand_numbers xs ns (cc))

  -- where several tests run at once, each of those sorted by urgency goes in front of those behind it
  pub urgent_pairs : (level : ℕ) → (level == 1) ≡ false → (numbers : List ℕ) (xs ys : List Standing) → IsAscendingFrom 1 numbers → map Some xs ≡ map (standing) numbers → IsPermutation xs ys → IsSortedBy is_more_urgent ys → AllPairs (λ one other. goes_first_there level (standing one) (standing other) ≡ true) (map (λ (y : Standing). y.number) ys)
  urgent_pairs level several numbers xs ys up made same sorted = λ i j d before within.
      let long : length (map (λ (y : Standing). y.number) ys) ≡ length ys = length-map ys (λ (y : Standing). y.number) in
      let there : j < length ys = omega (arith, long) in
      let here : i < length ys = omega (arith, before, there) in
      let none : Standing = record { failed = false; cost = 0; number = d } in
      let one = get_or ys i none in
      let other = get_or ys j none in
      let one_is : get_or (map (λ (y : Standing). y.number) ys) i d ≡ one.number = get_or-map (λ (y : Standing). y.number) ys i none d here in
      let other_is : get_or (map (λ (y : Standing). y.number) ys) j d ≡ other.number = get_or-map (λ (y : Standing). y.number) ys j none d there in
      let all : All StandsFor ys = All-permutation StandsFor xs ys same (all_stand xs numbers made) in
      let one_stands : StandsFor one = All-get_or StandsFor ys i none here all in
      let other_stands : StandsFor other = All-get_or StandsFor ys j none there all in
      let moved : IsPermutation numbers (map (λ (y : Standing). y.number) ys) = subst (λ ns. IsPermutation ns (map (λ (y : Standing). y.number) ys)) (stand_numbers xs numbers made) (IsPermutation-map (λ (y : Standing). y.number) xs ys same) in
      let apart_all : IsDistinct eqb (map (λ (y : Standing). y.number) ys) = IsDistinct-IsPermutation eqb (λ x y. grind (arith, nat_tests)) numbers (map (λ (y : Standing). y.number) ys) moved (distinct numbers up) in
      let apart : eqb one.number other.number ≡ false = ap (λ n. eqb n other.number) (sym one_is) ∙ ap (eqb (get_or (map (λ (y : Standing). y.number) ys) i d)) (sym other_is) ∙ apart_from_distinct eqb (map (λ (y : Standing). y.number) ys) i j d apart_all before within in
      let behind : is_more_urgent other one ≡ false = sorted_far is_more_urgent urgent_order ys sorted i j none (omega (arith, before)) there in
      let urgent : is_more_urgent one other ≡ true = urgent_decide one other behind (eqb-false one.number other.number apart) in
      urgent_first level several one other (standing (get_or (map (λ (y : Standing). y.number) ys) i d)) (standing (get_or (map (λ (y : Standing). y.number) ys) j d))
      (ap (standing) one_is ∙ one_stands) (ap (standing) other_is ∙ other_stands) urgent

  -- where one test runs at a time, each of these tests goes in front of those behind it, by its number
  pub numbered_pairs : (level : ℕ) → (level == 1) ≡ true → (numbers : List ℕ) → IsAscendingFrom 1 numbers → All (IsKnown standing) numbers → AllPairs (λ one other. goes_first_there level (standing one) (standing other) ≡ true) numbers
  numbered_pairs level single numbers up known = λ i j d before within.
      let here : i < length numbers = omega (arith, before, within) in
      let one = get_or numbers i d in
      let other = get_or numbers j d in
      let less : one < other = pairs_ascend 1 numbers up i j d before within in
      let x = All-get_or (IsKnown standing) numbers i d here known in
      let y = All-get_or (IsKnown standing) numbers j d within known in
      let x_is = own one x.0 (sym x.1) in
      let y_is = own other y.0 (sym y.1) in
      let less_standing : x.0.number < y.0.number = omega (arith, less, x_is, y_is) in
      numbered_first level single x.0 y.0 (standing one) (standing other) x.1 y.1 less_standing

module _ (defs : List TestDef) (props : List Props) (costs : CostData) where
  pub own_in : IsOwn (standing_in defs props costs)
  own_in number x is = standing_number costs number (at_number defs number) (at_number props number) x is

  -- it is known how a test that is there stands
  pub known_in : length props ≡ length defs → (number : ℕ) → (0 < number) × (number ≤ length defs) → IsKnown (standing_in defs props costs) number
  known_in paired number bounds =
      let def = at_number_within defs number bounds.0 bounds.1 in
      let own = at_number_within props number bounds.0 (omega (arith, paired, bounds.1)) in (
        record { failed = is_among def.0.name costs.failed; cost = cost_in costs def.0 own.0; number = number },
        ap (λ d. standing_there costs number d (at_number props number)) def.1 ∙ ap (standing_there costs number (Some def.0)) own.1,
      )
