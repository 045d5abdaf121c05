-- The tests that are made of the links of an order: they are those of the plan, and their links are sound.
use Rattle.std.proofs.Common.{ℕ, ◌≡◌, ◌<◌, ◌≤◌, ◌∙◌, min, List, [], ◌∷◌, ◌++◌, length, get_or, map, Option, refl, sym, ap, subst, arith}
use Rattle.std.specs.Prelude.{⊤}
use Rattle.std.proofs.lemmas.List.{get_or-map, length-map}
use Rattle.std.proofs.lemmas.List.Elements.{All-get_or}
use Rattle.ct_base.specs.declared.defs.Resource.{Resource}
use Rattle.ct_base.specs.declared.defs.TestDef.{TestDef}
use Rattle.ct_props.specs.declared.props.Props.{Props}
use Rattle.ct_props.specs.declared.wanted.Wanted.{Wanted}
use Rattle.ct_props.specs.Numbered.{at_number}
use Rattle.ct_graph.specs.declared.ordering.Links.{Links}
use Rattle.ct_history.specs.declared.plan.PlanTest.{PlanTest}
use Rattle.ct_cost.specs.declared.cost_data.CostData.{CostData}
use Rattle.ct_plan.specs.Source.{Source, members_before, setup_members, source}
use Rattle.ct_plan.specs.Planned.{ArePlannedTests, IsPlannedTest, planned_test, rules_of, shared_by}
use Rattle.ct_plan.specs.Linked.{AreLinked, IsLinked, test_from}
use Rattle.ct_plan.proofs.NumberLemmas.{AreOfTests}

-- each of these links has the number of a test
pub number_at : (count : ℕ) (links : List Links) (at : ℕ) (l : Links) → at < length links → l ≡ get_or links at l → AreOfTests count (map (λ (x : Links). x.number) links) → (0 < l.number) × (l.number ≤ count)
number_at count links at l within is of_tests =
    let long : length (map (λ (x : Links). x.number) links) ≡ length links = length-map links (λ (x : Links). x.number) in
    let same : get_or (map (λ (x : Links). x.number) links) at 0 ≡ l.number = get_or-map (λ (x : Links). x.number) links at l 0 within ∙ sym (ap (λ (x : Links). x.number) is) in
    subst (λ n. (0 < n) × (n ≤ count)) same (All-get_or (λ n. (0 < n) × (n ≤ count)) (map (λ (x : Links). x.number) links) at 0 (omega (arith, within, long)) of_tests)

-- the tests of links, with one test more
pub linked-snoc : (resources : Option (List Resource)) (level : ℕ) (defs : List TestDef) (props : List Props) (ls : List Links) (ts : List PlanTest) (l : Links) (t : PlanTest) → AreLinked resources level defs props ls ts → IsLinked resources level defs props l t → AreLinked resources level defs props (ls ++ l ∷ []) (ts ++ t ∷ [])
linked-snoc resources level defs props [] [] l t linked one = (one, tt)
linked-snoc resources level defs props [] (x ∷ xs) l t linked one = absurd linked
linked-snoc resources level defs props (x ∷ xs) [] l t linked one = absurd linked
linked-snoc resources level defs props (x ∷ xs) (y ∷ ys) l t linked one = (linked.0, linked-snoc resources level defs props xs ys l t linked.1 one)

-- the links of a member
pub record IsOrdered (s : Source) (number : ℕ) (links : Links) : Type 0 where
  pub number_is : links.number ≡ number
  pub before : links.before ≡ members_before s number
  pub setups : links.setups ≡ setup_members s number

-- the links of these members, in order
abbrev pub AreOrdered : Source → List ℕ → List Links → Type 0
AreOrdered s [] [] = ⊤
AreOrdered s [] (l ∷ ls) = ⊥
AreOrdered s (m ∷ ms) [] = ⊥
AreOrdered s (m ∷ ms) (l ∷ ls) = IsOrdered s m l × AreOrdered s ms ls

pub are_ordered : (s : Source) (ms : List ℕ) (ls : List Links) → map (λ (l : Links). l.number) ls ≡ ms → map (λ (l : Links). l.before) ls ≡ map (members_before s) ms → map (λ (l : Links). l.setups) ls ≡ map (setup_members s) ms → AreOrdered s ms ls
are_ordered s [] [] numbers before setups = tt
are_ordered s [] (l ∷ ls) numbers before setups = absurd (cc)
are_ordered s (m ∷ ms) [] numbers before setups = absurd (cc)
are_ordered s (m ∷ ms) (l ∷ ls) numbers before setups = (
  record { number_is = cc; before = cc; setups = cc },
  are_ordered s ms ls (cc) (cc) (cc),
)

-- a test of the plan that is made of its links
module _ (defs : List TestDef) (props : List Props) (wanted : Wanted) (resources : Option (List Resource)) (costs : CostData) where
  is_planned : (m : ℕ) (l : Links) (t : PlanTest) → IsOrdered (source defs props wanted resources costs) m l → IsLinked resources wanted.level defs props l t → IsPlannedTest (source defs props wanted resources costs) m t
  is_planned m l t ordered linked =
      let rank : t.rank ≡ l.rank = ap (λ (u : PlanTest). u.rank) linked.is in
      let made : test_from wanted.level l linked.def linked.own t.fixed ≡ planned_test (source defs props wanted resources costs) m linked.def linked.own t.rank t.fixed =
      λ i. record {
        number = ordered.number_is i;
        name = linked.def.name;
        disabled = linked.own.disabled;
        processors = min linked.own.processors wanted.level;
        locks = linked.own.locks;
        shared = shared_by linked.own;
        serial = linked.own.serial;
        rules = rules_of linked.own;
        needs = linked.own.groups.needs;
        before = ordered.before i;
        setups = ordered.setups i;
        rank = sym rank i;
        fixed = t.fixed;
        labels = linked.own.labels;
      } in
      record {
        def = linked.def;
        props = linked.own;
        def_is = ap (at_number defs) (sym ordered.number_is) ∙ linked.def_is;
        props_are = ap (at_number props) (sym ordered.number_is) ∙ linked.own_is;
        fixed = linked.fixed;
        is = linked.is ∙ made;
      }

  pub are_planned : (ms : List ℕ) (ls : List Links) (ts : List PlanTest) → AreOrdered (source defs props wanted resources costs) ms ls → AreLinked resources wanted.level defs props ls ts → ArePlannedTests (source defs props wanted resources costs) ms ts
  are_planned [] [] [] ordered linked = tt
  are_planned [] [] (t ∷ ts) ordered linked = absurd linked
  are_planned [] (l ∷ ls) ts ordered linked = absurd ordered
  are_planned (m ∷ ms) [] ts ordered linked = absurd ordered
  are_planned (m ∷ ms) (l ∷ ls) [] ordered linked = absurd linked
  are_planned (m ∷ ms) (l ∷ ls) (t ∷ ts) ordered linked = (is_planned m l t ordered.0 linked.0, are_planned ms ls ts ordered.1 linked.1)

  pub numbers_are : (ms : List ℕ) (ls : List Links) (ts : List PlanTest) → AreOrdered (source defs props wanted resources costs) ms ls → AreLinked resources wanted.level defs props ls ts → map (λ (t : PlanTest). t.number) ts ≡ ms
  numbers_are [] [] [] ordered linked = refl
  numbers_are [] [] (t ∷ ts) ordered linked = absurd linked
  numbers_are [] (l ∷ ls) ts ordered linked = absurd ordered
  numbers_are (m ∷ ms) [] ts ordered linked = absurd ordered
  numbers_are (m ∷ ms) (l ∷ ls) [] ordered linked = absurd linked
  numbers_are (m ∷ ms) (l ∷ ls) (t ∷ ts) ordered linked =
      let here : t.number ≡ m = ap (λ (u : PlanTest). u.number) linked.0.is ∙ ordered.0.number_is in
      ap (λ n. n ∷ map (λ (u : PlanTest). u.number) ts) here ∙ ap (λ ns. m ∷ ns) (numbers_are ms ls ts ordered.1 linked.1)
