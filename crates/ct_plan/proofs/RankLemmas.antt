-- The links of the tests of a plan are sound: each predecessor is enabled and has a lesser rank, and the
-- setups are among the predecessors.
use Rattle.std.proofs.Common.{ℕ, ◌≡◌, ◌∙◌, Bool, true, false, cond, not, ◌&&◌, ◌||◌, nat_lt, List, [], ◌∷◌, length, Option, Some, None, refl, sym, ap, eqb}
use Rattle.std.specs.List.{list_all}
use Rattle.std.proofs.lemmas.Bool.{false≢true, and_parts, and_from, eqb-true}
use Rattle.ct_base.specs.declared.defs.Resource.{Resource}
use Rattle.ct_base.specs.declared.defs.TestDef.{TestDef}
use Rattle.ct_base.specs.Numbers.{is_in}
use Rattle.ct_props.specs.declared.props.Props.{Props}
use Rattle.ct_props.specs.declared.wanted.Wanted.{Wanted}
use Rattle.ct_props.specs.Numbered.{at_number}
use Rattle.ct_graph.specs.Before.{comes_before, sets_up, are_enabled, depends_on, is_set_up_by, cleans_behind}
use Rattle.ct_graph.specs.Order.{links_at, ranks_below, ranks_above_all}
use Rattle.ct_graph.specs.declared.ordering.Links.{Links}
use Rattle.ct_graph.proofs.TestLemmas.{is_in-filter, list_all-from, list_all-at}
use Rattle.ct_history.specs.declared.plan.PlanTest.{PlanTest}
use Rattle.ct_history.specs.Plan.{has_sound_links, is_before_rank, test_at}
use Rattle.ct_cost.specs.declared.cost_data.CostData.{CostData}
use Rattle.ct_plan.specs.Source.{members_before, setup_members, run_members, source}
use Rattle.ct_plan.proofs.NumberLemmas.{def_of_own}
use Rattle.ct_plan.specs.Linked.{AreLinked, IsLinked}
use Rattle.ct_plan.proofs.LinkLemmas.{AreOrdered, IsOrdered}

-- the test with these properties is not disabled
abbrev is_enabled : Option Props → Bool
is_enabled None = false
is_enabled (Some own) = not own.disabled

first_enabled : (earlier later rest : Bool) → ((not earlier && not later) && rest) ≡ true → not earlier ≡ true
first_enabled earlier later rest is = (and_parts (not earlier) (not later) (and_parts (not earlier && not later) rest is).0).0

-- what comes before a test is enabled
before_enabled : (def : Option TestDef) (own later : Option Props) → comes_before def own later ≡ true → is_enabled own ≡ true
before_enabled None own later is = absurd (false≢true is)
before_enabled (Some def) None later is = absurd (false≢true is)
before_enabled (Some def) (Some own) None is = absurd (false≢true is)
before_enabled (Some def) (Some own) (Some later) is = first_enabled own.disabled later.disabled _ is

wider : (enabled depends sets_up cleans : Bool) → (enabled && sets_up) ≡ true → (enabled && (depends || sets_up || cleans)) ≡ true
wider false depends sets_up cleans is = is
wider true true sets_up cleans is = refl
wider true false true cleans is = refl
wider true false false cleans is = absurd (false≢true is)

-- what sets up a test comes before it
setup_before : (def : TestDef) (own later : Option Props) → sets_up own later ≡ true → comes_before (Some def) own later ≡ true
setup_before def None later is = absurd (false≢true is)
setup_before def (Some own) None is = absurd (false≢true is)
setup_before def (Some own) (Some later) is = wider (are_enabled own later) (depends_on def later) (is_set_up_by own later) (cleans_behind own later) is

setup_own : (own later : Option Props) → sets_up own later ≡ true → (p : Props) × (own ≡ Some p)
setup_own None later is = absurd (false≢true is)
setup_own (Some own) later is = (own, refl)

module _ (defs : List TestDef) (props : List Props) (wanted : Wanted) (resources : Option (List Resource)) (costs : CostData) where
  -- a test that is found by its number has the rank of its links
  below_by : (l : Links) (t : PlanTest) (ls : List Links) (ts : List PlanTest) (rank j : ℕ) → IsLinked resources wanted.level defs props l t → is_enabled (at_number props j) ≡ true → (b : Bool) → eqb l.number j ≡ b → ranks_below rank (cond b (Some l) (links_at ls j)) ≡ true → (ranks_below rank (links_at ls j) ≡ true → is_before_rank rank (test_at ts j) ≡ true) → is_before_rank rank (cond b (Some t) (test_at ts j)) ≡ true
  below_by l t ls ts rank j linked enabled true same lower rest =
      let here : l.number ≡ j = eqb-true l.number j same in
      let own : at_number props j ≡ Some linked.own = ap (at_number props) (sym here) ∙ linked.own_is in
      let here_enabled : not linked.own.disabled ≡ true = sym (ap is_enabled own) ∙ enabled in
      ap (λ (u : PlanTest). not u.disabled && nat_lt u.rank rank) linked.is ∙ and_from (not linked.own.disabled) (nat_lt l.rank rank) here_enabled lower
  below_by l t ls ts rank j linked enabled false other lower rest = rest lower

  below : (rank j : ℕ) (ls : List Links) (ts : List PlanTest) → AreLinked resources wanted.level defs props ls ts → is_enabled (at_number props j) ≡ true → ranks_below rank (links_at ls j) ≡ true → is_before_rank rank (test_at ts j) ≡ true
  below rank j [] [] linked enabled lower = absurd (false≢true lower)
  below rank j [] (t ∷ ts) linked enabled lower = absurd linked
  below rank j (l ∷ ls) [] linked enabled lower = absurd linked
  below rank j (l ∷ ls) (t ∷ ts) linked enabled lower =
      let number : t.number ≡ l.number = ap (λ (u : PlanTest). u.number) linked.0.is in
      ap (λ n. is_before_rank rank (cond (eqb n j) (Some t) (test_at ts j))) number
      ∙ below_by l t ls ts rank j linked.0 enabled (eqb l.number j) refl lower (below rank j ls ts linked.1 enabled)

  -- the links of one test are sound
  test_sound : length props ≡ length defs → (links : List Links) (tests : List PlanTest) → AreLinked resources wanted.level defs props links tests → (m : ℕ) (l : Links) (t : PlanTest) → IsOrdered (source defs props wanted resources costs) m l → IsLinked resources wanted.level defs props l t → ranks_above_all links l ≡ true → has_sound_links tests t ≡ true
  test_sound same links tests linked m l t ordered one above =
      ap (λ (u : PlanTest). has_sound_links tests u) one.is
      ∙ ap (λ before. list_all (λ j. is_before_rank l.rank (test_at tests j)) before && list_all (λ s. is_in before s) l.setups) ordered.before
      ∙ ap (λ setups. list_all (λ j. is_before_rank l.rank (test_at tests j)) (members_before (source defs props wanted resources costs) m) && list_all (λ s. is_in (members_before (source defs props wanted resources costs) m) s) setups) ordered.setups
      ∙ and_from _ _ ranks among
    where
      ranks : list_all (λ j. is_before_rank l.rank (test_at tests j)) (members_before (source defs props wanted resources costs) m) ≡ true
      ranks = list_all-from (λ j. is_before_rank l.rank (test_at tests j)) (members_before (source defs props wanted resources costs) m) (λ j is.
          let earlier : comes_before (at_number defs j) (at_number props j) (at_number props m) ≡ true = (and_parts _ _ (sym (is_in-filter (λ k. comes_before (at_number defs k) (at_number props k) (at_number props m)) (run_members (source defs props wanted resources costs)) j) ∙ is)).0 in
          let lower : ranks_below l.rank (links_at links j) ≡ true = list_all-at (λ k. ranks_below l.rank (links_at links k)) l.before j above (ap (λ before. is_in before j) ordered.before ∙ is) in
          below l.rank j links tests linked (before_enabled (at_number defs j) (at_number props j) (at_number props m) earlier) lower)

      among : list_all (λ s. is_in (members_before (source defs props wanted resources costs) m) s) (setup_members (source defs props wanted resources costs) m) ≡ true
      among = list_all-from (λ s. is_in (members_before (source defs props wanted resources costs) m) s) (setup_members (source defs props wanted resources costs) m) (λ s is.
          let both = and_parts _ _ (sym (is_in-filter (λ k. sets_up (at_number props k) (at_number props m)) (run_members (source defs props wanted resources costs)) s) ∙ is) in
          let own = setup_own (at_number props s) (at_number props m) both.0 in
          let def = def_of_own defs props same s own.0 own.1 in
          let earlier : comes_before (at_number defs s) (at_number props s) (at_number props m) ≡ true =
          ap (λ d. comes_before d (at_number props s) (at_number props m)) def.1 ∙ setup_before def.0 (at_number props s) (at_number props m) both.0 in
          is_in-filter (λ k. comes_before (at_number defs k) (at_number props k) (at_number props m)) (run_members (source defs props wanted resources costs)) s ∙ and_from _ _ earlier both.1)

  -- the links of all tests are sound
  pub links_sound : length props ≡ length defs → (links : List Links) (tests : List PlanTest) → AreLinked resources wanted.level defs props links tests → (ms : List ℕ) (ls : List Links) (ts : List PlanTest) → AreOrdered (source defs props wanted resources costs) ms ls → AreLinked resources wanted.level defs props ls ts → list_all (ranks_above_all links) ls ≡ true → list_all (has_sound_links tests) ts ≡ true
  links_sound same links tests linked [] [] [] ordered some above = refl
  links_sound same links tests linked [] [] (t ∷ ts) ordered some above = absurd some
  links_sound same links tests linked [] (l ∷ ls) ts ordered some above = absurd ordered
  links_sound same links tests linked (m ∷ ms) [] ts ordered some above = absurd ordered
  links_sound same links tests linked (m ∷ ms) (l ∷ ls) [] ordered some above = absurd some
  links_sound same links tests linked (m ∷ ms) (l ∷ ls) (t ∷ ts) ordered some above =
      let both = and_parts (ranks_above_all links l) (list_all (ranks_above_all links) ls) above in
      and_from (has_sound_links tests t) (list_all (has_sound_links tests) ts)
      (test_sound same links tests linked m l t ordered.0 some.0 both.0)
      (links_sound same links tests linked ms ls ts ordered.1 some.1 both.1)
