-- The links of the members are an order, and where there is an order there is no cycle.
use Rattle.std.proofs.Common.{ℕ, ◌≡◌, ◌+◌, ◌<◌, Bool, true, false, cond, nat_lt, List, [], ◌∷◌, length, take, get_or, set, map, Option, Some, None, Result, Ok, Err, OnOk, ◌≤◌, refl, sym, ap, ◌∙◌, subst, ⊎_elim, arith, eqb}
use Rattle.std.specs.List.{list_all}
use Rattle.std.proofs.lemmas.Bool.{true≢false, false≢true, eqb-true, and_parts, and_from, or_cases, or_parts, or_right, eqb-false, ltb-true}
use Rattle.std.proofs.lemmas.List.{length-set, get_or-set_other}
use Rattle.std.proofs.lemmas.List.Folds.{list_all-map, list_any_more}
use Rattle.ct_base.specs.declared.defs.TestDef.{TestDef}
use Rattle.ct_base.specs.Numbers.{is_in}
use Rattle.ct_props.specs.declared.props.Props.{Props}
use Rattle.ct_graph.specs.Before.{before_of, setups_of}
use Rattle.ct_graph.specs.Cycle.{leads_to, leads_round, are_distinct, is_cycle, HasCycle}
use Rattle.ct_graph.specs.Order.{IsOrder, IsAnswer, edges_of, links_at, ranks_below, ranks_above_all}
use Rattle.ct_graph.specs.Walk.{row_of, mark_of, rank_of, is_ranked, is_taken_below, are_taken, are_taken_below, AreRanked, EndsWalk}
use Rattle.ct_graph.specs.Rows.{AreRows, EndsRows, links_of}
use Rattle.ct_graph.specs.declared.fault.GraphFault.{GraphFault}
use Rattle.ct_graph.specs.declared.fault.GraphFault.TheVariants.{Cycle, TooManyEdges, NoMemory}
use Rattle.ct_graph.specs.declared.index.Index.{Index}
use Rattle.ct_graph.specs.declared.ordering.Links.{Links}
use Rattle.ct_graph.specs.declared.ordering.Ordered.{Ordered}
use Rattle.ct_graph.specs.declared.walk.Mark.{Mark}
use Rattle.ct_graph.specs.declared.walk.Mark.TheVariants.{Unseen, Open, Taken}
use Rattle.ct_graph.proofs.TestLemmas.{is_in-filter, list_all-from, list_all-at, has_first}
use Rattle.ct_graph.proofs.RowLemmas.{row_of-member, in_row}

links_by : (link : ℕ → Links) (m n : ℕ) (rest : Option Links) (b : Bool) → eqb m n ≡ b → (b ≡ false → rest ≡ Some (link n)) → cond b (Some (link m)) rest ≡ Some (link n)
links_by link m n rest true same behind = ap (λ k. Some (link k)) (eqb-true m n same)
links_by link m n rest false other behind = behind refl

-- the links of a member are found by its number
links_at-member : (link : ℕ → Links) → ((n : ℕ) → (link n).number ≡ n) → (members : List ℕ) (n : ℕ) → is_in members n ≡ true → links_at (map link members) n ≡ Some (link n)
links_at-member link numbered [] n is = absurd (false≢true is)
links_at-member link numbered (m ∷ ms) n is =
    ap (λ k. cond (eqb k n) (Some (link m)) (links_at (map link ms) n)) (numbered m)
    ∙ links_by link m n (links_at (map link ms) n) (eqb m n) refl
    (λ other. links_at-member link numbered ms n (⊎_elim (λ same. absurd (true≢false (sym same ∙ other))) (λ rest. rest) (or_cases (eqb m n) (is_in ms n) is)))

taken_is : (mark : Mark) → is_ranked mark ≡ true → mark ≡ Taken (rank_of mark)
taken_is Unseen is = absurd (false≢true is)
taken_is Open is = absurd (false≢true is)
taken_is (Taken rank) is = refl

lesser : (rank : ℕ) (mark : Mark) → is_taken_below rank mark ≡ true → nat_lt (rank_of mark) rank ≡ true
lesser rank Unseen is = absurd (false≢true is)
lesser rank Open is = absurd (false≢true is)
lesser rank (Taken other) is = is

map_numbers : (setups : ℕ → List ℕ) (rows : List (List ℕ)) (marks : List Mark) (members : List ℕ) → map (λ (l : Links). l.number) (map (links_of setups rows marks) members) ≡ members
map_numbers setups rows marks [] = refl
map_numbers setups rows marks (m ∷ ms) = ap (λ ns. m ∷ ns) (map_numbers setups rows marks ms)

map_setups : (setups : ℕ → List ℕ) (rows : List (List ℕ)) (marks : List Mark) (members : List ℕ) → map (λ (l : Links). l.setups) (map (links_of setups rows marks) members) ≡ map setups members
map_setups setups rows marks [] = refl
map_setups setups rows marks (m ∷ ms) = ap (λ ns. setups m ∷ ns) (map_setups setups rows marks ms)

map_before : (before setups : ℕ → List ℕ) (rows : List (List ℕ)) (marks : List Mark) (members : List ℕ) → ((n : ℕ) → is_in members n ≡ true → row_of rows n ≡ before n) → map (λ (l : Links). l.before) (map (links_of setups rows marks) members) ≡ map before members
map_before before setups rows marks [] are = refl
map_before before setups rows marks (m ∷ ms) are =
    ap (λ row. row ∷ map (λ (l : Links). l.before) (map (links_of setups rows marks) ms)) (are m (has_first m ms))
    ∙ ap (λ ns. before m ∷ ns) (map_before before setups rows marks ms (λ n is. are n (or_right (eqb m n) (is_in ms n) is)))

-- links that are made of the same setups are the same
same_links : (setups others : ℕ → List ℕ) (rows : List (List ℕ)) (marks : List Mark) (members : List ℕ) → ((n : ℕ) → is_in members n ≡ true → setups n ≡ others n) → map (links_of setups rows marks) members ≡ map (links_of others rows marks) members
same_links setups others rows marks [] are = refl
same_links setups others rows marks (m ∷ ms) are =
    let link : List ℕ → Links = λ s. record { number = m; before = row_of rows m; setups = s; rank = rank_of (mark_of marks m) } in
    ap (λ s. link s ∷ map (links_of setups rows marks) ms) (are m (has_first m ms))
    ∙ ap (λ ls. link (others m) ∷ ls) (same_links setups others rows marks ms (λ n is. are n (or_right (eqb m n) (is_in ms n) is)))

-- links that are made of the rows of setups
pub links_of_rows : (setups : ℕ → List ℕ) (tests : ℕ) (members : List ℕ) (rows sets : List (List ℕ)) (marks : List Mark) → AreRows setups tests members sets → map (links_of (row_of sets) rows marks) members ≡ map (links_of setups rows marks) members
links_of_rows setups tests members rows sets marks are = same_links (row_of sets) setups rows marks members (row_of-member setups tests members sets are)

-- links that are made of rows and ranks of a walk are an order
pub orders : (defs : List TestDef) (props : List Props) (tests : ℕ) (members : List ℕ) (rows : List (List ℕ)) (marks : List Mark) (links : List Links) → AreRows (before_of defs props members) tests members rows → AreRanked rows marks → are_taken marks members ≡ true → links ≡ map (links_of (setups_of props members) rows marks) members → IsOrder defs props members links
orders defs props tests members rows marks links are ranked taken made =
    subst (IsOrder defs props members) (sym made) (record {
      numbers = map_numbers setups rows marks members;
      before = map_before before setups rows marks members (row_of-member before tests members rows are);
      setups = map_setups setups rows marks members;
      ranks = list_all-map (ranks_above_all (map link members)) link members ∙ list_all-from (λ i. ranks_above_all (map link members) (link i)) members ranks;
    })
  where
    setups : ℕ → List ℕ
    setups = setups_of props members

    before : ℕ → List ℕ
    before = before_of defs props members

    link : ℕ → Links
    link = links_of (setups_of props members) rows marks

    ranks : (i : ℕ) → is_in members i ≡ true → ranks_above_all (map (links_of (setups_of props members) rows marks) members) (links_of (setups_of props members) rows marks i) ≡ true
    ranks i is =
        let here : mark_of marks i ≡ Taken (rank_of (mark_of marks i)) = taken_is (mark_of marks i) (list_all-at (λ j. is_ranked (mark_of marks j)) members i taken is) in
        let lower : are_taken_below marks (rank_of (mark_of marks i)) (row_of rows i) ≡ true = ranked i (rank_of (mark_of marks i)) here in
        list_all-from (λ j. ranks_below (rank_of (mark_of marks i)) (links_at (map (links_of (setups_of props members) rows marks) members) j)) (row_of rows i)
        (λ j in_row_i.
        let member : is_in members j ≡ true = (and_parts _ (is_in members j) (sym (is_in-filter _ members j) ∙ ap (λ row. is_in row j) (sym (row_of-member (before_of defs props members) tests members rows are i is)) ∙ in_row_i)).1 in
        ap (ranks_below (rank_of (mark_of marks i))) (links_at-member (links_of (setups_of props members) rows marks) (λ n. refl) members j member)
        ∙ lesser (rank_of (mark_of marks i)) (mark_of marks j) (list_all-at (λ k. is_taken_below (rank_of (mark_of marks i)) (mark_of marks k)) (row_of rows i) j lower in_row_i))

-- the rank of links, where there are any
abbrev rank_or_zero : Option Links → ℕ
rank_or_zero None = 0
rank_or_zero (Some l) = l.rank

below_is : (rank : ℕ) (found : Option Links) → ranks_below rank found ≡ true → rank_or_zero found < rank
below_is rank None is = absurd (false≢true is)
below_is rank (Some l) is = ltb-true l.rank rank is

-- links that were found, which have all that comes before a test
record HasLinks (before : ℕ → List ℕ) (p : Links → Bool) (found : Option Links) (test : ℕ) : Type 0 where
  link : Links
  is : found ≡ Some link
  before_is : link.before ≡ before test
  passes : p link ≡ true

has_links_by : (before : ℕ → List ℕ) (p : Links → Bool) (l : Links) (rest : Option Links) (test : ℕ) → l.before ≡ before l.number → p l ≡ true → (b : Bool) → eqb l.number test ≡ b → (b ≡ false → HasLinks before p rest test) → HasLinks before p (cond b (Some l) rest) test
has_links_by before p l rest test head passes true same behind = record { link = l; is = refl; before_is = head ∙ ap before (eqb-true l.number test same); passes = passes }
has_links_by before p l rest test head passes false other behind = behind refl

has_links : (before : ℕ → List ℕ) (p : Links → Bool) (links : List Links) → map (λ (l : Links). l.before) links ≡ map before (map (λ (l : Links). l.number) links) → list_all p links ≡ true → (test : ℕ) → is_in (map (λ (l : Links). l.number) links) test ≡ true → HasLinks before p (links_at links test) test
has_links before p [] same all test is = absurd (false≢true is)
has_links before p (l ∷ ls) same all test is =
    let head : l.before ≡ before l.number = cc in
    let tail : map (λ (l : Links). l.before) ls ≡ map before (map (λ (l : Links). l.number) ls) = cc in
    let both = and_parts (p l) (list_all p ls) all in
    has_links_by before p l (links_at ls test) test head both.0 (eqb l.number test) refl
    (λ other. has_links before p ls tail both.1 test
    (⊎_elim (λ same. absurd (true≢false (sym same ∙ other))) (λ rest. rest) (or_cases (eqb l.number test) (is_in (map (λ (l : Links). l.number) ls) test) is)))

module _ (defs : List TestDef) (props : List Props) (members : List ℕ) (links : List Links) (order : IsOrder defs props members links) where
  before : ℕ → List ℕ
  before = before_of defs props members

  rank_at : ℕ → ℕ
  rank_at test = rank_or_zero (links_at links test)

  -- what comes before a test is a member
  member : (i j : ℕ) → is_in (before_of defs props members i) j ≡ true → is_in members j ≡ true
  member i j is = (and_parts _ (is_in members j) (sym (is_in-filter _ members j) ∙ is)).1

  -- what comes before a member has a lesser rank
  rises : (i j : ℕ) → is_in members i ≡ true → is_in (before_of defs props members i) j ≡ true → rank_or_zero (links_at links j) < rank_or_zero (links_at links i)
  rises i j is before =
      let here = has_links (before_of defs props members) (ranks_above_all links) links (order.before ∙ ap (map (before_of defs props members)) (sym order.numbers)) order.ranks i (ap (λ ns. is_in ns i) order.numbers ∙ is) in
      let less = below_is here.link.rank (links_at links j) (list_all-at (λ k. ranks_below here.link.rank (links_at links k)) here.link.before j here.passes (ap (λ ns. is_in ns j) here.before_is ∙ before)) in
      subst (λ found. rank_or_zero (links_at links j) < found) (sym (ap rank_or_zero here.is)) less

  -- along a chain that leads to a test the ranks fall to that of the test
  climbs : (first test : ℕ) (rest : List ℕ) → is_in members test ≡ true → leads_to (before_of defs props members) first (test ∷ rest) ≡ true → rank_or_zero (links_at links first) < rank_or_zero (links_at links test)
  climbs first test [] is leads = rises test first is leads
  climbs first test (next ∷ rest) is leads =
      let both = and_parts (is_in (before_of defs props members test) next) (leads_to (before_of defs props members) first (next ∷ rest)) leads in
      let one : rank_or_zero (links_at links next) < rank_or_zero (links_at links test) = rises test next is both.0 in
      let more : rank_or_zero (links_at links first) < rank_or_zero (links_at links next) = climbs first next rest (member test next both.0) both.1 in
      omega arith

  -- a test that a chain leads to is a member
  led_to : (first test : ℕ) (rest : List ℕ) → leads_to (before_of defs props members) first (test ∷ rest) ≡ true → is_in members first ≡ true
  led_to first test [] leads = member test first leads
  led_to first test (next ∷ rest) leads =
      led_to first next rest (and_parts (is_in (before_of defs props members test) next) (leads_to (before_of defs props members) first (next ∷ rest)) leads).1

  -- an order leaves no tests that lead round
  closed : (tests : List ℕ) → leads_round (before_of defs props members) tests ≡ true → ⊥
  closed [] is = false≢true is
  closed (first ∷ rest) is =
      let round : rank_or_zero (links_at links first) < rank_or_zero (links_at links first) = climbs first first rest (led_to first first rest is) is in
      omega arith

  pub no_cycle : HasCycle (before_of defs props members) → ⊥
  no_cycle cycle = closed cycle.tests cycle.round

-- a cycle stays one where more comes before each test
leads_more : (before more : ℕ → List ℕ) → ((i j : ℕ) → is_in (before i) j ≡ true → is_in (more i) j ≡ true) → (first test : ℕ) (rest : List ℕ) → leads_to before first (test ∷ rest) ≡ true → leads_to more first (test ∷ rest) ≡ true
leads_more before more wider first test [] leads = wider test first leads
leads_more before more wider first test (next ∷ rest) leads =
    let both = and_parts (is_in (before test) next) (leads_to before first (next ∷ rest)) leads in
    and_from (is_in (more test) next) (leads_to more first (next ∷ rest)) (wider test next both.0) (leads_more before more wider first next rest both.1)

round_more : (before more : ℕ → List ℕ) → ((i j : ℕ) → is_in (before i) j ≡ true → is_in (more i) j ≡ true) → (tests : List ℕ) → leads_round before tests ≡ true → leads_round more tests ≡ true
round_more before more wider [] is = absurd (false≢true is)
round_more before more wider (first ∷ rest) is = leads_more before more wider first first rest is

pub cycle_more : (before more : ℕ → List ℕ) → ((i j : ℕ) → is_in (before i) j ≡ true → is_in (more i) j ≡ true) → (tests : List ℕ) → is_cycle before tests ≡ true → is_cycle more tests ≡ true
cycle_more before more wider tests is =
    let both = and_parts (leads_round before tests) (are_distinct tests) is in
    and_from (leads_round more tests) (are_distinct tests) (round_more before more wider tests both.0) both.1

-- a walk that ends early tells why there is no order
pub ends_order : (most : ℕ) (defs : List TestDef) (props : List Props) (tests : ℕ) (members : List ℕ) (rows : List (List ℕ)) (fault : GraphFault) → edges_of defs props members ≤ most → AreRows (before_of defs props members) tests members rows → EndsWalk rows fault → IsAnswer most defs props members (Err fault)
ends_order most defs props tests members rows (Cycle cycle) few are ends =
    (few, cycle_more (row_of rows) (before_of defs props members) (in_row (before_of defs props members) tests members rows are) cycle ends)
ends_order most defs props tests members rows TooManyEdges few are ends = absurd ends
ends_order most defs props tests members rows NoMemory few are ends = tt

-- where no rows are made, the answer is too many edges or want of memory
pub ends_rows : (most : ℕ) (index : Index) (fault : GraphFault) → EndsRows most index fault → IsAnswer most index.defs.now index.props.now index.members.now (Err fault)
ends_rows most index (Cycle cycle) ends = absurd ends
ends_rows most index TooManyEdges ends = ends
ends_rows most index NoMemory ends = tt

-- an order that is answered leaves no cycle
pub answers_none : (most : ℕ) (defs : List TestDef) (props : List Props) (members : List ℕ) (answer : Result Ordered GraphFault) → IsAnswer most defs props members answer → OnOk answer (HasCycle (before_of defs props members) → ⊥)
answers_none most defs props members (Ok ordered) is = no_cycle defs props members ordered.links is.1
answers_none most defs props members (Err fault) is = tt

-- the rows of the tests that are not yet looked at are as they were
pub record AreLeft (tests : List ℕ) (before now : List (List ℕ)) : Type 0 where
  pub count : length now ≡ length before
  pub same : (number : ℕ) → is_in tests number ≡ false → row_of now number ≡ row_of before number

-- one more test is looked at
pub leaves_more : (members : List ℕ) (at d : ℕ) (before now : List (List ℕ)) (row : List ℕ) → at < length members → AreLeft (take at members) before now → AreLeft (take (at + 1) members) before (set now (get_or members at d) row)
leaves_more members at d before now row within left = record {
  count = length-set now (get_or members at d) row ∙ left.count;
  same = λ other off.
      let both = or_parts (is_in (take at members) other) (eqb (get_or members at d) other) (sym (list_any_more (λ m. eqb m other) members at d within) ∙ off) in
      get_or-set_other now (get_or members at d) other row [] (λ same. eqb-false (get_or members at d) other both.1 (sym same))
      ∙ left.same other both.0;
}
