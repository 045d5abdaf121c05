-- An index finds the tests that come before a test, and those that set up its fixtures.
use Rattle.std.proofs.Common.{ℕ, zero, suc, ◌≡◌, ◌+◌, ◌<◌, ◌≤◌, Bool, true, false, not, ◌&&◌, ◌||◌, bytes_eq, List, [], ◌∷◌, length, take, get_or, Option, Some, refl, sym, ap, ◌∙◌, subst, arith, eqb}
use Rattle.std.specs.Prelude.{◌==◌}
use Rattle.std.specs.List.{list_any}
use Rattle.std.specs.List.Sorted.{IsStrictlyIncreasing}
use Rattle.std.proofs.lemmas.Bool.{eqb-true, ne_eqb}
use Rattle.std.proofs.lemmas.List.Folds.{list_any_more}
use Rattle.std.proofs.lemmas.Map.Keys.{any_passes_from_place}
use Rattle.std.proofs.lemmas.List.Kept.{IsStrictlyIncreasing-filter}
use Rattle.ct_base.specs.Numbers.{is_in}
use Rattle.ct_props.proofs.NumberedLemmas.{at_number_within, in_all}
use Rattle.ct_base.specs.declared.defs.TestDef.{TestDef}
use Rattle.ct_props.specs.declared.props.Props.{Props}
use Rattle.ct_props.specs.Numbered.{at_number}
use Rattle.ct_graph.specs.Before.{comes_before, sets_up, before_of, setups_of}
use Rattle.ct_graph.specs.ByName.{tests_of, is_found_in}
use Rattle.ct_graph.specs.Found.{AreFound}
use Rattle.ct_graph.specs.Index.{has_own_name, has_setup, has_required, cleans_some, has_cleanup, IsIndex, IsIndexAt, Indexed, AddsTest, AreMembers, FindsBefore}
use Rattle.ct_graph.specs.declared.index.Index.{Index}
use Rattle.ct_graph.proofs.TestLemmas.{is_in-filter, same_increasing}
use Rattle.ct_base.specs.Names.{is_among, shares_name}
use Rattle.ct_base.proofs.NameLemmas.{bytes_eq_comm}
use Rattle.std.proofs.Math.Bool.{and-or_distrib_left}

-- whether the number that was just added has what is asked
more_here : (a o : Bool) → ((a && o) || (o && true)) ≡ ((a || true) && o)
more_here true true = refl
more_here true false = refl
more_here false true = refl
more_here false false = refl

more_there : (a o b : Bool) → ((a && o) || (b && false)) ≡ ((a || false) && o)
more_there true true b = refl
more_there true false true = refl
more_there true false false = refl
more_there false o true = refl
more_there false o false = refl

-- the tests of one kind of name, with one more member indexed
pub one_more : (members : List ℕ) (at d : ℕ) → at < length members → (has : ℕ → Bool) (before now : ℕ → Bool) → ((n : ℕ) → before n ≡ (is_in (take at members) n && has n)) → ((n : ℕ) → now n ≡ (before n || (has (get_or members at d) && eqb (get_or members at d) n))) → (n : ℕ) → now n ≡ (is_in (take (at + 1) members) n && has n)
one_more members at d within has before now old new n =
    new n
    ∙ ap (λ b. b || (has (get_or members at d) && eqb (get_or members at d) n)) (old n)
    ∙ by (eqb (get_or members at d) n) refl
    ∙ ap (λ b. b && has n) (sym (list_any_more (λ m. eqb m n) members at d within))
  where
    by : (b : Bool) → eqb (get_or members at d) n ≡ b → ((is_in (take at members) n && has n) || (has (get_or members at d) && b)) ≡ ((is_in (take at members) n || b) && has n)
    by true is =
        ap (λ m. (is_in (take at members) n && has n) || (has m && true)) (eqb-true (get_or members at d) n is)
        ∙ more_here (is_in (take at members) n) (has n)
    by false is = more_there (is_in (take at members) n) (has n) (has (get_or members at d))

-- the index with one more member
pub indexes_more : (defs : List TestDef) (props : List Props) (members : List ℕ) (at d : ℕ) → at < length members → (names setups users names' setups' users' : List ℕ → List ℕ) → IsIndex defs props (take at members) names setups users
    → ((name : List ℕ) (n : ℕ) → is_in (names' name) n ≡ (is_in (names name) n || (has_own_name name (at_number defs (get_or members at d)) (at_number props (get_or members at d)) && eqb (get_or members at d) n)))
    → ((fixture : List ℕ) (n : ℕ) → is_in (setups' fixture) n ≡ (is_in (setups fixture) n || (has_setup fixture (at_number props (get_or members at d)) && eqb (get_or members at d) n)))
    → (has_cleanup props ≡ true → (fixture : List ℕ) (n : ℕ) → is_in (users' fixture) n ≡ (is_in (users fixture) n || (has_required fixture (at_number props (get_or members at d)) && eqb (get_or members at d) n)))
    → IsIndex defs props (take (at + 1) members) names' setups' users'
indexes_more defs props members at d within names setups users names' setups' users' index by_name by_setup by_user = record {
  by_name = λ name. one_more members at d within (λ n. has_own_name name (at_number defs n) (at_number props n)) (λ n. is_in (names name) n) (λ n. is_in (names' name) n) (index.by_name name) (by_name name);
  by_setup = λ fixture. one_more members at d within (λ n. has_setup fixture (at_number props n)) (λ n. is_in (setups fixture) n) (λ n. is_in (setups' fixture) n) (index.by_setup fixture) (by_setup fixture);
  by_user = λ cleans fixture. one_more members at d within (λ n. has_required fixture (at_number props n)) (λ n. is_in (users fixture) n) (λ n. is_in (users' fixture) n) (index.by_user cleans fixture) (by_user cleans fixture);
}

and_false : (m : Bool) → false ≡ (m && false)
and_false true = refl
and_false false = refl

in_front : (m : Bool) (each has : List ℕ → Bool) → ((name : List ℕ) → each name ≡ (m && has name)) → (names : List (List ℕ)) → list_any each names ≡ (m && list_any has names)
in_front m each has same [] = and_false m
in_front m each has same (name ∷ names) =
    ap (λ b. b || list_any each names) (same name)
    ∙ ap (λ b. (m && has name) || b) (in_front m each has same names)
    ∙ sym (and-or_distrib_left m (has name) (list_any has names))

-- a list with a first item is not empty
some_length : (n : ℕ) → not (suc n == 0) ≡ true
some_length n = ap not (ne_eqb (suc n) 0 (λ (same : suc n ≡ 0). omega (arith, same)))

module _ (defs : List TestDef) (props : List Props) (members : List ℕ) (names setups users : List ℕ → List ℕ) (index : IsIndex defs props members names setups users) (n : ℕ) where
  found_named : (depends : List (List ℕ)) → is_found_in names depends n ≡ (is_in members n && list_any (λ name. has_own_name name (at_number defs n) (at_number props n)) depends)
  found_named depends = in_front (is_in members n) (λ name. is_in (names name) n) (λ name. has_own_name name (at_number defs n) (at_number props n)) (λ name. index.by_name name n) depends

  found_setups : (fixtures : List (List ℕ)) → is_found_in setups fixtures n ≡ (is_in members n && list_any (λ fixture. has_setup fixture (at_number props n)) fixtures)
  found_setups fixtures = in_front (is_in members n) (λ fixture. is_in (setups fixture) n) (λ fixture. has_setup fixture (at_number props n)) (λ fixture. index.by_setup fixture n) fixtures

  found_users : (fixtures : List (List ℕ)) → (not (length fixtures == 0) ≡ true → has_cleanup props ≡ true) → is_found_in users fixtures n ≡ (is_in members n && list_any (λ fixture. has_required fixture (at_number props n)) fixtures)
  found_users [] cleans = and_false (is_in members n)
  found_users (first ∷ fixtures) cleans = in_front (is_in members n) (λ fixture. is_in (users fixture) n) (λ fixture. has_required fixture (at_number props n)) (λ fixture. index.by_user (cleans (some_length (length fixtures))) fixture n) (first ∷ fixtures)

-- a test that cleans a fixture is one of the tests
some_cleans : (props : List Props) (number : ℕ) (later : Props) → at_number props number ≡ Some later → cleans_some later ≡ true → has_cleanup props ≡ true
some_cleans props zero later is cleans = absurd (cc)
some_cleans props (suc place) later is cleans = any_passes_from_place cleans_some props place later is cleans

-- whether a test has one of these names, by its own name
named : (depends : List (List ℕ)) (def : TestDef) (earlier : Props) → list_any (λ name. has_own_name name (Some def) (Some earlier)) depends ≡ (not earlier.disabled && is_among def.name depends)
named depends def earlier =
    in_front (not earlier.disabled) (λ name. has_own_name name (Some def) (Some earlier)) (λ name. bytes_eq def.name name)
    (λ name. ap (λ b. not earlier.disabled && b) (bytes_eq_comm name def.name)) depends

sets : (fixtures : List (List ℕ)) (earlier : Props) → list_any (λ fixture. has_setup fixture (Some earlier)) fixtures ≡ (not earlier.disabled && shares_name fixtures earlier.setup)
sets fixtures earlier = in_front (not earlier.disabled) (λ fixture. has_setup fixture (Some earlier)) (λ fixture. is_among fixture earlier.setup) (λ fixture. refl) fixtures

requires_all : (fixtures : List (List ℕ)) (earlier : Props) → list_any (λ fixture. has_required fixture (Some earlier)) fixtures ≡ (not earlier.disabled && shares_name fixtures earlier.required)
requires_all fixtures earlier = in_front (not earlier.disabled) (λ fixture. has_required fixture (Some earlier)) (λ fixture. is_among fixture earlier.required) (λ fixture. refl) fixtures

-- four ways to be found, each only for what is a member and not disabled
four_ways : (m e a b c d : Bool) → ((((m && (e && a)) || (m && (e && b))) || (m && (e && c))) || (m && (e && d))) ≡ ((e && ((a || b) || (c || d))) && m)
four_ways true true true b c d = refl
four_ways true true false true c d = refl
four_ways true true false false true d = refl
four_ways true true false false false true = refl
four_ways true true false false false false = refl
four_ways true false a b c d = refl
four_ways false true true b c d = refl
four_ways false true false true c d = refl
four_ways false true false false true d = refl
four_ways false true false false false true = refl
four_ways false true false false false false = refl
four_ways false false a b c d = refl

one_way : (m e a : Bool) → (m && (e && a)) ≡ ((e && a) && m)
one_way true true true = refl
one_way true true false = refl
one_way true false a = refl
one_way false true true = refl
one_way false true false = refl
one_way false false a = refl

and_true : (e : Bool) → e ≡ (e && true)
and_true true = refl
and_true false = refl

no_way : (e r : Bool) → ((e && false) && r) ≡ false
no_way true r = refl
no_way false r = refl

-- a member that one of four kinds of names finds
abbrev any_of : Bool → Bool → Bool → Bool → Bool → Bool
any_of m a b c d = (((m && a) || (m && b)) || (m && c)) || (m && d)

ways : (m : Bool) (def : TestDef) (earlier later : Props) → later.disabled ≡ false → any_of m (list_any (λ name. has_own_name name (Some def) (Some earlier)) later.depends) (list_any (λ fixture. has_setup fixture (Some earlier)) later.required) (list_any (λ fixture. has_required fixture (Some earlier)) later.cleanup) (list_any (λ fixture. has_setup fixture (Some earlier)) later.cleanup) ≡ (comes_before (Some def) (Some earlier) (Some later) && m)
ways m def earlier later enabled =
    let e : Bool = not earlier.disabled in
    let depends : Bool = is_among def.name later.depends in
    let required : Bool = shares_name later.required earlier.setup in
    let users : Bool = shares_name later.cleanup earlier.required in
    let setups : Bool = shares_name later.cleanup earlier.setup in
    ap (λ a. any_of m a (list_any (λ fixture. has_setup fixture (Some earlier)) later.required) (list_any (λ fixture. has_required fixture (Some earlier)) later.cleanup) (list_any (λ fixture. has_setup fixture (Some earlier)) later.cleanup)) (named later.depends def earlier)
    ∙ ap (λ b. any_of m (e && depends) b (list_any (λ fixture. has_required fixture (Some earlier)) later.cleanup) (list_any (λ fixture. has_setup fixture (Some earlier)) later.cleanup)) (sets later.required earlier)
    ∙ ap (λ c. any_of m (e && depends) (e && required) c (list_any (λ fixture. has_setup fixture (Some earlier)) later.cleanup)) (requires_all later.cleanup earlier)
    ∙ ap (λ d. any_of m (e && depends) (e && required) (e && users) d) (sets later.cleanup earlier)
    ∙ four_ways m e depends required users setups
    ∙ ap (λ on. (on && ((depends || required) || (users || setups))) && m) (and_true e ∙ ap (λ off. e && not off) (sym enabled))

module _ (defs : List TestDef) (props : List Props) (members : List ℕ) (names setups users : List ℕ → List ℕ) (index : IsIndex defs props members names setups users) (inside : AreMembers (length props) members) (paired : length props ≡ length defs) (ascending : IsStrictlyIncreasing members) (number : ℕ) (later : Props) (is_later : at_number props number ≡ Some later) where
  -- a member has a definition and properties
  def_of : (n : ℕ) → is_in members n ≡ true → (def : TestDef) × (at_number defs n ≡ Some def)
  def_of n is = let within = in_all (λ m. (0 < m) × (m ≤ length props)) members inside n is in at_number_within defs n within.0 (let few : n ≤ length props = within.1 in omega arith)

  props_of : (n : ℕ) → is_in members n ≡ true → (earlier : Props) × (at_number props n ≡ Some earlier)
  props_of n is = let within = in_all (λ m. (0 < m) × (m ≤ length props)) members inside n is in at_number_within props n within.0 within.1

  found_by : (n : ℕ) → later.disabled ≡ false → any_of (is_in members n) (list_any (λ name. has_own_name name (at_number defs n) (at_number props n)) later.depends) (list_any (λ fixture. has_setup fixture (at_number props n)) later.required) (list_any (λ fixture. has_required fixture (at_number props n)) later.cleanup) (list_any (λ fixture. has_setup fixture (at_number props n)) later.cleanup) ≡ (comes_before (at_number defs n) (at_number props n) (at_number props number) && is_in members n)
  found_by n enabled = by (is_in members n) refl
    where
      Found : Bool → Option TestDef → Option Props → Option Props → Type 0
      Found m D P Q = any_of m (list_any (λ name. has_own_name name D P) later.depends) (list_any (λ fixture. has_setup fixture P) later.required) (list_any (λ fixture. has_required fixture P) later.cleanup) (list_any (λ fixture. has_setup fixture P) later.cleanup) ≡ (comes_before D P Q && m)

      by : (m : Bool) → is_in members n ≡ m → Found m (at_number defs n) (at_number props n) (at_number props number)
      by true is =
          let def = def_of n is in
          let earlier = props_of n is in
          subst (λ D. Found true D (at_number props n) (at_number props number)) (sym def.1)
          (subst (λ P. Found true (Some def.0) P (at_number props number)) (sym earlier.1)
          (subst (λ Q. Found true (Some def.0) (Some earlier.0) Q) (sym is_later) (ways true def.0 earlier.0 later enabled)))
      by false is = and_false (comes_before (at_number defs n) (at_number props n) (at_number props number))

  -- the tests that are found come before
  pub is_before : (found : List ℕ) → later.disabled ≡ false → FindsBefore names setups users later [] found → (n : ℕ) → is_in found n ≡ (comes_before (at_number defs n) (at_number props n) (at_number props number) && is_in members n)
  is_before found enabled finds n =
      finds n
      ∙ ap (λ a. ((a || is_found_in setups later.required n) || is_found_in users later.cleanup n) || is_found_in setups later.cleanup n) (found_named defs props members names setups users index n later.depends)
      ∙ ap (λ b. (((is_in members n && list_any (λ name. has_own_name name (at_number defs n) (at_number props n)) later.depends) || b) || is_found_in users later.cleanup n) || is_found_in setups later.cleanup n) (found_setups defs props members names setups users index n later.required)
      ∙ ap (λ c. (((is_in members n && list_any (λ name. has_own_name name (at_number defs n) (at_number props n)) later.depends) || (is_in members n && list_any (λ fixture. has_setup fixture (at_number props n)) later.required)) || c) || is_found_in setups later.cleanup n) (found_users defs props members names setups users index n later.cleanup (some_cleans props number later is_later))
      ∙ ap (λ d. (((is_in members n && list_any (λ name. has_own_name name (at_number defs n) (at_number props n)) later.depends) || (is_in members n && list_any (λ fixture. has_setup fixture (at_number props n)) later.required)) || (is_in members n && list_any (λ fixture. has_required fixture (at_number props n)) later.cleanup)) || d) (found_setups defs props members names setups users index n later.cleanup)
      ∙ found_by n enabled

  -- nothing comes before a test that is disabled
  pub none_before : later.disabled ≡ true → (n : ℕ) → false ≡ (comes_before (at_number defs n) (at_number props n) (at_number props number) && is_in members n)
  none_before off n = by (is_in members n) refl
    where
      by : (m : Bool) → is_in members n ≡ m → false ≡ (comes_before (at_number defs n) (at_number props n) (at_number props number) && m)
      by true is =
          let def = def_of n is in
          let earlier = props_of n is in
          subst (λ D. false ≡ (comes_before D (at_number props n) (at_number props number) && true)) (sym def.1)
          (subst (λ P. false ≡ (comes_before (Some def.0) P (at_number props number) && true)) (sym earlier.1)
          (subst (λ Q. false ≡ (comes_before (Some def.0) (Some earlier.0) Q && true)) (sym is_later)
          (ap (λ b. b && true) (sym (ap (λ d. (not earlier.0.disabled && not d) && (is_among def.0.name later.depends || shares_name later.required earlier.0.setup || (shares_name later.cleanup earlier.0.required || shares_name later.cleanup earlier.0.setup))) off ∙ no_way (not earlier.0.disabled) (is_among def.0.name later.depends || shares_name later.required earlier.0.setup || (shares_name later.cleanup earlier.0.required || shares_name later.cleanup earlier.0.setup)))))))
      by false is = and_false (comes_before (at_number defs n) (at_number props n) (at_number props number))

  -- the tests that are found by the fixtures set them up
  pub is_setup : (found : List ℕ) → later.disabled ≡ false → ((n : ℕ) → is_in found n ≡ is_found_in setups later.required n) → (n : ℕ) → is_in found n ≡ (sets_up (at_number props n) (at_number props number) && is_in members n)
  is_setup found enabled finds n =
      finds n ∙ found_setups defs props members names setups users index n later.required ∙ by (is_in members n) refl
    where
      Found : Bool → Option Props → Option Props → Type 0
      Found m P Q = (m && list_any (λ fixture. has_setup fixture P) later.required) ≡ (sets_up P Q && m)

      by : (m : Bool) → is_in members n ≡ m → Found m (at_number props n) (at_number props number)
      by true is =
          let earlier = props_of n is in
          subst (λ P. Found true P (at_number props number)) (sym earlier.1)
          (subst (λ Q. Found true (Some earlier.0) Q) (sym is_later)
          (sets later.required earlier.0
          ∙ one_way true (not earlier.0.disabled) (shares_name later.required earlier.0.setup)
          ∙ ap (λ on. (on && shares_name later.required earlier.0.setup) && true) (and_true (not earlier.0.disabled) ∙ ap (λ off. not earlier.0.disabled && not off) (sym enabled))))
      by false is = and_false (sets_up (at_number props n) (at_number props number))

  -- no test sets up a test that is disabled
  pub no_setup : later.disabled ≡ true → (n : ℕ) → false ≡ (sets_up (at_number props n) (at_number props number) && is_in members n)
  no_setup off n = by (is_in members n) refl
    where
      by : (m : Bool) → is_in members n ≡ m → false ≡ (sets_up (at_number props n) (at_number props number) && m)
      by true is =
          let earlier = props_of n is in
          subst (λ P. false ≡ (sets_up P (at_number props number) && true)) (sym earlier.1)
          (subst (λ Q. false ≡ (sets_up (Some earlier.0) Q && true)) (sym is_later)
          (ap (λ b. b && true) (sym (ap (λ d. (not earlier.0.disabled && not d) && shares_name later.required earlier.0.setup) off ∙ no_way (not earlier.0.disabled) (shares_name later.required earlier.0.setup)))))
      by false is = and_false (sets_up (at_number props n) (at_number props number))

  -- tests in order that are exactly those that come before are `before_of`
  pub same_before : (tests : List ℕ) → IsStrictlyIncreasing tests → ((n : ℕ) → is_in tests n ≡ (comes_before (at_number defs n) (at_number props n) (at_number props number) && is_in members n)) → tests ≡ before_of defs props members number
  same_before tests up are =
      same_increasing tests (before_of defs props members number) up
      (IsStrictlyIncreasing-filter (λ j. comes_before (at_number defs j) (at_number props j) (at_number props number)) members ascending)
      (λ n. are n ∙ sym (is_in-filter (λ j. comes_before (at_number defs j) (at_number props j) (at_number props number)) members n))

  pub same_setups : (tests : List ℕ) → IsStrictlyIncreasing tests → ((n : ℕ) → is_in tests n ≡ (sets_up (at_number props n) (at_number props number) && is_in members n)) → tests ≡ setups_of props members number
  same_setups tests up are =
      same_increasing tests (setups_of props members number) up
      (IsStrictlyIncreasing-filter (λ j. sets_up (at_number props j) (at_number props number)) members ascending)
      (λ n. are n ∙ sym (is_in-filter (λ j. sets_up (at_number props j) (at_number props number)) members n))

  -- the empty list is in order
  nothing_up : IsStrictlyIncreasing []
  nothing_up place less = absurd (let none : place + 1 < 0 = less in omega arith)

  -- what is found in order for a test are the tests that come before it
  pub row_before : (tests : List ℕ) → later.disabled ≡ false → IsStrictlyIncreasing tests → FindsBefore names setups users later [] tests → tests ≡ before_of defs props members number
  row_before tests enabled up finds = same_before tests up (is_before tests enabled finds)

  pub row_setups : (tests : List ℕ) → later.disabled ≡ false → AreFound setups later.required tests → tests ≡ setups_of props members number
  row_setups tests enabled found = same_setups tests found.ascending (is_setup tests enabled found.same)

  -- a test that is disabled waits for nothing
  pub no_row_before : later.disabled ≡ true → [] ≡ before_of defs props members number
  no_row_before off = same_before [] nothing_up (none_before off)

  pub no_row_setups : later.disabled ≡ true → [] ≡ setups_of props members number
  no_row_setups off = same_setups [] nothing_up (no_setup off)

-- what is found by the names, the required fixtures and the cleaned ones, in turn
pub finds_before : (names setups users : List ℕ → List ℕ) (props : Props) (none named required used cleaned : List ℕ) (some more all : List ℕ) → none ≡ [] → ((n : ℕ) → is_in named n ≡ (is_in none n || is_found_in names props.depends n)) → ((n : ℕ) → is_in some n ≡ (is_in named n || is_in required n)) → ((n : ℕ) → is_in more n ≡ (is_in some n || is_in used n)) → ((n : ℕ) → is_in all n ≡ (is_in more n || is_in cleaned n))
    → AreFound setups props.required required → AreFound users props.cleanup used → AreFound setups props.cleanup cleaned → FindsBefore names setups users props [] all
finds_before names setups users props none named required used cleaned some more all empty one two three four sets uses cleans = λ n.
    four n
    ∙ ap (λ b. b || is_in cleaned n) (three n)
    ∙ ap (λ b. (b || is_in used n) || is_in cleaned n) (two n)
    ∙ ap (λ b. ((b || is_in required n) || is_in used n) || is_in cleaned n) (one n ∙ ap (λ ns. is_in ns n || is_found_in names props.depends n) empty)
    ∙ ap (λ b. ((is_found_in names props.depends n || b) || is_in used n) || is_in cleaned n) (sets.same n)
    ∙ ap (λ b. ((is_found_in names props.depends n || is_found_in setups props.required n) || b) || is_in cleaned n) (uses.same n)
    ∙ ap (λ b. ((is_found_in names props.depends n || is_found_in setups props.required n) || is_found_in users props.cleanup n) || b) (cleans.same n)

-- an index that has one member more
pub adds_more : (defs : List TestDef) (props : List Props) (members : List ℕ) (at : ℕ) (old new : Index) → at < length members → IsIndexAt defs props members (take at members) old → AddsTest (get_or members at 0) old new → IsIndexAt defs props members (take (at + 1) members) new
adds_more defs props members at old new within was adds = record {
  defs_are = ap (λ d. d.now) adds.same_defs ∙ was.defs_are;
  props_are = ap (λ p. p.now) adds.same_props ∙ was.props_are;
  members_are = ap (λ m. m.now) adds.same_members ∙ was.members_are;
  cleans_is = adds.same_cleans ∙ was.cleans_is;
  indexed =
      indexes_more defs props members at 0 within (tests_of old.names) (tests_of old.setups) (tests_of old.users) (tests_of new.names) (tests_of new.setups) (tests_of new.users) was.indexed
      (λ name n. adds.by_name name n ∙ ap (λ ds. is_in (tests_of old.names name) n || (has_own_name name (at_number ds (get_or members at 0)) (at_number old.props.now (get_or members at 0)) && eqb (get_or members at 0) n)) was.defs_are ∙ ap (λ ps. is_in (tests_of old.names name) n || (has_own_name name (at_number defs (get_or members at 0)) (at_number ps (get_or members at 0)) && eqb (get_or members at 0) n)) was.props_are)
      (λ fixture n. adds.by_setup fixture n ∙ ap (λ ps. is_in (tests_of old.setups fixture) n || (has_setup fixture (at_number ps (get_or members at 0)) && eqb (get_or members at 0) n)) was.props_are)
      (λ cleans fixture n. adds.by_user (was.cleans_is ∙ cleans) fixture n ∙ ap (λ ps. is_in (tests_of old.users fixture) n || (has_required fixture (at_number ps (get_or members at 0)) && eqb (get_or members at 0) n)) was.props_are);
}

-- an index over members that ascend and are within the tests
pub indexed_from : (defs : List TestDef) (props : List Props) (members : List ℕ) (index : Index) → length props ≡ length defs → AreMembers (length defs) members → IsStrictlyIncreasing members → IsIndexAt defs props members members index → Indexed index
indexed_from defs props members index paired inside ascending at = record {
  paired = ap length at.props_are ∙ paired ∙ ap length (sym at.defs_are);
  inside = subst (AreMembers (length index.props.now)) (sym at.members_are) (subst (λ n. AreMembers n members) (sym (ap length at.props_are ∙ paired)) inside);
  ascending = subst IsStrictlyIncreasing (sym at.members_are) ascending;
  found =
      subst (λ ds. IsIndex ds index.props.now index.members.now (tests_of index.names) (tests_of index.setups) (tests_of index.users)) (sym at.defs_are)
      (subst (λ ps. IsIndex defs ps index.members.now (tests_of index.names) (tests_of index.setups) (tests_of index.users)) (sym at.props_are)
      (subst (λ ms. IsIndex defs props ms (tests_of index.names) (tests_of index.setups) (tests_of index.users)) (sym at.members_are) at.indexed));
}
