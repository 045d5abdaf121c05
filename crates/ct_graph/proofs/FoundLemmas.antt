-- Tests that are found and marked, and what is known of lists of names.
use Rattle.std.proofs.Common.{ℕ, ◌≡◌, ◌+◌, ◌<◌, ◌≤◌, ◌-◌, Bool, true, false, cond, ◌||◌, List, [], ◌∷◌, ◌++◌, length, get_or, set, drop, replicate, All, Option, Some, None, is_some, unwrap_or, IfSome, option_copied, refl, sym, ap, ◌∙◌, subst, ⊎_elim, arith, eqb, true≢false, Bor, Ordering, Less, Equal, Greater, nat_cmp, is_eq}
use Rattle.std.specs.Map.{lookup}
use Rattle.std.specs.BTreeMap.{BTreeMap, UpdatesBy}
use Rattle.std.specs.Ordering.{ordering_then}
use Rattle.std.specs.Cmp.Lexicographic.{slice_cmp}
use Rattle.std.specs.declared.vec.Vec.{Vec}
use Rattle.std.proofs.Math.Bool.{or-false}
use Rattle.std.proofs.lemmas.Bool.{false≢true, cases_eq, cases_lt, or_cases, or_left, or_right, eq-eqb, eqb-true}
use Rattle.std.proofs.lemmas.List.{get_or-set_same, get_or-set_other, get_or_append_left, get_or-append_right, get_or_past, length-set, drop_more, drop_all}
use Rattle.std.proofs.lemmas.List.Elements.{All-head, All-tail, All-push, All-weaker, All-nil}
use Rattle.std.proofs.lemmas.List.Folds.{list_any-append}
use Rattle.std.proofs.lemmas.Map.Text.{is_eq-slice_cmp}
use Rattle.std.proofs.lemmas.Slice.Eq.{bytes_eq-Decides}
use Rattle.ct_base.specs.Numbers.{is_in}
use Rattle.ct_base.proofs.ListLemmas.{none_new}
use Rattle.ct_graph.specs.Found.{AreMarked, AreFound, bytes_of, names_cmp, KnowsIn}

-- marks that reach farther mark the same tests
pub marks_reach : (marks : List Bool) (count at : ℕ) → get_or (marks ++ replicate count false) at false ≡ get_or marks at false
marks_reach marks count at =
    ⊎_elim (λ within. get_or_append_left marks (replicate count false) false at within)
    (λ past. get_or-append_right marks (replicate count false) (length marks) at false refl past ∙ none_new count (at - length marks) ∙ sym (get_or_past marks at false past))
    (cases_lt at (length marks))

pub stays_marked : (marks more : List Bool) (tests : List ℕ) → length marks ≤ length more → ((n : ℕ) → get_or more n false ≡ get_or marks n false) → AreMarked marks tests → AreMarked more tests
stays_marked marks more tests longer same are = record {
  within = All-weaker (λ n. n < length marks) (λ n. n < length more) (λ n less. omega arith) tests are.within;
  marked = λ n is. are.marked n (sym (same n) ∙ is);
}

-- a test that is marked was found before
pub found_before : (marks : List Bool) (tests : List ℕ) (test : ℕ) → AreMarked marks tests → get_or marks test false ≡ true → (n : ℕ) → is_in tests n ≡ (is_in tests n || eqb test n)
found_before marks tests test are is n = by (eqb test n) refl
  where
    by : (b : Bool) → eqb test n ≡ b → is_in tests n ≡ (is_in tests n || b)
    by true same =
        let here : is_in tests n ≡ true = ap (λ m. is_in tests m) (sym (eqb-true test n same)) ∙ are.marked test is in
        here ∙ sym (or_right (is_in tests n) true refl)
    by false other = sym (or-false (is_in tests n))

-- what is in a list with one more test
pub is_in-push : (tests : List ℕ) (test n : ℕ) → is_in (tests ++ test ∷ []) n ≡ (is_in tests n || eqb test n)
is_in-push tests test n = list_any-append (λ m. eqb m n) tests (test ∷ []) ∙ ap (λ b. is_in tests n || b) (or-false (eqb test n))

pub marks_more : (marks : List Bool) (tests : List ℕ) (test : ℕ) → test < length marks → AreMarked marks tests → AreMarked (set marks test true) (tests ++ test ∷ [])
marks_more marks tests test inside are = record {
  within = subst (λ count. All (λ n. n < count) (tests ++ test ∷ [])) (sym (length-set marks test true)) (All-push (λ n. n < length marks) tests test are.within inside);
  marked = λ n is.
      is_in-push tests test n
      ∙ ⊎_elim
      (λ same. or_right (is_in tests n) (eqb test n) (eq-eqb test n (sym same)))
      (λ other. or_left (is_in tests n) (eqb test n) (are.marked n (sym (get_or-set_other marks test n true false other) ∙ is)))
      (cases_eq n test);
}

-- the first of the tests has a place among the marks
pub first_within : (marks : List Bool) (tests : List ℕ) (at d : ℕ) → at < length tests → AreMarked marks (drop at tests) → get_or tests at d < length marks
first_within marks tests at d inside are =
    All-head (λ n. n < length marks) (get_or tests at d) (drop (at + 1) tests) (subst (AreMarked marks) (drop_more tests at d inside) are).within

-- once the mark of the first test is cleared, only the rest of the tests are marked
unmarks_first : (marks : List Bool) (test : ℕ) (rest : List ℕ) → AreMarked marks (test ∷ rest) → AreMarked (set marks test false) rest
unmarks_first marks test rest are = record {
  within = subst (λ count. All (λ n. n < count) rest) (sym (length-set marks test false)) (All-tail (λ n. n < length marks) test rest are.within);
  marked = λ n is. ⊎_elim
      (λ same. absurd (false≢true (sym (get_or-set_same marks test false false (All-head (λ n. n < length marks) test rest are.within)) ∙ ap (λ m. get_or (set marks test false) m false) (sym same) ∙ is)))
      (λ other. ⊎_elim
      (λ first. absurd (other (sym (eqb-true test n first))))
      (λ behind. behind)
      (or_cases (eqb test n) (is_in rest n) (are.marked n (sym (get_or-set_other marks test n false false other) ∙ is))))
      (cases_eq n test);
}

pub unmarks_more : (marks : List Bool) (tests : List ℕ) (at d : ℕ) → at < length tests → AreMarked marks (drop at tests) → AreMarked (set marks (get_or tests at d) false) (drop (at + 1) tests)
unmarks_more marks tests at d inside are =
    unmarks_first marks (get_or tests at d) (drop (at + 1) tests) (subst (AreMarked marks) (drop_more tests at d inside) are)

pub unmarks_all : (marks : List Bool) (tests : List ℕ) (at : ℕ) → length tests ≤ at → AreMarked marks (drop at tests) → AreMarked marks []
unmarks_all marks tests at past are = subst (AreMarked marks) (drop_all at tests past) are

pub none_marked : AreMarked [] []
none_marked = record {
  within = All-nil (λ n. n < length {A = Bool} []);
  marked = λ n is. absurd (false≢true (sym (get_or_past [] n false (omega arith)) ∙ is));
}

-- lists of names that compare alike have the same names
both_eq : (a b : Ordering) → is_eq (ordering_then a b) ≡ true → (is_eq a ≡ true) × (is_eq b ≡ true)
both_eq Less b is = absurd (false≢true is)
both_eq Equal b is = (refl, is)
both_eq Greater b is = absurd (false≢true is)

pub same_names : (names others : List (Bor (List ℕ))) → is_eq (names_cmp names others) ≡ true → bytes_of names ≡ bytes_of others
same_names [] [] is = refl
same_names [] (o ∷ os) is = absurd (false≢true is)
same_names (n ∷ ns) [] is = absurd (false≢true is)
same_names (n ∷ ns) (o ∷ os) is =
    let both = both_eq (slice_cmp nat_cmp n.now o.now) (names_cmp ns os) is in
    ap (λ name. name ∷ bytes_of ns) ((bytes_eq-Decides n.now o.now).0 (sym (is_eq-slice_cmp n.now o.now) ∙ both.0))
    ∙ ap (λ rest. o.now ∷ rest) (same_names ns os both.1)

-- an empty map knows of no list
pub knows_none : {Y : Type 0} (find : List ℕ → List ℕ) (entries : List (Vec (Bor (List ℕ)) Y × List ℕ)) → entries ≡ [] → KnowsIn find entries
knows_none {Y} find entries none = λ names tests is.
    absurd (true≢false (sym (ap is_some is) ∙ ap (λ es. is_some (lookup (λ (key : Vec (Bor (List ℕ)) Y). is_eq (names_cmp names.items key.items)) es)) none))

-- the tests that are known for a list of names are those that the names find
pub known_found : {Y : Type 0} (names : Vec (Bor (List ℕ)) Y) (entries : List (Vec (Bor (List ℕ)) Y × List ℕ)) (result : Option (Bor (List ℕ))) → option_copied result ≡ lookup (λ (key : Vec (Bor (List ℕ)) Y). is_eq (names_cmp names.items key.items)) entries
    → IfSome result (λ tests. (find : List ℕ → List ℕ) → KnowsIn find entries → AreFound find (bytes_of names.items) tests.now)
known_found names entries None value = tt
known_found names entries (Some tests) value = λ find knows. knows names tests.now (sym value)

-- a map with one more list of names still keeps the tests that the names find
pub knows_more : {Y : Type 0} (find : List ℕ → List ℕ) (names : Vec (Bor (List ℕ)) Y) (tests : List ℕ) (before now : BTreeMap (Vec (Bor (List ℕ)) Y) (List ℕ)) → KnowsIn find before.entries → AreFound find (bytes_of names.items) tests
    → UpdatesBy (λ (x y : Vec (Bor (List ℕ)) Y). names_cmp x.items y.items) (λ (key : Vec (Bor (List ℕ)) Y). names_cmp names.items key.items) before now (Some tests) → KnowsIn find now.entries
knows_more {Y} find names tests before now was are updates = λ others found is. by others found is (is_eq (names_cmp names.items others.items)) refl
  where
    by : (others : Vec (Bor (List ℕ)) Y) (found : List ℕ) → lookup (λ (key : Vec (Bor (List ℕ)) Y). is_eq (names_cmp others.items key.items)) now.entries ≡ Some found → (b : Bool) → is_eq (names_cmp names.items others.items) ≡ b → AreFound find (bytes_of others.items) found
    by others found is true same =
        let here : Some tests ≡ Some found = sym (updates.0 others ∙ ap (λ b. cond b (Some tests) (lookup (λ (key : Vec (Bor (List ℕ)) Y). is_eq (names_cmp others.items key.items)) before.entries)) same) ∙ is in
        subst (λ ns. AreFound find ns found) (same_names names.items others.items same)
        (subst (AreFound find (bytes_of names.items)) (ap (λ (o : Option (List ℕ)). unwrap_or o []) here) are)
    by others found is false other =
        was others found (sym (updates.0 others ∙ ap (λ b. cond b (Some tests) (lookup (λ (key : Vec (Bor (List ℕ)) Y). is_eq (names_cmp others.items key.items)) before.entries)) other) ∙ is)
