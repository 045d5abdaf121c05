-- Which tests fixtures have once those of one fixture were changed.
use Rattle.std.proofs.Common.{◌≡◌, ℕ, Bool, true, false, cond, eqb, ◌&&◌, ◌||◌, bytes_eq, List, [], ◌∷◌, ◌++◌, Option, refl, sym, ap, ◌∙◌}
use Rattle.std.specs.Map.{lookup}
use Rattle.std.specs.declared.vec.Vec.{Vec}
use Rattle.std.proofs.lemmas.List.Folds.{list_any-append}
use Rattle.std.proofs.lemmas.Slice.Eq.{bytes_eq-Decides}
use Rattle.std.proofs.lemmas.List.{nil_from_length}
use Rattle.indexmap.specs.IndexMap.{IndexMap, UpdatesBy, index_map_len}
use Rattle.ct_base.specs.Numbers.{is_in}
use Rattle.ct_base.proofs.KeyLemmas.{kept_apart}
use Rattle.ct_base.specs.Found.{or_none}
use Rattle.ct_fixture.specs.Kept.{fixture_tests}

and_all : (a : Bool) → (a || false) ≡ (a && true)
and_all true = refl
and_all false = refl

or_nothing : (a b : Bool) → a ≡ (a || (b && false))
or_nothing true b = refl
or_nothing false true = refl
or_nothing false false = refl

-- a list that is empty stays as it is where it is taken out
pub cond_same : (b : Bool) (tests : List ℕ) → tests ≡ [] → tests ≡ cond b [] tests
cond_same true tests none = none
cond_same false tests none = refl

module _ {Y Z : Type 0} where
  module _ {S : Type 0} where
    updated_by : (before now : IndexMap (Vec ℕ Y) (Vec ℕ Z) S) (fixture asked : List ℕ) (tests : Option (Vec ℕ Z)) → UpdatesBy (λ (one other : Vec ℕ Y). bytes_eq one.items other.items) (λ (name : Vec ℕ Y). bytes_eq fixture name.items) before now tests → (is : Bool) → bytes_eq asked fixture ≡ is → fixture_tests now asked ≡ cond is (or_none tests) (fixture_tests before asked)
    updated_by before now fixture asked tests updates true is = ap (fixture_tests now) ((bytes_eq-Decides asked fixture).0 is) ∙ ap or_none updates.1
    updated_by before now fixture asked tests updates false is = ap or_none (kept_apart fixture asked before.entries now.entries is updates.3)

    -- the tests of one fixture were changed
    pub updated : (before now : IndexMap (Vec ℕ Y) (Vec ℕ Z) S) (fixture : List ℕ) (tests : Option (Vec ℕ Z)) → UpdatesBy (λ (one other : Vec ℕ Y). bytes_eq one.items other.items) (λ (name : Vec ℕ Y). bytes_eq fixture name.items) before now tests → (asked : List ℕ) → fixture_tests now asked ≡ cond (bytes_eq asked fixture) (or_none tests) (fixture_tests before asked)
    updated before now fixture tests updates asked = updated_by before now fixture asked tests updates (bytes_eq asked fixture) refl

    -- where no fixture has tests, none has
    pub none_there : (tests : IndexMap (Vec ℕ Y) (Vec ℕ Z) S) → index_map_len tests ≡ 0 → (asked : List ℕ) → fixture_tests tests asked ≡ []
    none_there tests none asked = ap (λ entries. or_none (lookup (λ (name : Vec ℕ Y). bytes_eq asked name.items) entries)) (nil_from_length tests.entries none)

    noted_by : (before now : IndexMap (Vec ℕ Y) (Vec ℕ Z) S) (fixture asked tests : List ℕ) (number test : ℕ) (is : Bool) → bytes_eq asked fixture ≡ is → tests ≡ fixture_tests before fixture ++ number ∷ [] → fixture_tests now asked ≡ cond is tests (fixture_tests before asked) → is_in (fixture_tests now asked) test ≡ (is_in (fixture_tests before asked) test || (eqb number test && is))
    noted_by before now fixture asked tests number test true is pushed put =
        ap (λ tests. is_in tests test) (put ∙ pushed ∙ ap (λ f. fixture_tests before f ++ number ∷ []) (sym ((bytes_eq-Decides asked fixture).0 is)))
        ∙ list_any-append (λ n. eqb n test) (fixture_tests before asked) (number ∷ [])
        ∙ ap (λ here. is_in (fixture_tests before asked) test || here) (and_all (eqb number test))
    noted_by before now fixture asked tests number test false is pushed put = ap (λ tests. is_in tests test) put ∙ or_nothing (is_in (fixture_tests before asked) test) (eqb number test)

    -- a fixture has one test more
    pub noted : (before now : IndexMap (Vec ℕ Y) (Vec ℕ Z) S) (fixture tests : List ℕ) (number : ℕ) → tests ≡ fixture_tests before fixture ++ number ∷ [] → ((asked : List ℕ) → fixture_tests now asked ≡ cond (bytes_eq asked fixture) tests (fixture_tests before asked)) → (asked : List ℕ) (test : ℕ) → is_in (fixture_tests now asked) test ≡ (is_in (fixture_tests before asked) test || (eqb number test && bytes_eq asked fixture))
    noted before now fixture tests number pushed put asked test = noted_by before now fixture asked tests number test (bytes_eq asked fixture) refl pushed (put asked)
