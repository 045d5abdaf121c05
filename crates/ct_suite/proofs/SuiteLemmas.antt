-- What a suite keeps holds however it is reached.
use Rattle.std.proofs.Common.{◌≡◌, ◌≤◌, ℕ, Bool, true, false, cond, List, [], ◌∷◌, map, length, All, refl, sym, ap, ◌∙◌, subst, append-nil}
use Rattle.ct_base.specs.declared.defs.TestDef.{TestDef}
use Rattle.ct_suite.specs.Tests.{HasShortValues, each_where, most_bytes, most_tests, taking_labels}
use Rattle.ct_suite.specs.Entries.{AreIndexed, def_of, names_of, dirs_of}
use Rattle.ct_suite.specs.declared.suite.Kept.{Kept}

-- the definitions of the tests
abbrev pub tests_in : Kept → List TestDef
tests_in kept = map def_of kept.tests.items

-- the places are those of the tests, which are few and have short values
abbrev pub Holds : Kept → Type 0
Holds kept = AreIndexed kept.by_name.entries (names_of (tests_in kept)) × AreIndexed kept.by_dir.entries (dirs_of (tests_in kept)) × length (tests_in kept) ≤ most_tests × All (HasShortValues most_bytes) (tests_in kept)

pub holds-same : (one other : Kept) → other ≡ one → Holds one → Holds other
holds-same one other same holds = subst Holds (sym same) holds

none_by : (test : TestDef) (is : Bool) → test ≡ cond is (taking_labels [] test) test
none_by test true = sym (λ i. record test { dir_labels = append-nil test.dir_labels i })
none_by test false = refl

none-added : (passes : TestDef → Bool) (tests : List TestDef) → tests ≡ each_where passes (taking_labels []) tests
none-added passes [] = refl
none-added passes (test ∷ tests) = λ i. none_by test (passes test) i ∷ none-added passes tests i

-- tests to which no label is added stay
pub labels-none : (passes : TestDef → Bool) (labels : List (List ℕ)) (tests : List TestDef) → labels ≡ [] → tests ≡ each_where passes (taking_labels labels) tests
labels-none passes labels tests none =
    none-added passes tests ∙ ap (λ ls. each_where passes (taking_labels ls) tests) (sym none)
