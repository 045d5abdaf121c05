-- A walk back over those before each test.
use Rattle.std.proofs.Common.{◌≡◌, ◌∙◌, sym, ap, subst, Bool, true, false, ℕ, suc, ◌<◌, List, [], ◌∷◌, ◌++◌, refl, arith, ltb-true}
use Rattle.std.specs.Prelude.{Option, Some, None, IfSome, ◌==◌, ◌&&◌, ◌||◌, not, cond, find, nat_lt, nat_eq}
use Rattle.std.specs.List.{list_all, list_any}
use Rattle.std.proofs.lemmas.Bool.{and_parts, and_from, true≢false, or_right}
use Rattle.std.proofs.lemmas.Bool.Decides.{nat_tests}
use Rattle.ct_history.specs.declared.plan.PlanTest.{PlanTest}
use Rattle.ct_history.specs.Plan.{has_sound_links, is_before_rank, test_at}
use Rattle.ct_history.proofs.PartListLemmas.{among_all}
use Rattle.ct_history.proofs.ProgressLemmas.{all_found}
use Rattle.ct_times.specs.Amounts.{comes_behind, is_path}
use Rattle.ct_times.specs.Bounds.{greatest, heaviest, heaviest_before}

-- a number is itself
pub self : (n : ℕ) → (n == n) ≡ true
self n = grind (arith, nat_tests)

same_way : (m n : ℕ) → (m == n) ≡ (n == m)
same_way m n = grind (arith, nat_tests)

-- what is found stands in the list
found_in : (p : ℕ → Bool) (ns : List ℕ) (m : ℕ) → find p ns ≡ Some m → list_any (λ k. k == m) ns ≡ true
found_in p [] m is = cc
found_in p (n ∷ ns) m is = by_first (p n) is (found_in p ns m)
  where
    by_first : (b : Bool) → cond b (Some n) (find p ns) ≡ Some m → (find p ns ≡ Some m → list_any (λ k. k == m) ns ≡ true) → list_any (λ k. k == m) (n ∷ ns) ≡ true
    by_first true here rest =
        let same : n ≡ m = cc in
        ap (λ (b : Bool). b || list_any (λ k. k == m) ns) (ap (λ (k : ℕ). k == m) same ∙ self m)
    by_first false there rest = or_right (n == m) (list_any (λ k. k == m) ns) (rest there)

-- the heaviest of those before a test is one of them
pub before_behind : (weight : ℕ → ℕ) (o : Option PlanTest) (m : ℕ) → heaviest_before weight o ≡ Some m → comes_behind m o ≡ true
before_behind weight None m is = cc
before_behind weight (Some t) m is =
    found_in (λ n. nat_lt 0 (weight n) && weight n == greatest weight t.before) t.before m is

-- a path with a test that its last one has before it
pub path_more : (tests : List PlanTest) (keys : List ℕ) (n m : ℕ) → is_path tests (keys ++ n ∷ []) ≡ true → comes_behind m (test_at tests n) ≡ true → is_path tests ((keys ++ n ∷ []) ++ m ∷ []) ≡ true
path_more tests [] n m is behind = and_from (comes_behind m (test_at tests n)) true behind refl
path_more tests (k ∷ []) n m is behind =
    and_from (comes_behind n (test_at tests k)) (comes_behind m (test_at tests n) && true)
    (and_parts (comes_behind n (test_at tests k)) true is).0 (and_from (comes_behind m (test_at tests n)) true behind refl)
path_more tests (k ∷ j ∷ keys) n m is behind =
    let both = and_parts (comes_behind j (test_at tests k)) (is_path tests (j ∷ (keys ++ n ∷ []))) is in
    and_from (comes_behind j (test_at tests k)) (is_path tests (j ∷ ((keys ++ n ∷ []) ++ m ∷ []))) both.0 (path_more tests (j ∷ keys) n m both.1 behind)

-- the path so far, and the next test on it
pub record IsOnWay (tests : List PlanTest) (keys : List ℕ) (next : Option ℕ) : Type 0 where
  pub path : is_path tests keys ≡ true
  pub goes_on : IfSome next (λ (n : ℕ). is_path tests (keys ++ n ∷ []) ≡ true)

pub way_more : (tests : List PlanTest) (weight : ℕ → ℕ) (keys new : List ℕ) (n : ℕ) (next : Option ℕ) → IsOnWay tests keys (Some n) → new ≡ keys ++ n ∷ [] → next ≡ heaviest_before weight (test_at tests n) → IsOnWay tests new next
way_more tests weight keys new n next way is leads =
    subst (λ (ks : List ℕ). IsOnWay tests ks next) (sym is) (record {
      path = way.goes_on;
      goes_on = subst (λ (o : Option ℕ). IfSome o (λ (m : ℕ). is_path tests ((keys ++ n ∷ []) ++ m ∷ []) ≡ true)) (sym leads) (on (heaviest_before weight (test_at tests n)) refl);
    })
  where
    on : (o : Option ℕ) → heaviest_before weight (test_at tests n) ≡ o → IfSome o (λ (m : ℕ). is_path tests ((keys ++ n ∷ []) ++ m ∷ []) ≡ true)
    on None here = tt
    on (Some m) here = path_more tests keys n m way.goes_on (before_behind weight (test_at tests n) m here)

-- what is left of a walk: one more than the rank of the next test
abbrev pub rank_at : Option PlanTest → ℕ
rank_at None = 0
rank_at (Some t) = t.rank

abbrev pub way_left : List PlanTest → Option ℕ → ℕ
way_left tests None = 0
way_left tests (Some n) = suc (rank_at (test_at tests n))

pub way_shortens : (tests : List PlanTest) (weight : ℕ → ℕ) (n : ℕ) (next : Option ℕ) → list_all (has_sound_links tests) tests ≡ true → next ≡ heaviest_before weight (test_at tests n) → way_left tests next < way_left tests (Some n)
way_shortens tests weight n next links leads = by_test (test_at tests n) refl next leads
  where
    lower : (o : Option PlanTest) (rank : ℕ) → is_before_rank rank o ≡ true → suc (rank_at o) < suc rank
    lower None rank is = absurd (true≢false (sym is))
    lower (Some t) rank is =
        let less : t.rank < rank = ltb-true t.rank rank (and_parts (not t.disabled) (nat_lt t.rank rank) is).1 in
        omega (arith, less)

    by_next : (t : PlanTest) → test_at tests n ≡ Some t → (o : Option ℕ) → heaviest weight t.before ≡ o → way_left tests o < suc (rank_at (Some t))
    by_next t found None here = omega arith
    by_next t found (Some m) here =
        let sound = all_found (has_sound_links tests) (λ (x : PlanTest). x.number == n) tests t links found in
        let before = (and_parts (list_all (λ j. is_before_rank t.rank (test_at tests j)) t.before) (list_all (λ s. list_any (λ j. j == s) t.before) t.setups) sound).0 in
        let among = found_in (λ k. nat_lt 0 (weight k) && weight k == greatest weight t.before) t.before m here in
        lower (test_at tests m) t.rank (among_all m (λ j. is_before_rank t.rank (test_at tests j)) t.before among before)

    by_test : (o : Option PlanTest) → test_at tests n ≡ o → (next : Option ℕ) → next ≡ heaviest_before weight o → way_left tests next < suc (rank_at o)
    by_test None found next leads = subst (λ (x : Option ℕ). way_left tests x < 1) (sym leads) (omega arith)
    by_test (Some t) found next leads = subst (λ (x : Option ℕ). way_left tests x < suc t.rank) (sym leads) (by_next t found (heaviest weight t.before) refl)

-- a test is on a path, whichever way it is asked
pub on_path : (keys : List ℕ) (n : ℕ) → list_any (nat_eq n) keys ≡ list_any (λ k. k == n) keys
on_path [] n = refl
on_path (k ∷ ks) n = ap (λ (b : Bool). b || list_any (nat_eq n) ks) (same_way n k) ∙ ap (λ (b : Bool). (k == n) || b) (on_path ks n)
