-- The tests of several trees one behind the other are sound, and each tree's plan is a part of theirs.
use Rattle.std.proofs.Common.{◌≡◌, ◌∙◌, sym, ap, subst, Bool, true, false, ℕ, ◌+◌, ◌<◌, ◌≤◌, ◌^◌, All, List, [], ◌∷◌, ◌++◌, length, get_or, take, drop, map, filter, Option, Some, None, refl, arith, inl, inr, ◌==◌, nat_lt, nat_le, append_assoc}
use Rattle.std.specs.Prelude.{◌||◌, cond, IfSome, option_map}
use Rattle.std.specs.List.{list_all, list_any}
use Rattle.std.proofs.lemmas.Bool.{and_from, and_parts, cases_Bool, le-leb, leb-true, lt-ltb}
use Rattle.std.proofs.lemmas.Bool.Decides.{nat_tests}
use Rattle.std.proofs.lemmas.List.{append-nil, drop_more, take_more}
use Rattle.std.proofs.lemmas.List.Elements.{All-append, All-cons, All-head, All-nil, All-tail, filter-append}
use Rattle.std.proofs.lemmas.List.Folds.{list_all-append}
use Rattle.ct_base.specs.declared.defs.Resource.{Resource}
use Rattle.ct_base.specs.Resources.{AreDistinct}
use Rattle.ct_verdict.specs.declared.repeat.Repeat.{Repeat}
use Rattle.ct_history.specs.declared.plan.PlanTest.{PlanTest}
use Rattle.ct_history.specs.declared.plan.PlanParts.{PlanParts}
use Rattle.ct_history.specs.Parts.{IsPartOfPlan, is_in_tree, renumbered}
use Rattle.ct_history.specs.Plan.{AllAscend, IsAscendingFrom, IsPlaceable, IsSound, has_sound_links, has_sound_processors, is_before_rank, is_fixed_cause, test_at}
use Rattle.ct_history.proofs.BoolLemmas.{all_at}
use Rattle.ct_history.proofs.PlanLemmas.{find_passes, numbers_of}
use Rattle.ct_history.proofs.PartListLemmas.{among_all}
use Rattle.ct_history.proofs.ProgressLemmas.{all_found}
use Rattle.ct_history.proofs.PartLemmas.{found_in, test_at-part}
use Rattle.ct_history.proofs.AscendLemmas.{ascends_sooner}
use Rattle.ct_plan.specs.declared.standing.Standing.{Standing}
use Rattle.ct_plan.specs.declared.whole.Tree.{Tree}
use Rattle.ct_plan.specs.Queue.{IsQueue}
use Rattle.ct_plan.specs.Whole.{AreTreeParts, IsPlannedTree, RunAlike, RunsLike, StaysNumbered, defined_in, tests_of_trees}
use Rattle.ct_plan.proofs.NumberLemmas.{AreOfTests}

-- each of these trees has a sound plan
abbrev pub AreSound : List Tree → Type 0
AreSound trees = All (λ (tree : Tree). IsSound tree.plan) trees

-- numbers that ascend, raised, with greater ones behind them
joined : (o most least : ℕ) (ts later : List PlanTest) → least ≤ most + 1 → IsAscendingFrom least (numbers_of ts) → AreOfTests most (numbers_of ts) → IsAscendingFrom (o + most + 1) (numbers_of later) → IsAscendingFrom (o + least) (numbers_of (map (renumbered o) ts ++ later))
joined o most least [] later below ascends within rest = ascends_sooner (o + least) (o + most + 1) (numbers_of later) (omega (arith, below)) rest
joined o most least (t ∷ ts) later below ascends within rest =
    let P : ℕ → Type 0 = λ number. (0 < number) × (number ≤ most) in
    let here = All-head P t.number (numbers_of ts) within in
    let more = joined o most (t.number + 1) ts later (omega (arith, here.1)) ascends.1 (All-tail P t.number (numbers_of ts) within) rest in
    let next : o + (t.number + 1) ≡ t.number + o + 1 = omega arith in
    (omega (arith, ascends.0), subst (λ (n : ℕ). IsAscendingFrom n (numbers_of (map (renumbered o) ts ++ later))) next more)

-- the numbers of the tests of all trees ascend
pub numbers_ascend : (o : ℕ) (trees : List Tree) → All IsPlannedTree trees → AreSound trees → IsAscendingFrom (o + 1) (numbers_of (tests_of_trees o trees))
numbers_ascend o [] planned sound = tt
numbers_ascend o (tree ∷ trees) planned sound =
    let here = All-head IsPlannedTree tree trees planned in
    joined o (length tree.defs) 1 tree.plan.tests (tests_of_trees (o + length tree.defs) trees) (omega arith)
    (All-head (λ (x : Tree). IsSound x.plan) tree trees sound).numbers here.within
    (numbers_ascend (o + length tree.defs) trees (All-tail IsPlannedTree tree trees planned) (All-tail (λ (x : Tree). IsSound x.plan) tree trees sound))

pub whole_ascends : (trees : List Tree) → All IsPlannedTree trees → AreSound trees → IsAscendingFrom 1 (numbers_of (tests_of_trees 0 trees))
whole_ascends trees planned sound = numbers_ascend 0 trees planned sound

-- the links of each test ascend
raised_ascends : (o least : ℕ) (ns : List ℕ) → IsAscendingFrom least ns → IsAscendingFrom (least + o) (map (λ n. n + o) ns)
raised_ascends o least [] ascends = tt
raised_ascends o least (n ∷ ns) ascends =
    let next : n + 1 + o ≡ n + o + 1 = omega arith in
    (omega (arith, ascends.0), subst (λ (m : ℕ). IsAscendingFrom m (map (λ n. n + o) ns)) next (raised_ascends o (n + 1) ns ascends.1))

module _ (links : PlanTest → List ℕ) (raised : (o : ℕ) (t : PlanTest) → links (renumbered o t) ≡ map (λ n. n + o) (links t)) where
  links_joined : (o : ℕ) (ts later : List PlanTest) → AllAscend links ts → AllAscend links later → AllAscend links (map (renumbered o) ts ++ later)
  links_joined o [] later ascend rest = rest
  links_joined o (t ∷ ts) later ascend rest = (
    subst (λ (ns : List ℕ). IsAscendingFrom 1 ns) (sym (raised o t)) (ascends_sooner 1 (1 + o) (map (λ n. n + o) (links t)) (omega arith) (raised_ascends o 1 (links t) ascend.0)),
    links_joined o ts later ascend.1 rest,
  )

  links_ascend : (o : ℕ) (trees : List Tree) → All (λ (tree : Tree). AllAscend links tree.plan.tests) trees → AllAscend links (tests_of_trees o trees)
  links_ascend o [] ascend = tt
  links_ascend o (tree ∷ trees) ascend =
      links_joined o tree.plan.tests (tests_of_trees (o + length tree.defs) trees) (All-head (λ (x : Tree). AllAscend links x.plan.tests) tree trees ascend)
      (links_ascend (o + length tree.defs) trees (All-tail (λ (x : Tree). AllAscend links x.plan.tests) tree trees ascend))

-- what each test of each tree passes, whatever its number, all tests pass
module _ (p : PlanTest → Bool) (kept : (o : ℕ) (t : PlanTest) → p (renumbered o t) ≡ p t) where
  passed_by_tree : (o : ℕ) (ts : List PlanTest) → list_all p ts ≡ true → list_all p (map (renumbered o) ts) ≡ true
  passed_by_tree o [] all = refl
  passed_by_tree o (t ∷ ts) all =
      let both = and_parts (p t) (list_all p ts) all in
      and_from (p (renumbered o t)) (list_all p (map (renumbered o) ts)) (kept o t ∙ both.0) (passed_by_tree o ts both.1)

  passed_by_all : (o : ℕ) (trees : List Tree) → All (λ (tree : Tree). list_all p tree.plan.tests ≡ true) trees → list_all p (tests_of_trees o trees) ≡ true
  passed_by_all o [] all = refl
  passed_by_all o (tree ∷ trees) all =
      list_all-append p (map (renumbered o) tree.plan.tests) (tests_of_trees (o + length tree.defs) trees)
      ∙ and_from (list_all p (map (renumbered o) tree.plan.tests)) (list_all p (tests_of_trees (o + length tree.defs) trees))
      (passed_by_tree o tree.plan.tests (All-head (λ (x : Tree). list_all p x.plan.tests ≡ true) tree trees all))
      (passed_by_all (o + length tree.defs) trees (All-tail (λ (x : Tree). list_all p x.plan.tests ≡ true) tree trees all))

-- what holds of each test of each tree, whatever its number, holds of all tests
module _ (P : PlanTest → Type 0) (kept : (o : ℕ) (t : PlanTest) → P t → P (renumbered o t)) where
  holds_in_tree : (o : ℕ) (ts : List PlanTest) → All P ts → All P (map (renumbered o) ts)
  holds_in_tree o [] all = All-nil P
  holds_in_tree o (t ∷ ts) all = All-cons P (renumbered o t) (map (renumbered o) ts) (kept o t (All-head P t ts all)) (holds_in_tree o ts (All-tail P t ts all))

  holds_in_all : (o : ℕ) (trees : List Tree) → All (λ (tree : Tree). All P tree.plan.tests) trees → All P (tests_of_trees o trees)
  holds_in_all o [] all = All-nil P
  holds_in_all o (tree ∷ trees) all =
      All-append P (map (renumbered o) tree.plan.tests) (tests_of_trees (o + length tree.defs) trees)
      (holds_in_tree o tree.plan.tests (All-head (λ (x : Tree). All P x.plan.tests) tree trees all))
      (holds_in_all (o + length tree.defs) trees (All-tail (λ (x : Tree). All P x.plan.tests) tree trees all))

-- the tests of the whole with numbers of a tree
module _ (o c : ℕ) where
  abbrev in_range : PlanTest → Bool
  in_range t = is_in_tree o c t.number

  filter_all : (ts : List PlanTest) → list_all in_range ts ≡ true → filter in_range ts ≡ ts
  filter_all [] all = refl
  filter_all (t ∷ ts) all =
      let both = and_parts (in_range t) (list_all in_range ts) all in
      ap (λ (b : Bool). cond b (t ∷ filter in_range ts) (filter in_range ts)) both.0 ∙ ap (λ (us : List PlanTest). t ∷ us) (filter_all ts both.1)

  filter_none : (ts : List PlanTest) → list_any in_range ts ≡ false → filter in_range ts ≡ []
  filter_none [] none = refl
  filter_none (t ∷ ts) none = elim (cases_Bool (in_range t)) [
    | inl is ↦ let no = sym (ap (λ (b : Bool). b || list_any in_range ts) is) ∙ none in (cc)
    | inr other ↦
        ap (λ (b : Bool). cond b (t ∷ filter in_range ts) (filter in_range ts)) other
        ∙ filter_none ts (sym (ap (λ (b : Bool). b || list_any in_range ts) other) ∙ none)
  ]

  own_in_range : (ts : List PlanTest) → AreOfTests c (numbers_of ts) → list_all in_range (map (renumbered o) ts) ≡ true
  own_in_range [] within = refl
  own_in_range (t ∷ ts) within =
      let P : ℕ → Type 0 = λ number. (0 < number) × (number ≤ c) in
      let here = All-head P t.number (numbers_of ts) within in
      and_from (in_range (renumbered o t)) (list_all in_range (map (renumbered o) ts))
      (and_from (nat_lt o (t.number + o)) (nat_le (t.number + o) (o + c)) (lt-ltb _ _ (omega (arith, here.0))) (le-leb _ _ (omega (arith, here.1))))
      (own_in_range ts (All-tail P t.number (numbers_of ts) within))

  later_out : (least : ℕ) (ts : List PlanTest) → o + c < least → IsAscendingFrom least (numbers_of ts) → list_any in_range ts ≡ false
  later_out least [] above ascends = refl
  later_out least (t ∷ ts) above ascends =
      let out : in_range t ≡ false = (let more : o + c < t.number = omega (arith, above, ascends.0) in grind (arith, nat_tests)) in
      ap (λ (b : Bool). b || list_any in_range ts) out ∙ later_out (t.number + 1) ts (omega (arith, above, ascends.0)) ascends.1

-- the numbers of these tests are at most `most`
abbrev AreUpTo : ℕ → List PlanTest → Type 0
AreUpTo most ts = list_all (λ (t : PlanTest). nat_le t.number most) ts ≡ true

front_out : (o c : ℕ) (ts : List PlanTest) → AreUpTo o ts → list_any (λ (t : PlanTest). is_in_tree o c t.number) ts ≡ false
front_out o c [] up = refl
front_out o c (t ∷ ts) up =
    let both = and_parts (nat_le t.number o) (list_all (λ (u : PlanTest). nat_le u.number o) ts) up in
    let low = leb-true t.number o both.0 in
    let out : is_in_tree o c t.number ≡ false = grind (arith, nat_tests) in
    ap (λ (b : Bool). b || list_any (λ (u : PlanTest). is_in_tree o c u.number) ts) out ∙ front_out o c ts both.1

up_further : (o more : ℕ) (ts : List PlanTest) → AreUpTo o ts → AreUpTo (o + more) ts
up_further o more [] up = refl
up_further o more (t ∷ ts) up =
    let both = and_parts (nat_le t.number o) (list_all (λ (u : PlanTest). nat_le u.number o) ts) up in
    let low = leb-true t.number o both.0 in
    and_from (nat_le t.number (o + more)) (list_all (λ (u : PlanTest). nat_le u.number (o + more)) ts) (le-leb _ _ (omega (arith, low))) (up_further o more ts both.1)

own_up : (o c : ℕ) (ts : List PlanTest) → AreOfTests c (numbers_of ts) → AreUpTo (o + c) (map (renumbered o) ts)
own_up o c [] within = refl
own_up o c (t ∷ ts) within =
    let P : ℕ → Type 0 = λ number. (0 < number) × (number ≤ c) in
    let here = All-head P t.number (numbers_of ts) within in
    and_from (nat_le (t.number + o) (o + c)) (list_all (λ (u : PlanTest). nat_le u.number (o + c)) (map (renumbered o) ts)) (le-leb _ _ (omega (arith, here.1)))
    (own_up o c ts (All-tail P t.number (numbers_of ts) within))

-- the plan of each tree is the part of a plan of all tests
module _ (whole : PlanParts) where
  parts_behind : (front : List PlanTest) (o : ℕ) (trees : List Tree) → All IsPlannedTree trees → AreSound trees → All (RunsLike whole) trees → AreUpTo o front → whole.tests ≡ front ++ tests_of_trees o trees → AreTreeParts whole o trees
  parts_behind front o [] planned sound alike up is = tt
  parts_behind front o (tree ∷ trees) planned sound alike up is =
      let here = All-head IsPlannedTree tree trees planned in
      let like = All-head (RunsLike whole) tree trees alike in
      let rest = All-tail IsPlannedTree tree trees planned in
      let sounds = All-tail (λ (x : Tree). IsSound x.plan) tree trees sound in
      let count = length tree.defs in
      let own = map (renumbered o) tree.plan.tests in
      let later = tests_of_trees (o + count) trees in
      let p : PlanTest → Bool = λ t. is_in_tree o count t.number in
      let kept : filter p (front ++ (own ++ later)) ≡ own =
      filter-append p front (own ++ later)
      ∙ ap (λ (us : List PlanTest). us ++ filter p (own ++ later)) (filter_none o count front (front_out o count front up))
      ∙ filter-append p own later
      ∙ ap (λ (us : List PlanTest). us ++ filter p later) (filter_all o count own (own_in_range o count tree.plan.tests here.within))
      ∙ ap (λ (us : List PlanTest). own ++ us) (filter_none o count later (later_out o count (o + count + 1) later (omega arith) (numbers_ascend (o + count) trees rest sounds)))
      ∙ append-nil own in (
        record {
          tests = ap (λ (us : List PlanTest). filter p us) is ∙ kept;
          resources = sym like.resources;
          level = sym like.level;
          repeat = sym like.repeat;
        },
        parts_behind (front ++ own) (o + count) trees rest sounds (All-tail (RunsLike whole) tree trees alike)
            (list_all-append (λ (t : PlanTest). nat_le t.number (o + count)) front own ∙ and_from _ _ (up_further o count front up) (own_up o count tree.plan.tests here.within))
            (is ∙ sym (append_assoc front own later)),
      )

  pub whole_parts : (trees : List Tree) → All IsPlannedTree trees → AreSound trees → All (RunsLike whole) trees → whole.tests ≡ tests_of_trees 0 trees → AreTreeParts whole 0 trees
  whole_parts trees planned sound alike is = parts_behind [] 0 trees planned sound alike refl is

  -- the links of each test are sound among the tests of all trees
  links_in_tree : (o c : ℕ) (part : PlanParts) → IsPartOfPlan whole o c part → (ts : List PlanTest) → list_all (has_sound_links part.tests) ts ≡ true → list_all (has_sound_links whole.tests) (map (renumbered o) ts) ≡ true
  links_in_tree o c part is [] all = refl
  links_in_tree o c part is (t ∷ ts) all =
      let both = and_parts (has_sound_links part.tests t) (list_all (has_sound_links part.tests) ts) all in
      let two = and_parts (list_all (λ j. is_before_rank t.rank (test_at part.tests j)) t.before) (list_all (λ s. list_any (λ j. j == s) t.before) t.setups) both.0 in
      and_from (has_sound_links whole.tests (renumbered o t)) (list_all (has_sound_links whole.tests) (map (renumbered o) ts))
      (and_from (list_all (λ j. is_before_rank t.rank (test_at whole.tests j)) (map (λ n. n + o) t.before)) (list_all (λ s. list_any (λ j. j == s) (map (λ n. n + o) t.before)) (map (λ n. n + o) t.setups))
      (ranks t.rank t.before two.0) (among t.before t.setups two.1))
      (links_in_tree o c part is ts both.1)
    where
      alike : (rank : ℕ) (u : Option PlanTest) → is_before_rank rank (option_map (renumbered o) u) ≡ is_before_rank rank u
      alike rank None = refl
      alike rank (Some u) = refl

      found : (rank j : ℕ) (u : Option PlanTest) → u ≡ test_at part.tests j → is_before_rank rank u ≡ true → is_in_tree o c (j + o) ≡ true
      found rank j None at below = cc
      found rank j (Some u) at below = found_in whole o c part is j u (sym at)

      ranks : (rank : ℕ) (js : List ℕ) → list_all (λ j. is_before_rank rank (test_at part.tests j)) js ≡ true → list_all (λ j. is_before_rank rank (test_at whole.tests j)) (map (λ n. n + o) js) ≡ true
      ranks rank [] all = refl
      ranks rank (j ∷ js) all =
          let both = and_parts (is_before_rank rank (test_at part.tests j)) (list_all (λ j. is_before_rank rank (test_at part.tests j)) js) all in
          and_from (is_before_rank rank (test_at whole.tests (j + o))) (list_all (λ j. is_before_rank rank (test_at whole.tests j)) (map (λ n. n + o) js))
          (ap (λ (u : Option PlanTest). is_before_rank rank u) (test_at-part whole o c part is j (found rank j (test_at part.tests j) refl both.0)) ∙ alike rank (test_at part.tests j) ∙ both.0)
          (ranks rank js both.1)

      raised : (j s : ℕ) → (j == s) ≡ (j + o == s + o)
      raised j s = grind (arith, nat_tests)

      any_raised : (s : ℕ) (js : List ℕ) → list_any (λ j. j == s) js ≡ list_any (λ j. j == s + o) (map (λ n. n + o) js)
      any_raised s [] = refl
      any_raised s (j ∷ js) = ap (λ (b : Bool). b || list_any (λ j. j == s) js) (raised j s) ∙ ap (λ (b : Bool). (j + o == s + o) || b) (any_raised s js)

      among : (js ss : List ℕ) → list_all (λ s. list_any (λ j. j == s) js) ss ≡ true → list_all (λ s. list_any (λ j. j == s) (map (λ n. n + o) js)) (map (λ n. n + o) ss) ≡ true
      among js [] all = refl
      among js (s ∷ ss) all =
          let both = and_parts (list_any (λ j. j == s) js) (list_all (λ s. list_any (λ j. j == s) js) ss) all in
          and_from (list_any (λ j. j == s + o) (map (λ n. n + o) js)) (list_all (λ s. list_any (λ j. j == s) (map (λ n. n + o) js)) (map (λ n. n + o) ss))
          (sym (any_raised s js) ∙ both.0) (among js ss both.1)

  links_in_all : (o : ℕ) (trees : List Tree) → AreSound trees → AreTreeParts whole o trees → list_all (has_sound_links whole.tests) (tests_of_trees o trees) ≡ true
  links_in_all o [] sound parts = refl
  links_in_all o (tree ∷ trees) sound parts =
      list_all-append (has_sound_links whole.tests) (map (renumbered o) tree.plan.tests) (tests_of_trees (o + length tree.defs) trees)
      ∙ and_from _ _
      (links_in_tree o (length tree.defs) tree.plan parts.0 tree.plan.tests (All-head (λ (x : Tree). IsSound x.plan) tree trees sound).links)
      (links_in_all (o + length tree.defs) trees (All-tail (λ (x : Tree). IsSound x.plan) tree trees sound) parts.1)

-- what follows for each tree from two facts about it
each_tree : {P Q R : Tree → Type 0} → ((tree : Tree) → P tree → Q tree → R tree) → (trees : List Tree) → All P trees → All Q trees → All R trees
each_tree step trees ps qs = λ k d lt. step (get_or trees k d) (ps k d lt) (qs k d lt)

module _ (whole : PlanParts) (trees : List Tree) (planned : All IsPlannedTree trees) (sound : AreSound trees) (alike : All (RunsLike whole) trees) (is : whole.tests ≡ tests_of_trees 0 trees) where
  placeable_all : (given : Option (List Resource)) → All (λ (tree : Tree). IfSome given (λ (rs : List Resource). All (IsPlaceable rs) tree.plan.tests)) trees → IfSome given (λ (rs : List Resource). All (IsPlaceable rs) (tests_of_trees 0 trees))
  placeable_all None all = tt
  placeable_all (Some rs) all = holds_in_all (IsPlaceable rs) (λ o t fits. fits) 0 trees all

  -- the whole plan is sound
  pub whole_sound : (first : Tree) → IsSound first.plan → RunsLike whole first → (standing : ℕ → Option Standing) → IsQueue whole.level standing whole.tests whole.queue → IsSound whole
  whole_sound first first_sound first_alike standing queued = record {
    numbers = subst (λ (ts : List PlanTest). IsAscendingFrom 1 (numbers_of ts)) (sym is) (whole_ascends trees planned sound);
    before = subst (λ (ts : List PlanTest). AllAscend (λ (t : PlanTest). t.before) ts) (sym is)
        (links_ascend (λ (t : PlanTest). t.before) (λ o t. refl) 0 trees (λ k d lt. (sound k d lt).before));
    setups = subst (λ (ts : List PlanTest). AllAscend (λ (t : PlanTest). t.setups) ts) (sym is)
        (links_ascend (λ (t : PlanTest). t.setups) (λ o t. refl) 0 trees (λ k d lt. (sound k d lt).setups));
    links = subst (λ (ts : List PlanTest). list_all (has_sound_links whole.tests) ts ≡ true) (sym is)
        (links_in_all whole 0 trees sound (whole_parts whole trees planned sound alike is));
    processors = subst (λ (ts : List PlanTest). list_all (has_sound_processors whole.level) ts ≡ true) (sym is)
        (passed_by_all (has_sound_processors whole.level) (λ o t. refl) 0 trees (λ k d lt. subst (λ (level : ℕ). list_all (has_sound_processors level) (get_or trees k d).plan.tests ≡ true) (alike k d lt).level (sound k d lt).processors));
    fixed = subst (λ (ts : List PlanTest). list_all (λ (t : PlanTest). is_fixed_cause whole.resources t.fixed) ts ≡ true) (sym is)
        (passed_by_all (λ (t : PlanTest). is_fixed_cause whole.resources t.fixed) (λ o t. refl) 0 trees (λ k d lt. subst (λ (rs : Option (List Resource)). list_all (λ (t : PlanTest). is_fixed_cause rs t.fixed) (get_or trees k d).plan.tests ≡ true) (alike k d lt).resources (sound k d lt).fixed));
    queue = queued.all;
    times = subst (λ (r : Repeat). 1 ≤ r.times) first_alike.repeat first_sound.times;
    distinct = subst (λ (rs : Option (List Resource)). IfSome rs AreDistinct) first_alike.resources first_sound.distinct;
    placeable = subst (λ (ts : List PlanTest). IfSome whole.resources (λ (rs : List Resource). All (IsPlaceable rs) ts)) (sym is)
        (placeable_all whole.resources (λ k d lt. subst (λ (given : Option (List Resource)). IfSome given (λ (rs : List Resource). All (IsPlaceable rs) (get_or trees k d).plan.tests)) (alike k d lt).resources (sound k d lt).placeable));
  }

up_of_tests : (most : ℕ) (ts : List PlanTest) → AreOfTests most (numbers_of ts) → AreUpTo most ts
up_of_tests most [] within = refl
up_of_tests most (t ∷ ts) within =
    let P : ℕ → Type 0 = λ number. (0 < number) × (number ≤ most) in
    and_from (nat_le t.number most) (list_all (λ (u : PlanTest). nat_le u.number most) ts) (le-leb _ _ (All-head P t.number (numbers_of ts) within).1)
    (up_of_tests most ts (All-tail P t.number (numbers_of ts) within))

-- the numbers that a test of a tree names can be raised
pub stays_numbered : (o : ℕ) (tree : Tree) → IsPlannedTree tree → IsSound tree.plan → length tree.defs + o < 2 ^ 32 → All (StaysNumbered o) tree.plan.tests
stays_numbered o tree planned sound few = λ k d lt.
    let t = get_or tree.plan.tests k d in
    let up = up_of_tests (length tree.defs) tree.plan.tests planned.within in
    let links = all_at (has_sound_links tree.plan.tests) tree.plan.tests k d sound.links lt in
    let both = and_parts (list_all (λ j. is_before_rank t.rank (test_at tree.plan.tests j)) t.before) (list_all (λ s. list_any (λ j. j == s) t.before) t.setups) links in
    let low = leb-true t.number (length tree.defs) (all_at (λ (u : PlanTest). nat_le u.number (length tree.defs)) tree.plan.tests k d up lt) in
    record {
      number = omega (arith, low, few);
      before = λ i e short. (let here = low_rank up t.rank (get_or t.before i e) (test_at tree.plan.tests (get_or t.before i e)) refl (all_at (λ j. is_before_rank t.rank (test_at tree.plan.tests j)) t.before i e both.0 short) in omega (arith, here, few));
      setups = λ i e short. (
          let s = get_or t.setups i e in
          let among = all_at (λ x. list_any (λ j. j == x) t.before) t.setups i e both.1 short in
          let at = among_all s (λ j. is_before_rank t.rank (test_at tree.plan.tests j)) t.before among both.0 in
          let here = low_rank up t.rank s (test_at tree.plan.tests s) refl at in
          omega (arith, here, few));
    }
  where
    low_rank : AreUpTo (length tree.defs) tree.plan.tests → (rank j : ℕ) (u : Option PlanTest) → u ≡ test_at tree.plan.tests j → is_before_rank rank u ≡ true → j ≤ length tree.defs
    low_rank up rank j None at below = cc
    low_rank up rank j (Some u) at below =
        let passes = find_passes (λ (t : PlanTest). t.number == j) tree.plan.tests u (sym at) in
        let most = leb-true u.number (length tree.defs) (all_found (λ (t : PlanTest). nat_le t.number (length tree.defs)) (λ (t : PlanTest). t.number == j) tree.plan.tests u up (sym at)) in
        let same : u.number ≡ j = grind (arith, nat_tests) in
        omega (arith, most, same)

-- the trees from this one on, whatever each of them is
pub trees_from : {A : Type 0} (trees : List A) (i : ℕ) (tree : A) → i < length trees → tree ≡ get_or trees i tree → drop i trees ≡ tree ∷ drop (i + 1) trees
trees_from {A = A} trees i tree lt is = drop_more trees i tree lt ∙ ap (λ (x : A). x ∷ drop (i + 1) trees) (sym is)

-- the tests that the trees in front define are, with those of this tree, no more than all
pub defined_here : (trees : List Tree) (i o : ℕ) (tree : Tree) → i < length trees → tree ≡ get_or trees i tree → o + defined_in (drop i trees) ≡ defined_in trees → o + length tree.defs + defined_in (drop (i + 1) trees) ≡ defined_in trees
defined_here trees i o tree lt is counted =
    let here : defined_in (drop i trees) ≡ length tree.defs + defined_in (drop (i + 1) trees) = ap defined_in (trees_from trees i tree lt is) in
    omega (arith, counted, here)

pub planned_here : (trees : List Tree) (i : ℕ) (tree : Tree) → All IsPlannedTree trees → i < length trees → tree ≡ get_or trees i tree → IsPlannedTree tree
planned_here trees i tree planned lt is = subst IsPlannedTree (sym is) (planned i tree lt)

pub sound_here : (trees : List Tree) (i : ℕ) (tree : Tree) → AreSound trees → i < length trees → tree ≡ get_or trees i tree → IsSound tree.plan
sound_here trees i tree sound lt is = subst (λ (x : Tree). IsSound x.plan) (sym is) (sound i tree lt)

-- one tree more with a sound plan
pub sound_more : (trees : List Tree) (i : ℕ) (tree : Tree) → i < length trees → tree ≡ get_or trees i tree → AreSound (take i trees) → IsSound tree.plan → AreSound (take (i + 1) trees)
sound_more trees i tree lt is sound one =
    let both = All-append (λ (x : Tree). IsSound x.plan) (take i trees) (tree ∷ []) sound (All-cons (λ (x : Tree). IsSound x.plan) tree [] one (All-nil (λ (x : Tree). IsSound x.plan))) in
    subst AreSound (sym (take_more trees i tree lt ∙ ap (λ (x : Tree). take i trees ++ x ∷ []) (sym is))) both

-- all trees run like a plan that runs like the first tree
pub alike_whole : (trees : List Tree) (first : Tree) (whole : PlanParts) → RunAlike trees → first ≡ get_or trees 0 first → RunsLike whole first → All (RunsLike whole) trees
alike_whole [] first whole alike is like = absurd alike
alike_whole (tree ∷ trees) first whole alike is like = λ k d lt.
    let here = subst (λ (x : Tree). RunsLike x.plan (get_or (tree ∷ trees) k d)) (sym is) (alike k d lt) in
    record {
      resources = here.resources ∙ like.resources;
      level = here.level ∙ like.level;
      repeat = here.repeat ∙ like.repeat;
      stop = here.stop ∙ like.stop;
    }
