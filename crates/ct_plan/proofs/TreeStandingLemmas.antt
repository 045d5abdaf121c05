-- The standings that each tree tells of are those of the tests of all trees.
use Rattle.std.proofs.Common.{◌≡◌, ◌∙◌, sym, ap, subst, Bool, true, false, not, ℕ, ◌+◌, ◌-◌, ◌<◌, ◌≤◌, All, List, [], ◌∷◌, ◌++◌, length, map, Option, Some, None, refl, arith, nat_le}
use Rattle.std.specs.Prelude.{cond, if◌then◌else◌}
use Rattle.std.proofs.lemmas.Bool.{le-leb}
use Rattle.std.proofs.lemmas.Bool.Decides.{nat_tests}
use Rattle.std.proofs.lemmas.List.{map-append}
use Rattle.std.proofs.lemmas.List.Elements.{All-append, All-cons, All-head, All-nil, All-tail, filter-append}
use Rattle.ct_base.specs.Names.{is_among}
use Rattle.ct_props.specs.Numbered.{at_number}
use Rattle.ct_props.proofs.NumberedLemmas.{at_number_within}
use Rattle.ct_history.specs.declared.plan.PlanTest.{PlanTest}
use Rattle.ct_history.specs.Parts.{renumbered}
use Rattle.ct_history.specs.Plan.{IsAscendingFrom, IsSound, enabled}
use Rattle.ct_history.proofs.PlanLemmas.{numbers_of}
use Rattle.ct_plan.specs.declared.standing.Standing.{Standing}
use Rattle.ct_plan.specs.declared.whole.Tree.{Tree}
use Rattle.ct_plan.specs.Queue.{cost_in, standing_there}
use Rattle.ct_plan.specs.Whole.{IsPlannedTree, standing_behind, standing_in_trees, tests_of_trees}
use Rattle.ct_plan.proofs.NumberLemmas.{AreOfTests, enabled_ascend, enabled_of_tests}
use Rattle.ct_plan.proofs.UrgencyLemmas.{IsKnown, IsOwn, standing_number}
use Rattle.ct_plan.proofs.WholeLemmas.{AreSound, numbers_ascend}

-- what each tree tells of its tests that are not disabled, one tree behind the other
abbrev pub told_standings : ℕ → List Tree → List (Option Standing)
told_standings o [] = []
told_standings o (tree ∷ trees) =
    map (standing_behind o tree.defs tree.props tree.costs) (numbers_of (enabled tree.plan.tests)) ++ told_standings (o + length tree.defs) trees

-- each standing has the number that was asked for
pub own_in_trees : (o : ℕ) (trees : List Tree) → IsOwn (standing_in_trees o trees)
own_in_trees o [] number x is = let no : Some x ≡ None = is in cc
own_in_trees o (tree ∷ trees) number x is = by_here (nat_le number (o + length tree.defs)) (own_in_trees (o + length tree.defs) trees number x) is
  where
    by_here : (b : Bool) → (Some x ≡ standing_in_trees (o + length tree.defs) trees number → x.number ≡ number) → Some x ≡ (if b then standing_there tree.costs number (at_number tree.defs (number - o)) (at_number tree.props (number - o)) else standing_in_trees (o + length tree.defs) trees number) → x.number ≡ number
    by_here true later has = standing_number tree.costs number (at_number tree.defs (number - o)) (at_number tree.props (number - o)) x has
    by_here false later has = later has

enabled_raised : (o : ℕ) (ts : List PlanTest) → numbers_of (enabled (map (renumbered o) ts)) ≡ map (λ n. n + o) (numbers_of (enabled ts))
enabled_raised o [] = refl
enabled_raised o (t ∷ ts) = by_enabled (not t.disabled) (enabled_raised o ts)
  where
    by_enabled : (b : Bool) → numbers_of (enabled (map (renumbered o) ts)) ≡ map (λ n. n + o) (numbers_of (enabled ts)) → numbers_of (cond b (renumbered o t ∷ enabled (map (renumbered o) ts)) (enabled (map (renumbered o) ts))) ≡ map (λ n. n + o) (numbers_of (cond b (t ∷ enabled ts) (enabled ts)))
    by_enabled true later = ap (λ (ns : List ℕ). (t.number + o) ∷ ns) later
    by_enabled false later = later

enabled_numbers_joined : (o : ℕ) (ts later : List PlanTest) → numbers_of (enabled (map (renumbered o) ts ++ later)) ≡ map (λ n. n + o) (numbers_of (enabled ts)) ++ numbers_of (enabled later)
enabled_numbers_joined o ts later =
    ap numbers_of (filter-append (λ (t : PlanTest). not t.disabled) (map (renumbered o) ts) later)
    ∙ map-append (λ (t : PlanTest). t.number) (enabled (map (renumbered o) ts)) (enabled later)
    ∙ ap (λ (ns : List ℕ). ns ++ numbers_of (enabled later)) (enabled_raised o ts)

module _ (o : ℕ) (tree : Tree) (trees : List Tree) where
  -- a test of the first tree
  here_is : (n : ℕ) → n ≤ length tree.defs → standing_in_trees o (tree ∷ trees) (n + o) ≡ standing_behind o tree.defs tree.props tree.costs n
  here_is n low =
      let back : n + o - o ≡ n = omega arith in
      ap (λ (b : Bool). if b then standing_there tree.costs (n + o) (at_number tree.defs (n + o - o)) (at_number tree.props (n + o - o)) else standing_in_trees (o + length tree.defs) trees (n + o)) (le-leb (n + o) (o + length tree.defs) (omega (arith, low)))
      ∙ ap (λ (m : ℕ). standing_there tree.costs (n + o) (at_number tree.defs m) (at_number tree.props m)) back

  -- a test of a later tree
  later_is : (n : ℕ) → o + length tree.defs < n → standing_in_trees o (tree ∷ trees) n ≡ standing_in_trees (o + length tree.defs) trees n
  later_is n above =
      let out : nat_le n (o + length tree.defs) ≡ false = grind (arith, nat_tests) in
      ap (λ (b : Bool). if b then standing_there tree.costs n (at_number tree.defs (n - o)) (at_number tree.props (n - o)) else standing_in_trees (o + length tree.defs) trees n) out

  all_here : (ns : List ℕ) → AreOfTests (length tree.defs) ns → map (standing_in_trees o (tree ∷ trees)) (map (λ n. n + o) ns) ≡ map (standing_behind o tree.defs tree.props tree.costs) ns
  all_here [] within = refl
  all_here (n ∷ ns) within =
      let P : ℕ → Type 0 = λ number. (0 < number) × (number ≤ length tree.defs) in
      ap (λ (s : Option Standing). s ∷ map (standing_in_trees o (tree ∷ trees)) (map (λ m. m + o) ns)) (here_is n (All-head P n ns within).1)
      ∙ ap (λ (ss : List (Option Standing)). standing_behind o tree.defs tree.props tree.costs n ∷ ss) (all_here ns (All-tail P n ns within))

  all_later : (least : ℕ) (ns : List ℕ) → o + length tree.defs < least → IsAscendingFrom least ns → map (standing_in_trees o (tree ∷ trees)) ns ≡ map (standing_in_trees (o + length tree.defs) trees) ns
  all_later least [] above ascends = refl
  all_later least (n ∷ ns) above ascends =
      ap (λ (s : Option Standing). s ∷ map (standing_in_trees o (tree ∷ trees)) ns) (later_is n (omega (arith, above, ascends.0)))
      ∙ ap (λ (ss : List (Option Standing)). standing_in_trees (o + length tree.defs) trees n ∷ ss) (all_later (n + 1) ns (omega (arith, above, ascends.0)) ascends.1)

  known_here : length tree.props ≡ length tree.defs → (ns : List ℕ) → AreOfTests (length tree.defs) ns → All (IsKnown (standing_in_trees o (tree ∷ trees))) (map (λ n. n + o) ns)
  known_here paired [] within = All-nil (IsKnown (standing_in_trees o (tree ∷ trees)))
  known_here paired (n ∷ ns) within =
      let P : ℕ → Type 0 = λ number. (0 < number) × (number ≤ length tree.defs) in
      let bounds = All-head P n ns within in
      let def = at_number_within tree.defs n bounds.0 bounds.1 in
      let own = at_number_within tree.props n bounds.0 (omega (arith, paired, bounds.1)) in
      All-cons (IsKnown (standing_in_trees o (tree ∷ trees))) (n + o) (map (λ m. m + o) ns) (
        record { failed = is_among def.0.name tree.costs.failed; cost = cost_in tree.costs def.0 own.0; number = n + o },
        here_is n bounds.1
            ∙ ap (λ d. standing_there tree.costs (n + o) d (at_number tree.props n)) def.1
            ∙ ap (standing_there tree.costs (n + o) (Some def.0)) own.1,
      )
      (known_here paired ns (All-tail P n ns within))

  known_later : (least : ℕ) (ns : List ℕ) → o + length tree.defs < least → IsAscendingFrom least ns → All (IsKnown (standing_in_trees (o + length tree.defs) trees)) ns → All (IsKnown (standing_in_trees o (tree ∷ trees))) ns
  known_later least [] above ascends known = All-nil (IsKnown (standing_in_trees o (tree ∷ trees)))
  known_later least (n ∷ ns) above ascends known =
      let first = All-head (IsKnown (standing_in_trees (o + length tree.defs) trees)) n ns known in
      All-cons (IsKnown (standing_in_trees o (tree ∷ trees))) n ns (first.0, later_is n (omega (arith, above, ascends.0)) ∙ first.1)
      (known_later (n + 1) ns (omega (arith, above, ascends.0)) ascends.1 (All-tail (IsKnown (standing_in_trees (o + length tree.defs) trees)) n ns known))

-- what the trees tell is how the tests of all trees stand
pub told_is : (o : ℕ) (trees : List Tree) → All IsPlannedTree trees → AreSound trees → told_standings o trees ≡ map (standing_in_trees o trees) (numbers_of (enabled (tests_of_trees o trees)))
told_is o [] planned sound = refl
told_is o (tree ∷ trees) planned sound =
    let here = All-head IsPlannedTree tree trees planned in
    let rest = All-tail IsPlannedTree tree trees planned in
    let sounds = All-tail (λ (x : Tree). IsSound x.plan) tree trees sound in
    let own = numbers_of (enabled tree.plan.tests) in
    let next = o + length tree.defs in
    let later = tests_of_trees next trees in
    let up = enabled_ascend (next + 1) later (numbers_ascend next trees rest sounds) in
    ap (λ (ss : List (Option Standing)). map (standing_behind o tree.defs tree.props tree.costs) own ++ ss) (told_is next trees rest sounds ∙ sym (all_later o tree trees (next + 1) (numbers_of (enabled later)) (omega arith) up))
    ∙ ap (λ (ss : List (Option Standing)). ss ++ map (standing_in_trees o (tree ∷ trees)) (numbers_of (enabled later))) (sym (all_here o tree trees own (enabled_of_tests (length tree.defs) tree.plan.tests here.within)))
    ∙ sym (map-append (standing_in_trees o (tree ∷ trees)) (map (λ n. n + o) own) (numbers_of (enabled later)))
    ∙ ap (map (standing_in_trees o (tree ∷ trees))) (sym (enabled_numbers_joined o tree.plan.tests later))

-- it is known how each test of all trees stands
pub known_in_trees : (o : ℕ) (trees : List Tree) → All IsPlannedTree trees → AreSound trees → All (IsKnown (standing_in_trees o trees)) (numbers_of (enabled (tests_of_trees o trees)))
known_in_trees o [] planned sound = All-nil (IsKnown (standing_in_trees o []))
known_in_trees o (tree ∷ trees) planned sound =
    let here = All-head IsPlannedTree tree trees planned in
    let rest = All-tail IsPlannedTree tree trees planned in
    let sounds = All-tail (λ (x : Tree). IsSound x.plan) tree trees sound in
    let own = numbers_of (enabled tree.plan.tests) in
    let next = o + length tree.defs in
    let later = tests_of_trees next trees in
    let up = enabled_ascend (next + 1) later (numbers_ascend next trees rest sounds) in
    subst (All (IsKnown (standing_in_trees o (tree ∷ trees)))) (sym (enabled_numbers_joined o tree.plan.tests later))
    (All-append (IsKnown (standing_in_trees o (tree ∷ trees))) (map (λ n. n + o) own) (numbers_of (enabled later))
    (known_here o tree trees here.paired own (enabled_of_tests (length tree.defs) tree.plan.tests here.within))
    (known_later o tree trees (next + 1) (numbers_of (enabled later)) (omega arith) up (known_in_trees next trees rest sounds)))
