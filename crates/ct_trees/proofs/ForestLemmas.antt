-- Trees that were read and planned one behind the other, from what was read for each.
use Rattle.std.proofs.Common.{◌≡◌, ◌∙◌, sym, ap, subst, refl, ℕ, suc, ◌+◌, ◌≤◌, List, [], ◌∷◌, ◌++◌, length, map, take, drop, get_or, ◌<◌, inl, inr, arith}
use Rattle.std.specs.Prelude.{⊤, Option, Some, None, Ok, Err, slice_get}
use Rattle.std.proofs.lemmas.List.{drop_more, length-append, length-map, map-id, take-append-drop}
use Rattle.ct_base.specs.declared.defs.Resource.{Resource}
use Rattle.ct_base.specs.declared.defs.TestDef.{TestDef}
use Rattle.ct_base.specs.Outside.{Becomes, FilesTell, Held, SameHeld}
use Rattle.ct_testfile.specs.declared.fault.ReadFault.TheVariants as Read
use Rattle.ct_testfile.specs.Asks.{TreeAsks}
use Rattle.ct_testfile.specs.Tree.{tree_of}
use Rattle.ct_props.specs.declared.props.Props.{Props}
use Rattle.ct_cost.specs.declared.cost_data.CostData.{CostData}
use Rattle.ct_history.specs.declared.plan.PlanParts.{PlanParts}
use Rattle.ct_args.specs.declared.invocation.Invocation.{Invocation}
use Rattle.ct_plan.specs.Whole.{defined_in}
use Rattle.ct_app.specs.declared.outcome.Outcome.{Outcome}
use Rattle.ct_app.specs.declared.outcome.Outcome.TheVariants.{Completed, Listed, Usage, Refused, FilesFault, OutputFault, Memory}
use Rattle.ct_app.specs.declared.outcome.Refusal.{Refusal}
use Rattle.ct_app.specs.declared.outcome.Refusal.TheVariants.{TestFile, Prop, Spec, Cycle, TooManyEdges}
use Rattle.ct_app.specs.declared.spec_file.SpecFileFault.{SpecFileFault}
use Rattle.ct_app.specs.declared.spec_file.SpecFileFault.TheVariants as Named
use Rattle.ct_app.specs.Outcome.{outcome_of_spec}
use Rattle.ct_app.specs.RunFiles.{FilesStay, last_costs}
use Rattle.ct_app.specs.SpecFile.{ReadsSpec}
use Rattle.ct_app.specs.Reading.{AreRead, RefusesReading}
use Rattle.ct_app.proofs.ChangeLemmas.{stays}
use Rattle.ct_plan.specs.declared.whole.Tree.{Tree}
use Rattle.ct_trees.specs.Planning.{AddsTree, HasNoTree, HasTree, LackPlans, LackTree}
use Rattle.ct_trees.specs.Trees.{AreFirstTrees, AreTrees, HaveTrees, IsOverfull, IsReadTree, IsTreeIn, IsUnplannedTree, RefusesTree, StopsAtTree, TreeFailsAt, invocation_for, most_tree_tests, plans_of}
use Rattle.ct_app.proofs.ReadLemmas.{then_stay}
use Rattle.ct_trees.proofs.TreeLemmas.{same_told, then_fail}

-- one more tree behind others
trees_snoc : (told : Option Held) (invocation : Invocation) (lent : Option (List Resource)) (dirs : List (List ℕ)) (trees : List Tree) (dir : List ℕ) (tree : Tree) → AreTrees told invocation lent dirs trees → IsTreeIn told invocation lent dir tree → AreTrees told invocation lent (dirs ++ dir ∷ []) (trees ++ tree ∷ [])
trees_snoc told invocation lent [] [] dir tree are is = (is, tt)
trees_snoc told invocation lent [] (t ∷ ts) dir tree are is = absurd are
trees_snoc told invocation lent (d ∷ ds) [] dir tree are is = absurd are
trees_snoc told invocation lent (d ∷ ds) (t ∷ ts) dir tree are is = (are.0, trees_snoc told invocation lent ds ts dir tree are.1 is)

sum_snoc : (trees : List Tree) (tree : Tree) → defined_in (trees ++ tree ∷ []) ≡ defined_in trees + length tree.defs
sum_snoc [] tree = omega arith
sum_snoc (t ∷ ts) tree =
    let behind : defined_in (ts ++ tree ∷ []) ≡ defined_in ts + length tree.defs = sum_snoc ts tree in
    omega (arith, behind)

pub trees-length : (told : Option Held) (invocation : Invocation) (lent : Option (List Resource)) (dirs : List (List ℕ)) (trees : List Tree) → AreTrees told invocation lent dirs trees → length trees ≡ length dirs
trees-length told invocation lent [] [] are = refl
trees-length told invocation lent [] (t ∷ ts) are = absurd are
trees-length told invocation lent (d ∷ ds) [] are = absurd are
trees-length told invocation lent (d ∷ ds) (t ∷ ts) are = ap suc (trees-length told invocation lent ds ts are.1)

get_behind : (before behind : List (List ℕ)) (dir : List ℕ) → slice_get (before ++ dir ∷ behind) (length before) ≡ Some dir
get_behind [] behind dir = refl
get_behind (d ∷ ds) behind dir = get_behind ds behind dir

-- a loop over folders is at one of them, behind those that it has yielded
pub split_at_turn : (dirs yielded : List (List ℕ)) (dir : List ℕ) → map (λ x. x) yielded ≡ take (length yielded) dirs → (length yielded < length dirs) × (dir ≡ get_or dirs (length yielded) dir) → dirs ≡ yielded ++ dir ∷ drop (length yielded + 1) dirs
split_at_turn dirs yielded dir so_far turn =
    sym (take-append-drop (length yielded) dirs)
    ∙ ap (λ (l : List (List ℕ)). l ++ drop (length yielded) dirs) (sym so_far ∙ map-id yielded)
    ∙ ap (λ (l : List (List ℕ)). yielded ++ l) (drop_more dirs (length yielded) dir turn.0 ∙ ap (λ (d : List ℕ). d ∷ drop (length yielded + 1) dirs) (sym turn.1))

-- the trees in these folders are held, and the files stayed; `own` is the invocation for the next tree
pub record AreSoFar
    (invocation own : Invocation) (lent : Option (List Resource)) (before now : FilesTell)
    (dirs : List (List ℕ)) (count : ℕ) (trees : List Tree) : Type 0 where
  pub are : AreTrees before.held invocation lent dirs trees
  pub counted : count ≡ defined_in trees
  pub few : count ≤ most_tree_tests
  pub stay : FilesStay before now
  pub same : (dir : List ℕ) → invocation_for own dir ≡ invocation_for invocation dir

-- no tree was read
pub none_so_far : (invocation : Invocation) (lent : Option (List Resource)) (files : FilesTell) (trees : List Tree) → trees ≡ [] → AreSoFar invocation invocation lent files files [] 0 trees
none_so_far invocation lent files trees none =
    subst (λ (ts : List Tree). AreSoFar invocation invocation lent files files [] 0 ts) (sym none)
    (record { are = tt; counted = refl; few = omega arith; stay = stays files; same = λ dir. refl })

-- the tests that are read are those that were read before, if the files stayed
same_read : (invocation : Invocation) (defs : List TestDef) (props : List Props) (before between : Option Held) → Becomes before between SameHeld → AreRead between invocation defs props → AreRead before invocation defs props
same_read invocation defs props before between same read = record {
  tree = same_told (λ (held : Held). tree_of held invocation.wanted.dir invocation.config ≡ Ok defs) before between same read.tree;
  have = read.have;
}

same_costs : (invocation : Invocation) (dir : List ℕ) (defs : List TestDef) (props : List Props) (costs : CostData) (before between : Option Held) → Becomes before between SameHeld → IsReadTree between invocation dir defs props costs → IsReadTree before invocation dir defs props costs
same_costs invocation dir defs props costs before between same read = record {
  tests = same_read (invocation_for invocation dir) defs props before between same read.tests;
  last = same_told (λ (held : Held). costs ≡ last_costs dir held) before between same read.last;
}

same_tree : (invocation : Invocation) (lent : Option (List Resource)) (dir : List ℕ) (tree : Tree) (before between : Option Held) → Becomes before between SameHeld → IsTreeIn between invocation lent dir tree → IsTreeIn before invocation lent dir tree
same_tree invocation lent dir tree before between same is = record { read = same_costs invocation dir tree.defs tree.props tree.costs before between same is.read; few = is.few; planned = is.planned; sound = is.sound }

same_refusal : (invocation : Invocation) (refusal : Refusal) (before between : Option Held) → Becomes before between SameHeld → RefusesReading between invocation refusal → RefusesReading before invocation refusal
same_refusal invocation (TestFile file line kind) before between same refused =
    same_told (λ (held : Held). tree_of held invocation.wanted.dir invocation.config ≡ Err (Read.At file line kind)) before between same refused
same_refusal invocation (Prop test key kind) before between same refused =
    (refused.0, same_told (λ (held : Held). tree_of held invocation.wanted.dir invocation.config ≡ Ok refused.0) before between same refused.1, refused.2)
same_refusal invocation (Spec why) before between same refused = absurd refused
same_refusal invocation (Cycle tests) before between same refused = absurd refused
same_refusal invocation TooManyEdges before between same refused = absurd refused

same_overfull : (invocation : Invocation) (count : ℕ) (dir : List ℕ) (refusal : Refusal) (before between : Option Held) → Becomes before between SameHeld → IsOverfull between invocation count dir refusal → IsOverfull before invocation count dir refusal
same_overfull invocation count dir refusal before between same over = record {
  defs = over.defs;
  props = over.props;
  read = same_read (invocation_for invocation dir) over.defs over.props before between same over.read;
  over = over.over;
  refused = over.refused;
}

same_unplanned : (invocation : Invocation) (lent : Option (List Resource)) (count : ℕ) (dir : List ℕ) (refusal : Refusal) (names : List (List ℕ)) (before between : Option Held) → Becomes before between SameHeld → IsUnplannedTree between invocation lent count dir refusal names → IsUnplannedTree before invocation lent count dir refusal names
same_unplanned invocation lent count dir refusal names before between same bad = record {
  defs = bad.defs;
  props = bad.props;
  costs = bad.costs;
  read = same_costs invocation dir bad.defs bad.props bad.costs before between same bad.read;
  few = bad.few;
  refused = bad.refused;
}

same_refuses : (invocation : Invocation) (lent : Option (List Resource)) (count : ℕ) (dir : List ℕ) (refusal : Refusal) (names : List (List ℕ)) (before between : Option Held) → Becomes before between SameHeld → RefusesTree between invocation lent count dir refusal names → RefusesTree before invocation lent count dir refusal names
same_refuses invocation lent count dir refusal names before between same (inl (inl refused)) = inl (inl (same_refusal (invocation_for invocation dir) refusal before between same refused))
same_refuses invocation lent count dir refusal names before between same (inl (inr over)) = inl (inr (same_overfull invocation count dir refusal before between same over))
same_refuses invocation lent count dir refusal names before between same (inr bad) = inr (same_unplanned invocation lent count dir refusal names before between same bad)

same_fault : (invocation : Invocation) (count : ℕ) (dir path : List ℕ) (before between : Option Held) → Becomes before between SameHeld → TreeFailsAt between invocation count dir path → TreeFailsAt before invocation count dir path
same_fault invocation count dir path before between same (inl asks) = inl (same_told (λ (held : Held). TreeAsks held dir invocation.config path) before between same asks)
same_fault invocation count dir path before between same (inr behind) =
    let are = behind.0 in
    inr ((are.0, are.1, same_read (invocation_for invocation dir) are.0 are.1 before between same are.2, are.3), behind.1)

-- what is said of a tree by its own invocation is said of it by the invocation of all trees
module _ (told : Option Held) (invocation : Invocation) (dir : List ℕ) where
  own_read : (defs : List TestDef) (props : List Props) (costs : CostData) → IsReadTree told (invocation_for invocation dir) dir defs props costs → IsReadTree told invocation dir defs props costs
  own_read defs props costs read = record { tests = read.tests; last = read.last }

  own_tree : (lent : Option (List Resource)) (tree : Tree) → IsTreeIn told (invocation_for invocation dir) lent dir tree → IsTreeIn told invocation lent dir tree
  own_tree lent tree is = record { read = own_read tree.defs tree.props tree.costs is.read; few = is.few; planned = is.planned; sound = is.sound }

  own_refuses : (lent : Option (List Resource)) (count : ℕ) (refusal : Refusal) (names : List (List ℕ)) → RefusesTree told (invocation_for invocation dir) lent count dir refusal names → RefusesTree told invocation lent count dir refusal names
  own_refuses lent count refusal names (inl (inl refused)) = inl (inl refused)
  own_refuses lent count refusal names (inl (inr over)) = inl (inr (record { defs = over.defs; props = over.props; read = over.read; over = over.over; refused = over.refused }))
  own_refuses lent count refusal names (inr bad) = inr (record { defs = bad.defs; props = bad.props; costs = bad.costs; read = own_read bad.defs bad.props bad.costs bad.read; few = bad.few; refused = bad.refused })

-- some trees are held, and one more is read with its own invocation
module _ (invocation own : Invocation) (lent : Option (List Resource)) (before between now : FilesTell) (dirs : List (List ℕ)) (count : ℕ) (trees : List Tree) (so_far : AreSoFar invocation own lent before between dirs count trees) (dir : List ℕ) where
  -- one more tree is held
  pub one_more : (all : ℕ) (new : List Tree) → AddsTree (invocation_for own dir) lent between now count trees new all → AreSoFar invocation (invocation_for own dir) lent before now (dirs ++ dir ∷ []) all new
  one_more all new adds =
      let tree = adds.tree in
      let one : HasTree (invocation_for invocation dir) lent between now count tree = subst (λ (i : Invocation). HasTree i lent between now count tree) (so_far.same dir) adds.has in
      let here : IsTreeIn before.held invocation lent dir tree = same_tree invocation lent dir tree before.held between.held so_far.stay.held (own_tree between.held invocation dir lent tree one.is) in
      subst (λ (ts : List Tree). AreSoFar invocation (invocation_for own dir) lent before now (dirs ++ dir ∷ []) all ts) (sym adds.is)
      (subst (λ (n : ℕ). AreSoFar invocation (invocation_for own dir) lent before now (dirs ++ dir ∷ []) n (trees ++ tree ∷ [])) (sym adds.counted)
      (record {
        are = trees_snoc before.held invocation lent dirs trees dir tree so_far.are here;
        counted = ap (λ (n : ℕ). n + length tree.defs) so_far.counted ∙ sym (sum_snoc trees tree);
        few = one.few;
        stay = then_stay before between now so_far.stay one.files;
        same = so_far.same;
      }))

  -- the trees that are held are the first ones
  first_trees : (behind : List (List ℕ)) → AreFirstTrees before.held invocation lent (dirs ++ behind) (plans_of trees) trees
  first_trees behind = record { before = dirs; behind = behind; split = refl; are = so_far.are; few = subst (λ (n : ℕ). n ≤ most_tree_tests) so_far.counted so_far.few; plans_are = refl }

  stops_at : (behind : List (List ℕ)) (Stops : ℕ → List ℕ → Type 0) → Stops count dir → StopsAtTree before.held invocation lent (dirs ++ dir ∷ behind) (plans_of trees) (length (plans_of trees)) Stops
  stops_at behind Stops stops =
      let many : length (plans_of trees) ≡ length trees = length-map trees (λ (t : Tree). t.plan) in
      let each : length trees ≡ length dirs = trees-length before.held invocation lent dirs trees so_far.are in
      record {
        trees = trees;
        front = first_trees (dir ∷ behind);
        place_is = many;
        dir = dir;
        there = ap (λ (n : ℕ). slice_get (dirs ++ dir ∷ behind) n) (many ∙ each) ∙ get_behind dirs behind dir;
        stops = subst (λ (n : ℕ). Stops n dir) so_far.counted stops;
      }

  -- the next tree has no plan
  pub stops_here : (all behind : List (List ℕ)) (names : List (List ℕ)) (outcome : Outcome) → all ≡ dirs ++ dir ∷ behind → HasNoTree (invocation_for own dir) lent between now count names outcome → LackTree invocation lent all before now (plans_of trees) names outcome
  stops_here all behind names outcome split none =
      subst (λ (ds : List (List ℕ)). LackTree invocation lent ds before now (plans_of trees) names outcome) (sym split)
      (by_outcome outcome (subst (λ (i : Invocation). HasNoTree i lent between now count names outcome) (so_far.same dir) none))
    where
      by_outcome : (o : Outcome) → HasNoTree (invocation_for invocation dir) lent between now count names o → LackTree invocation lent (dirs ++ dir ∷ behind) before now (plans_of trees) names o
      by_outcome Completed bad = absurd bad
      by_outcome Listed bad = absurd bad
      by_outcome (Usage word kind) bad = absurd bad
      by_outcome (Refused refusal) bad =
          (stops_at behind (λ n d. RefusesTree before.held invocation lent n d refusal names) (same_refuses invocation lent count dir refusal names before.held between.held so_far.stay.held (own_refuses between.held invocation dir lent count refusal names bad.0)), then_stay before between now so_far.stay bad.1)
      by_outcome (FilesFault path) bad =
          (stops_at behind (λ n d. TreeFailsAt before.held invocation n d path) (same_fault invocation count dir path before.held between.held so_far.stay.held bad.0), then_fail path before between now so_far.stay bad.1)
      by_outcome OutputFault bad = absurd bad
      by_outcome Memory bad = (stops_at behind (λ n d. ⊤) tt, then_stay before between now so_far.stay bad)

-- the trees that are read are those that were read before, if the files stayed
same_trees : (invocation : Invocation) (lent : Option (List Resource)) (dirs : List (List ℕ)) (trees : List Tree) (before between : Option Held) → Becomes before between SameHeld → AreTrees between invocation lent dirs trees → AreTrees before invocation lent dirs trees
same_trees invocation lent [] [] before between same are = tt
same_trees invocation lent [] (tree ∷ trees) before between same are = absurd are
same_trees invocation lent (dir ∷ dirs) [] before between same are = absurd are
same_trees invocation lent (dir ∷ dirs) (tree ∷ trees) before between same are = (same_tree invocation lent dir tree before between same are.0, same_trees invocation lent dirs trees before between same are.1)

same_first : (invocation : Invocation) (lent : Option (List Resource)) (dirs : List (List ℕ)) (plans : List PlanParts) (trees : List Tree) (before between : Option Held) → Becomes before between SameHeld → AreFirstTrees between invocation lent dirs plans trees → AreFirstTrees before invocation lent dirs plans trees
same_first invocation lent dirs plans trees before between same first = record {
  before = first.before;
  behind = first.behind;
  split = first.split;
  are = same_trees invocation lent first.before trees before between same first.are;
  few = first.few;
  plans_are = first.plans_are;
}

same_stop : (invocation : Invocation) (lent : Option (List Resource)) (dirs : List (List ℕ)) (plans : List PlanParts) (place : ℕ) (P Q : ℕ → List ℕ → Type 0) (before between : Option Held) → Becomes before between SameHeld → ((n : ℕ) (dir : List ℕ) → P n dir → Q n dir) → StopsAtTree between invocation lent dirs plans place P → StopsAtTree before invocation lent dirs plans place Q
same_stop invocation lent dirs plans place P Q before between same leads stop = record {
  trees = stop.trees;
  front = same_first invocation lent dirs plans stop.trees before between same stop.front;
  place_is = stop.place_is;
  dir = stop.dir;
  there = stop.there;
  stops = leads (defined_in stop.trees) stop.dir stop.stops;
}

few_first : (told : Option Held) (invocation : Invocation) (lent : Option (List Resource)) (dirs : List (List ℕ)) (plans : List PlanParts) (trees : List Tree) → AreFirstTrees told invocation lent dirs plans trees → length plans ≤ length dirs
few_first told invocation lent dirs plans trees first =
    let many : length plans ≡ length trees = ap (λ (ps : List PlanParts). length ps) first.plans_are ∙ length-map trees (λ (t : Tree). t.plan) in
    let each : length trees ≡ length first.before = trees-length told invocation lent first.before trees first.are in
    let all : length dirs ≡ length first.before + length first.behind = ap (λ (ds : List (List ℕ)). length ds) first.split ∙ length-append first.before first.behind in
    omega (arith, many, each, all)

-- the plans in front of a tree without one are not more than the trees
pub few_plans : (invocation : Invocation) (lent : Option (List Resource)) (dirs : List (List ℕ)) (before now : FilesTell) (trees : List Tree) (names : List (List ℕ)) (outcome : Outcome) → LackTree invocation lent dirs before now (plans_of trees) names outcome → length trees ≤ length dirs
few_plans invocation lent dirs before now trees names outcome lack =
    let same : length (plans_of trees) ≡ length trees = length-map trees (λ (t : Tree). t.plan) in
    omega (arith, same, by_outcome outcome lack)
  where
    by_outcome : (o : Outcome) → LackTree invocation lent dirs before now (plans_of trees) names o → length (plans_of trees) ≤ length dirs
    by_outcome Completed bad = absurd bad
    by_outcome Listed bad = absurd bad
    by_outcome (Usage word kind) bad = absurd bad
    by_outcome (Refused refusal) bad = few_first before.held invocation lent dirs (plans_of trees) bad.0.trees bad.0.front
    by_outcome (FilesFault path) bad = few_first before.held invocation lent dirs (plans_of trees) bad.0.trees bad.0.front
    by_outcome OutputFault bad = absurd bad
    by_outcome Memory bad = few_first before.held invocation lent dirs (plans_of trees) bad.0.trees bad.0.front

-- some tree has no plan, where the specification was read before it
module _ (invocation : Invocation) (dirs : List (List ℕ)) (before between now : FilesTell) (lent : Option (List Resource)) (named : ReadsSpec invocation.spec_file before between (Ok lent)) where
  pub declared_trees : (trees : List Tree) → AreTrees between.held invocation lent dirs trees → defined_in trees ≤ most_tree_tests → HaveTrees before.held invocation dirs trees
  declared_trees trees are few = record { lent = lent; declared = named.0; are = same_trees invocation lent dirs trees before.held between.held named.1.held are; few = few }

  pub lacks_plan : (plans : List PlanParts) (names : List (List ℕ)) (outcome : Outcome) → LackTree invocation lent dirs between now plans names outcome → LackPlans invocation dirs before now plans (Some (length plans)) names outcome
  lacks_plan plans names Completed bad = absurd bad
  lacks_plan plans names Listed bad = absurd bad
  lacks_plan plans names (Usage word kind) bad = absurd bad
  lacks_plan plans names (Refused refusal) bad =
      (record { lent = lent; declared = named.0; stops = same_stop invocation lent dirs plans (length plans) _ _ before.held between.held named.1.held (λ n dir. same_refuses invocation lent n dir refusal names before.held between.held named.1.held) bad.0 }, then_stay before between now named.1 bad.1)
  lacks_plan plans names (FilesFault path) bad =
      (record { lent = lent; declared = named.0; stops = same_stop invocation lent dirs plans (length plans) _ _ before.held between.held named.1.held (λ n dir. same_fault invocation n dir path before.held between.held named.1.held) bad.0 }, then_fail path before between now named.1 bad.1)
  lacks_plan plans names OutputFault bad = absurd bad
  lacks_plan plans names Memory bad =
      (record { lent = lent; declared = named.0; stops = same_stop invocation lent dirs plans (length plans) _ _ before.held between.held named.1.held (λ n dir all. all) bad.0 }, then_stay before between now named.1 bad.1)

-- the specification was not read
pub lacks_spec : (invocation : Invocation) (dirs : List (List ℕ)) (before now : FilesTell) (names : List (List ℕ)) (fault : SpecFileFault) (outcome : Outcome) → outcome ≡ outcome_of_spec fault → ReadsSpec invocation.spec_file before now (Err fault) → LackPlans invocation dirs before now [] None names outcome
lacks_spec invocation dirs before now names (Named.Refused why) outcome is bad =
    subst (λ (o : Outcome). LackPlans invocation dirs before now [] None names o) (sym is) (refl, bad)
lacks_spec invocation dirs before now names (Named.Failed path) outcome is bad =
    subst (λ (o : Outcome). LackPlans invocation dirs before now [] None names o) (sym is) (refl, bad)
lacks_spec invocation dirs before now names Named.NoMemory outcome is bad =
    subst (λ (o : Outcome). LackPlans invocation dirs before now [] None names o) (sym is) (refl, bad)

-- trees that are planned are as many as their folders
pub have_no_more : (told : Option Held) (invocation : Invocation) (dirs : List (List ℕ)) (trees : List Tree) → HaveTrees told invocation dirs trees → length trees ≤ length dirs
have_no_more told invocation dirs trees have =
    let each = trees-length told invocation have.lent dirs trees have.are in
    omega (arith, each)
