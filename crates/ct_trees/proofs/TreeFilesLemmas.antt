-- What the files hold after the texts of several trees, from what each call wrote.
use Rattle.std.proofs.Common.{◌≡◌, ◌≢◌, ◌∙◌, sym, ap, subst, refl, Bool, true, false, ℕ, suc, ◌+◌, ◌<◌, ◌≤◌, List, [], ◌∷◌, ◌++◌, length, drop, get_or, append_assoc, inl, inr, arith}
use Rattle.std.specs.Prelude.{Contains, Option, Some, Ok, Err, bytes_eq, ◌==◌, ◌||◌, if◌then◌else◌}
use Rattle.std.proofs.Math.Bool.{or_assoc, or-false}
use Rattle.std.proofs.lemmas.List.{append-nil, drop_all, length-map}
use Rattle.std.proofs.lemmas.List.Elements.{Contains-append_left, Contains-append_right}
use Rattle.std.proofs.lemmas.Slice.Eq.{bytes_eq-Decides}
use Rattle.ct_base.specs.Outside.{FilesTell, Held, SameHeld, Writes}
use Rattle.ct_history.specs.declared.plan.PlanTest.{PlanTest}
use Rattle.ct_history.specs.declared.plan.PlanParts.{PlanParts}
use Rattle.ct_history.specs.declared.history.Entry.{Entry}
use Rattle.ct_history.specs.declared.history.History.{History}
use Rattle.ct_history.specs.Legal.{has_failing}
use Rattle.ct_history.specs.Verdicts.{are_all_final}
use Rattle.ct_cost.specs.declared.cost_data.CostData.{CostData}
use Rattle.ct_app.specs.declared.run_files.RunFileFault.TheVariants as Run
use Rattle.ct_app.specs.RunFiles.{FilesServe, IsWritten, Leaves, LeavesFor, LeavesPart, LeavesTorn, TearsCosts, TearsLog, WritesFiles, costs_path, log_path, new_costs}
use Rattle.ct_app.proofs.ChangeLemmas.{fails_as, fails_then, serves_as, serves_then, stays}
use Rattle.ct_app.proofs.RunFilesLemmas.{none_failing, paths_differ}
use Rattle.ct_trees.specs.declared.joining.TreeRest.{TreeRest}
use Rattle.ct_trees.specs.declared.tree_files.TreeFileFault.{TreeFileFault}
use Rattle.ct_trees.specs.declared.tree_files.TreeFileFault.TheVariants as Tree
use Rattle.ct_trees.specs.TreeFiles.{FileText, IsPathOf, LeavesFirstTexts, LeavesTexts, TearsText, WritesTexts, cost_text, held_after_files, log_text, log_texts, texts_for, texts_of_parts, tree_texts}
use Rattle.ct_trees.specs.TreeParts.{AreEnded, entries_of_each, some_failing}
use Rattle.ct_trees.proofs.NextTreeLemmas.{both_from}

held_after_files-append : (first rest : List FileText) (path : List ℕ) (held : Option (List ℕ)) → held_after_files (first ++ rest) path held ≡ held_after_files rest path (held_after_files first path held)
held_after_files-append [] rest path held = refl
held_after_files-append (file ∷ files) rest path held = held_after_files-append files rest path (if bytes_eq path file.path then Some file.text else held)

-- texts behind other texts
texts_then : (first rest : List FileText) (x y z : Held) → LeavesTexts first x y → LeavesTexts rest y z → LeavesTexts (first ++ rest) x z
texts_then first rest x y z one two = λ path.
    two path
    ∙ ap (λ (held : Option (List ℕ)). held_after_files rest path held) (one path)
    ∙ sym (held_after_files-append first rest path (x path))

other_path : (one other : List ℕ) → bytes_eq one other ≡ false → one ≢ other
other_path one other differs = λ same. let is = (bytes_eq-Decides one other).1 same in let no : true ≡ false = sym is ∙ differs in cc

-- one text
one_left : (file : FileText) (x y : Held) → Writes file.path file.text x y → LeavesTexts (file ∷ []) x y
one_left file x y writes = λ path. by_test path (bytes_eq path file.path) refl
  where
    by_test : (path : List ℕ) (same : Bool) → bytes_eq path file.path ≡ same → y path ≡ (if bytes_eq path file.path then Some file.text else x path)
    by_test path true is = rw is (ap y ((bytes_eq-Decides path file.path).0 is) ∙ writes.here)
    by_test path false is = rw is (writes.others path (other_path path file.path is))

-- the cost data of a tree, and its log
module _ (costs log : FileText) (differ : costs.path ≢ log.path) (x y : Held) where
  none_else : y costs.path ≡ Some costs.text → y log.path ≡ x log.path → ((path : List ℕ) → path ≢ costs.path → path ≢ log.path → y path ≡ x path) → LeavesTexts (costs ∷ []) x y
  none_else here kept others = one_left costs x y (record { here = here; others = λ path off. by_test path off (bytes_eq path log.path) refl })
    where
      by_test : (path : List ℕ) → path ≢ costs.path → (same : Bool) → bytes_eq path log.path ≡ same → y path ≡ x path
      by_test path off true is = let same = (bytes_eq-Decides path log.path).0 is in ap y same ∙ kept ∙ ap x (sym same)
      by_test path off false is = others path off (other_path path log.path is)

  both_left : y costs.path ≡ Some costs.text → y log.path ≡ Some log.text → ((path : List ℕ) → path ≢ costs.path → path ≢ log.path → y path ≡ x path) → LeavesTexts (costs ∷ log ∷ []) x y
  both_left here there others = λ path. by_log path (bytes_eq path log.path) refl
    where
      by_costs : (path : List ℕ) → path ≢ log.path → (same : Bool) → bytes_eq path costs.path ≡ same → y path ≡ (if bytes_eq path costs.path then Some costs.text else x path)
      by_costs path off true is = rw is (ap y ((bytes_eq-Decides path costs.path).0 is) ∙ here)
      by_costs path off false is = rw is (others path (other_path path costs.path is) off)

      by_log : (path : List ℕ) (same : Bool) → bytes_eq path log.path ≡ same → y path ≡ (if bytes_eq path log.path then Some log.text else (if bytes_eq path costs.path then Some costs.text else x path))
      by_log path true is = rw is (ap y ((bytes_eq-Decides path log.path).0 is) ∙ there)
      by_log path false is = rw is (by_costs path (other_path path log.path is) (bytes_eq path costs.path) refl)

  by_failed : (failed : Bool) → y costs.path ≡ Some costs.text → y log.path ≡ (if failed then Some log.text else x log.path) → ((path : List ℕ) → path ≢ costs.path → path ≢ log.path → y path ≡ x path) → LeavesTexts (costs ∷ (if failed then log ∷ [] else [])) x y
  by_failed true here there others = both_left here there others
  by_failed false here kept others = none_else here kept others

first_there : (file : FileText) (files : List FileText) → Contains (file ∷ files) file
first_there file files = (0, omega arith, refl)

module _ (place : ℕ) (plan : PlanParts) (part : List Entry) (costs : CostData) where
  -- the files of a tree are left
  tree_left : (x y : Held) → Leaves plan part costs x y → LeavesTexts (texts_for place plan.tests plan part costs) x y
  tree_left x y leaves = by_tests plan.tests leaves
    where
      by_tests : (ts : List PlanTest) → LeavesFor ts plan part costs x y → LeavesTexts (texts_for place ts plan part costs) x y
      by_tests [] same = same
      by_tests (t ∷ ts) both = by_failed (cost_text place plan part costs) (log_text place plan part) (paths_differ plan.dir) x y (has_failing plan part) both.cost_file both.log both.others

  -- the write of the cost data was torn
  costs_torn : (path : List ℕ) (ts : List PlanTest) (x y : Held) → 0 < length ts → TearsCosts plan part path costs x y → TearsText (texts_for place ts plan part costs) place path x y
  costs_torn path [] x y some torn = absurd (omega (arith, some))
  costs_torn path (t ∷ ts) x y some torn = record {
    first = [];
    torn = cost_text place plan part costs;
    rest = log_texts place plan part;
    split = refl;
    tree_is = refl;
    named = torn.named;
    between = x;
    written = λ other. refl;
    fails = torn.torn;
  }

  log_due : has_failing plan part ≡ true → log_texts place plan part ≡ log_text place plan part ∷ []
  log_due due = ap (λ (failed : Bool). if failed then log_text place plan part ∷ [] else []) due

  -- the write of the log was torn
  log_torn : (path : List ℕ) (ts : List PlanTest) (x y : Held) → 0 < length ts → TearsLog plan part path costs x y → TearsText (texts_for place ts plan part costs) place path x y
  log_torn path [] x y some torn = absurd (omega (arith, some))
  log_torn path (t ∷ ts) x y some torn = record {
    first = cost_text place plan part costs ∷ [];
    torn = log_text place plan part;
    rest = [];
    split = ap (λ (texts : List FileText). cost_text place plan part costs ∷ texts) (log_due torn.due);
    tree_is = refl;
    named = torn.named;
    between = torn.between;
    written = one_left (cost_text place plan part costs) x torn.between torn.written;
    fails = torn.torn;
  }

  tree_torn : (path : List ℕ) (x y : Held) → LeavesTorn plan part path costs x y → TearsText (texts_for place plan.tests plan part costs) place path x y
  tree_torn path x y (some, inl torn) = costs_torn path plan.tests x y some torn
  tree_torn path x y (some, inr torn) = log_torn path plan.tests x y some torn

  -- only the cost data was written, though a test failed
  costs_alone : (ts : List PlanTest) (x y : Held) → ((length ts == 0) ≡ true → ⊥) → Writes (costs_path plan.dir) (new_costs plan part costs) x y → LeavesFirstTexts (texts_for place ts plan part costs) x y
  costs_alone [] x y some writes = absurd (some refl)
  costs_alone (t ∷ ts) x y some writes = record {
    first = cost_text place plan part costs ∷ [];
    rest = log_texts place plan part;
    split = refl;
    written = one_left (cost_text place plan part costs) x y writes;
  }

  tree_part_left : (x y : Held) → LeavesPart plan part costs x y → LeavesFirstTexts (texts_for place plan.tests plan part costs) x y
  tree_part_left x y (inl same) = record { first = []; rest = texts_for place plan.tests plan part costs; split = refl; written = same }
  tree_part_left x y (inr (due, writes)) = costs_alone plan.tests x y (λ none. let no : true ≡ false = sym due ∙ none_failing plan part none in cc) writes

  -- the path of the write that failed is that of a text that is due
  costs_due : (path : List ℕ) (ts : List PlanTest) → 0 < length ts → path ≡ costs_path plan.dir → IsPathOf (texts_for place ts plan part costs) place path
  costs_due path [] some named = absurd (omega (arith, some))
  costs_due path (t ∷ ts) some named = record {
    file = cost_text place plan part costs;
    due = first_there (cost_text place plan part costs) (log_texts place plan part);
    tree_is = refl;
    named = named;
  }

  log_due_path : (path : List ℕ) (ts : List PlanTest) → ((length ts == 0) ≡ true → ⊥) → has_failing plan part ≡ true → path ≡ log_path plan.dir → IsPathOf (texts_for place ts plan part costs) place path
  log_due_path path [] some failed named = absurd (some refl)
  log_due_path path (t ∷ ts) some failed named = record {
    file = log_text place plan part;
    due = subst (λ (texts : List FileText). Contains (cost_text place plan part costs ∷ texts) (log_text place plan part)) (sym (log_due failed)) (Contains-append_right (cost_text place plan part costs ∷ []) (log_text place plan part ∷ []) (log_text place plan part) (first_there (log_text place plan part) []));
    tree_is = refl;
    named = named;
  }

  path_due : (path : List ℕ) → IsWritten plan part path → IsPathOf (texts_for place plan.tests plan part costs) place path
  path_due path (inl (named, some)) = costs_due path plan.tests some named
  path_due path (inr (named, failed)) = log_due_path path plan.tests (λ none. let no : true ≡ false = sym failed ∙ none_failing plan part none in cc) failed named

-- the files of a tree were written, or were not for a fault
module _ (place : ℕ) (tree : TreeRest) (part : List Entry) (before now : FilesTell) where
  pub tree_served : WritesFiles tree.plan part tree.costs before now (Ok tt) → WritesTexts (tree_texts place tree part) before now (Ok tt)
  tree_served serves = serves_as (Leaves tree.plan part tree.costs) (LeavesTexts (tree_texts place tree part)) (tree_left place tree.plan part tree.costs) before now serves

  pub tree_lacks : WritesFiles tree.plan part tree.costs before now (Err Run.NoMemory) → WritesTexts (tree_texts place tree part) before now (Err Tree.NoMemory)
  tree_lacks serves = serves_as (LeavesPart tree.plan part tree.costs) (LeavesFirstTexts (tree_texts place tree part)) (tree_part_left place tree.plan part tree.costs) before now serves

  pub tree_fails : (path : List ℕ) → WritesFiles tree.plan part tree.costs before now (Err (Run.Failed path)) → WritesTexts (tree_texts place tree part) before now (Err (Tree.Failed place path))
  tree_fails path (written, fails) = (
    path_due place tree.plan part tree.costs path written,
    fails_as (LeavesTorn tree.plan part path tree.costs) (TearsText (tree_texts place tree part) place path) (tree_torn place tree.plan part tree.costs path) path before now fails,
  )

-- some first texts were written, and these are left
pub record AreWrittenSoFar (all left : List FileText) (before now : FilesTell) : Type 0 where
  pub front : List FileText
  pub split : all ≡ front ++ left
  pub serves : FilesServe (LeavesTexts front) before now

-- no text was written
pub none_written : (all : List FileText) (files : FilesTell) → AreWrittenSoFar all all files files
none_written all files = record {
  front = [];
  split = refl;
  serves = serves_as SameHeld (LeavesTexts []) (λ x y same. same) files files (stays files);
}

-- all texts were written
all_written : (all : List FileText) (before now : FilesTell) → AreWrittenSoFar all [] before now → FilesServe (LeavesTexts all) before now
all_written all before now so_far = subst (λ (texts : List FileText). FilesServe (LeavesTexts texts) before now) (sym (so_far.split ∙ append-nil so_far.front)) so_far.serves

module _ (all next left : List FileText) (before mid now : FilesTell) (so_far : AreWrittenSoFar all (next ++ left) before mid) where
  split_next : all ≡ (so_far.front ++ next) ++ left
  split_next = so_far.split ∙ sym (append_assoc so_far.front next left)

  -- the next texts were written
  next_written : FilesServe (LeavesTexts next) mid now → AreWrittenSoFar all left before now
  next_written serves = record {
    front = so_far.front ++ next;
    split = split_next;
    serves = serves_then (LeavesTexts so_far.front) (LeavesTexts next) (LeavesTexts (so_far.front ++ next)) (λ x y z one two. texts_then so_far.front next x y z one two) before mid now so_far.serves serves;
  }

  -- a path that is due for the next texts is due
  due_behind : (place : ℕ) (path : List ℕ) → IsPathOf next place path → IsPathOf all place path
  due_behind place path of = record {
    file = of.file;
    due = subst (λ (texts : List FileText). Contains texts of.file) (sym split_next) (Contains-append_left (so_far.front ++ next) left of.file (Contains-append_right so_far.front next of.file of.due));
    tree_is = of.tree_is;
    named = of.named;
  }

  torn_behind : (place : ℕ) (path : List ℕ) (x y z : Held) → LeavesTexts so_far.front x y → TearsText next place path y z → TearsText all place path x z
  torn_behind place path x y z front torn = record {
    first = so_far.front ++ torn.first;
    torn = torn.torn;
    rest = torn.rest ++ left;
    split =
        split_next
        ∙ ap (λ (texts : List FileText). (so_far.front ++ texts) ++ left) torn.split
        ∙ append_assoc so_far.front (torn.first ++ torn.torn ∷ torn.rest) left
        ∙ ap (λ (texts : List FileText). so_far.front ++ texts) (append_assoc torn.first (torn.torn ∷ torn.rest) left)
        ∙ sym (append_assoc so_far.front torn.first (torn.torn ∷ torn.rest ++ left));
    tree_is = torn.tree_is;
    named = torn.named;
    between = torn.between;
    written = texts_then so_far.front torn.first x y torn.between front torn.written;
    fails = torn.fails;
  }

  first_behind : (x y z : Held) → LeavesTexts so_far.front x y → LeavesFirstTexts next y z → LeavesFirstTexts all x z
  first_behind x y z front some = record {
    first = so_far.front ++ some.first;
    rest = some.rest ++ left;
    split =
        split_next
        ∙ ap (λ (texts : List FileText). (so_far.front ++ texts) ++ left) some.split
        ∙ append_assoc so_far.front (some.first ++ some.rest) left
        ∙ ap (λ (texts : List FileText). so_far.front ++ texts) (append_assoc some.first some.rest left)
        ∙ sym (append_assoc so_far.front some.first (some.rest ++ left));
    written = texts_then so_far.front some.first x y z front some.written;
  }

  -- the next texts were not all written
  next_unwritten : (fault : TreeFileFault) → WritesTexts next mid now (Err fault) → WritesTexts all before now (Err fault)
  next_unwritten (Tree.Failed place path) (of, fails) = (due_behind place path of, fails_then (LeavesTexts so_far.front) (TearsText next place path) (TearsText all place path) (torn_behind place path) path before mid now so_far.serves fails)
  next_unwritten Tree.NoMemory serves = serves_then (LeavesTexts so_far.front) (LeavesFirstTexts next) (LeavesFirstTexts all) first_behind before mid now so_far.serves serves

-- there are as many parts as trees
ended_count : (trees : List TreeRest) (parts : List (List Entry)) → AreEnded trees parts → length parts ≡ length trees
ended_count [] [] ended = refl
ended_count [] (p ∷ ps) ended = absurd ended
ended_count (t ∷ ts) [] ended = absurd ended
ended_count (t ∷ ts) (p ∷ ps) ended = ap suc (ended_count ts ps ended.1)

-- each tree has its part
pub part_there : (trees : List TreeRest) (parts : List History) (at : ℕ) → AreEnded trees (entries_of_each parts) → at < length trees → at < length parts
part_there trees parts at ended within =
    let many = ended_count trees (entries_of_each parts) ended in
    let each = length-map parts (λ (history : History). history.entries.items) in
    omega (arith, within, many, each)

-- the files of the trees in front of this place were written; `failed` says whether a test of them failed
pub record AreWrittenTo (trees : List TreeRest) (parts : List History) (at : ℕ) (failed : Bool) (before now : FilesTell) : Type 0 where
  pub so_far : AreWrittenSoFar (texts_of_parts 0 trees (entries_of_each parts)) (texts_of_parts at (drop at trees) (entries_of_each (drop at parts))) before now
  pub ended : AreEnded (drop at trees) (entries_of_each (drop at parts))
  pub known : (failed || some_failing (drop at trees) (entries_of_each (drop at parts))) ≡ some_failing trees (entries_of_each parts)

-- no tree was written
pub first_tree : (trees : List TreeRest) (parts : List History) (files : FilesTell) → AreEnded trees (entries_of_each parts) → AreWrittenTo trees parts 0 false files files
first_tree trees parts files ended = record {
  so_far = none_written (texts_of_parts 0 trees (entries_of_each parts)) files;
  ended = ended;
  known = refl;
}

module _ (trees : List TreeRest) (parts : List History) (at : ℕ) (failed : Bool) (before mid : FilesTell) (to : AreWrittenTo trees parts at failed before mid) where
  -- all trees were written
  module _ (none : length trees ≤ at) where
    no_trees : drop at trees ≡ []
    no_trees = drop_all at trees none

    pub all_trees : WritesTexts (texts_of_parts 0 trees (entries_of_each parts)) before mid (Ok tt)
    all_trees = all_written (texts_of_parts 0 trees (entries_of_each parts)) before mid (subst (λ (ts : List TreeRest). AreWrittenSoFar (texts_of_parts 0 trees (entries_of_each parts)) (texts_of_parts at ts (entries_of_each (drop at parts))) before mid) no_trees to.so_far)

    pub all_failed : failed ≡ some_failing trees (entries_of_each parts)
    all_failed =
        sym (or-false failed)
        ∙ sym (ap (λ (ts : List TreeRest). failed || some_failing ts (entries_of_each (drop at parts))) no_trees)
        ∙ to.known

  -- the next tree
  module _ (tree : TreeRest) (part : History) (within : at < length trees) (tree_is : tree ≡ get_or trees at tree) (there : at < length parts) (part_is : part ≡ get_or parts at part) where
    ended_here : AreEnded (tree ∷ drop (at + 1) trees) (part.entries.items ∷ entries_of_each (drop (at + 1) parts))
    ended_here = both_from trees parts at tree part within tree_is there part_is AreEnded to.ended

    pub final_there : are_all_final tree.plan part.entries.items ≡ true
    final_there = ended_here.0

    next_texts : AreWrittenSoFar (texts_of_parts 0 trees (entries_of_each parts)) (tree_texts at tree part.entries.items ++ texts_of_parts (at + 1) (drop (at + 1) trees) (entries_of_each (drop (at + 1) parts))) before mid
    next_texts = both_from trees parts at tree part within tree_is there part_is (λ ts ps. AreWrittenSoFar (texts_of_parts 0 trees (entries_of_each parts)) (texts_of_parts at ts ps) before mid) to.so_far

    next_known : (failed || (has_failing tree.plan part.entries.items || some_failing (drop (at + 1) trees) (entries_of_each (drop (at + 1) parts)))) ≡ some_failing trees (entries_of_each parts)
    next_known = both_from trees parts at tree part within tree_is there part_is (λ ts ps. (failed || some_failing ts ps) ≡ some_failing trees (entries_of_each parts)) to.known

    -- the files of the next tree were written
    pub next_tree : (now : FilesTell) (any : Bool) → WritesTexts (tree_texts at tree part.entries.items) mid now (Ok tt) → any ≡ has_failing tree.plan part.entries.items → AreWrittenTo trees parts (at + 1) (failed || any) before now
    next_tree now any serves is = record {
      so_far = next_written (texts_of_parts 0 trees (entries_of_each parts)) (tree_texts at tree part.entries.items) (texts_of_parts (at + 1) (drop (at + 1) trees) (entries_of_each (drop (at + 1) parts))) before mid now next_texts serves;
      ended = ended_here.1;
      known =
          ap (λ (b : Bool). (failed || b) || some_failing (drop (at + 1) trees) (entries_of_each (drop (at + 1) parts))) is
          ∙ or_assoc failed (has_failing tree.plan part.entries.items) (some_failing (drop (at + 1) trees) (entries_of_each (drop (at + 1) parts)))
          ∙ next_known;
    }

    -- the files of the next tree were not all written
    pub tree_stops : (now : FilesTell) (fault : TreeFileFault) → WritesTexts (tree_texts at tree part.entries.items) mid now (Err fault) → WritesTexts (texts_of_parts 0 trees (entries_of_each parts)) before now (Err fault)
    tree_stops now fault writes =
        next_unwritten (texts_of_parts 0 trees (entries_of_each parts)) (tree_texts at tree part.entries.items) (texts_of_parts (at + 1) (drop (at + 1) trees) (entries_of_each (drop (at + 1) parts))) before mid now next_texts fault writes
