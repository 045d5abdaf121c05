-- What a run over several trees writes: for each tree its cost data and, where a test of it failed, its log.
-- Source: CMake manual, ctest(1), --rerun-failed; cmake-properties(7), COST; the order is this project's own.
use Rattle.std.specs.Prelude.{◌≡◌, ℕ, ◌+◌, List, [], ◌∷◌, ◌++◌, Contains, Option, Some, Result, Ok, Err, bytes_eq, if◌then◌else◌}
use Rattle.ct_base.specs.Outside.{FailsToWrite, FilesTell, Held}
use Rattle.ct_cost.specs.declared.cost_data.CostData.{CostData}
use Rattle.ct_cost.specs.After.{failed_log_text}
use Rattle.ct_history.specs.declared.plan.PlanTest.{PlanTest}
use Rattle.ct_history.specs.declared.plan.PlanParts.{PlanParts}
use Rattle.ct_history.specs.declared.history.Entry.{Entry}
use Rattle.ct_history.specs.Legal.{has_failing}
use Rattle.ct_app.specs.RunFiles.{FilesFail, FilesServe, costs_path, log_path, new_costs}
use Rattle.ct_trees.specs.declared.joining.TreeRest.{TreeRest}
use Rattle.ct_trees.specs.declared.tree_files.TreeFileFault.{TreeFileFault}
use Rattle.ct_trees.specs.declared.tree_files.TreeFileFault.TheVariants.{Failed, NoMemory}
use Rattle.ct_trees.specs.TreeParts.{parts_behind}

-- a text that is written for the tree at a place, from 0, and its path
pub record FileText : Type 0 where
  pub tree : ℕ
  pub path : List ℕ
  pub text : List ℕ

-- for the tree at this place: the cost data after a run of a plan that began with this cost data
abbrev pub cost_text : ℕ → PlanParts → List Entry → CostData → FileText
cost_text place plan part costs =
    record { tree = place; path = costs_path plan.dir; text = new_costs plan part costs }

-- for the tree at this place: the log of the failed tests after a run of a plan
abbrev pub log_text : ℕ → PlanParts → List Entry → FileText
log_text place plan part =
    record { tree = place; path = log_path plan.dir; text = failed_log_text plan part }

-- the log where a test failed, else nothing
abbrev pub log_texts : ℕ → PlanParts → List Entry → List FileText
log_texts place plan part = if has_failing plan part then log_text place plan part ∷ [] else []

-- what is written for a plan with these tests: its cost data, and its log if there is one; nothing without
-- tests
abbrev pub texts_for : ℕ → List PlanTest → PlanParts → List Entry → CostData → List FileText
texts_for place [] plan part costs = []
texts_for place (test ∷ tests) plan part costs = cost_text place plan part costs ∷ log_texts place plan part

-- what is written for the tree at this place after a history with this part
abbrev pub tree_texts : ℕ → TreeRest → List Entry → List FileText
tree_texts place tree part = texts_for place tree.plan.tests tree.plan part tree.costs

-- what is written for these trees, in order, where each has its part; the first of them is at this place
abbrev pub texts_of_parts : ℕ → List TreeRest → List (List Entry) → List FileText
texts_of_parts place [] parts = []
texts_of_parts place (tree ∷ trees) [] = []
texts_of_parts place (tree ∷ trees) (part ∷ parts) =
    tree_texts place tree part ++ texts_of_parts (place + 1) trees parts

-- what is written for these trees after a history
abbrev pub texts_behind : List TreeRest → List Entry → List FileText
texts_behind trees entries = texts_of_parts 0 trees (parts_behind 0 trees entries)

-- what a path holds behind these texts: the last text of this path, else what it held
abbrev pub held_after_files : List FileText → List ℕ → Option (List ℕ) → Option (List ℕ)
held_after_files [] path held = held
held_after_files (file ∷ files) path held =
    held_after_files files path (if bytes_eq path file.path then Some file.text else held)

-- each path holds the last of these texts that is its own; each other path holds what it held
abbrev pub LeavesTexts : List FileText → Held → Held → Type 0
LeavesTexts texts before now = (path : List ℕ) → now path ≡ held_after_files texts path (before path)

-- some first texts were written, and the write of the next one failed: it is for the tree at this place, and
-- has this path; each path that is not one of theirs holds what it held
pub record TearsText (texts : List FileText) (place : ℕ) (path : List ℕ) (before now : Held) : Type 0 where
  pub first : List FileText
  pub torn : FileText
  pub rest : List FileText
  pub split : texts ≡ first ++ torn ∷ rest
  pub tree_is : place ≡ torn.tree
  pub named : path ≡ torn.path
  pub between : Held
  pub written : LeavesTexts first before between
  pub fails : FailsToWrite path torn.text between now

-- some first texts were written, and each path that is not one of theirs holds what it held
pub record LeavesFirstTexts (texts : List FileText) (before now : Held) : Type 0 where
  pub first : List FileText
  pub rest : List FileText
  pub split : texts ≡ first ++ rest
  pub written : LeavesTexts first before now

-- one of these texts is for the tree at this place, and has this path
pub record IsPathOf (texts : List FileText) (place : ℕ) (path : List ℕ) : Type 0 where
  pub file : FileText
  pub due : Contains texts file
  pub tree_is : place ≡ file.tree
  pub named : path ≡ file.path

-- these texts were written in order; or the write of one failed, which is for the tree that the fault names;
-- or memory ran out behind some first texts
abbrev pub WritesTexts : List FileText → FilesTell → FilesTell → Result (Unit {0}) TreeFileFault → Type 0
WritesTexts texts before now (Ok done) = FilesServe (LeavesTexts texts) before now
WritesTexts texts before now (Err (Failed place path)) =
    IsPathOf texts place path × FilesFail path (TearsText texts place path) before now
WritesTexts texts before now (Err NoMemory) = FilesServe (LeavesFirstTexts texts) before now
