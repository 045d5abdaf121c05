-- What a run over several trees prints: one header for each tree, the lines of all tests, and a summary for
-- each tree of its own part. This project's own, after what ctest(1) prints.
use Rattle.std.specs.Prelude.{ℕ, ◌+◌, List, [], ◌∷◌, ◌++◌, length, map, codes, if◌then◌else◌}
use Rattle.ct_history.specs.declared.plan.PlanTest.{PlanTest}
use Rattle.ct_history.specs.declared.plan.PlanParts.{PlanParts}
use Rattle.ct_history.specs.declared.history.Entry.{Entry}
use Rattle.ct_history.specs.Parts.{part_of, without_stop}
use Rattle.ct_history.specs.Verdicts.{are_all_final}
use Rattle.ct_plan.specs.declared.whole.Tree.{Tree}
use Rattle.ct_report.specs.Report.{header_line, summary_lines, test_lines}
use Rattle.ct_trees.specs.declared.joining.TreeRest.{TreeRest}

-- what is left of a tree whose tests run with those of others: how many they are, its cost data and its plan
abbrev pub rest_of : Tree → TreeRest
rest_of tree = record { defined = length tree.defs; costs = tree.costs; plan = tree.plan }

-- the part of a history for a tree behind so many tests of other trees: the entries of its tests, with the
-- tree's own numbers
abbrev pub tree_part : ℕ → TreeRest → List Entry → List Entry
tree_part offset tree entries = part_of offset tree.defined entries

-- the summary of a plan, or the line that it has no tests
abbrev pub summary_for : List PlanTest → PlanParts → List Entry → List (List ℕ)
summary_for [] plan part = codes "No tests were found!!!\n" ∷ []
summary_for (test ∷ tests) plan part = summary_lines plan part

-- the summary of a tree by its part of a history; its plan is read without the option that stops a run
abbrev pub tree_summary : PlanParts → List Entry → List (List ℕ)
tree_summary plan part = summary_for plan.tests (without_stop plan) part

-- the lines of a tree behind those of all tests: a blank line, its folder, its summary
abbrev pub tree_lines : PlanParts → List Entry → List (List ℕ)
tree_lines plan part =
    codes "\n" ∷ (codes "Tree: " ++ plan.dir ++ codes "\n") ∷ tree_summary plan part

-- the lines of these trees, the first of which stands behind so many tests of other trees
abbrev pub summaries_behind : ℕ → List TreeRest → List Entry → List (List ℕ)
summaries_behind offset [] entries = []
summaries_behind offset (tree ∷ trees) entries =
    tree_lines tree.plan (tree_part offset tree entries)
    ++ summaries_behind (offset + tree.defined) trees entries

-- the lines of these trees behind those of all tests, where each has its part
abbrev pub summaries_of_parts : List TreeRest → List (List Entry) → List (List ℕ)
summaries_of_parts [] parts = []
summaries_of_parts (tree ∷ trees) [] = []
summaries_of_parts (tree ∷ trees) (part ∷ parts) =
    tree_lines tree.plan part ++ summaries_of_parts trees parts

-- the lines behind the headers: those of all tests and, where all are final, those of the trees
abbrev pub lines_of_trees : List TreeRest → PlanParts → List Entry → List (List ℕ)
lines_of_trees trees whole entries =
    test_lines whole entries ++ (if are_all_final whole entries then summaries_behind 0 trees entries else [])

-- the header of each tree
abbrev pub header_lines : List TreeRest → List (List ℕ)
header_lines trees = map (λ (tree : TreeRest). header_line tree.plan) trees

-- the report of a history of a whole plan of these trees
abbrev pub trees_report : List TreeRest → PlanParts → List Entry → List (List ℕ)
trees_report trees whole entries = header_lines trees ++ lines_of_trees trees whole entries
