-- How a run over several trees leaves its files, and its status. Source: CMake manual, ctest(1), Description,
-- --no-tests, for one tree; that a tree is named is this project's own.
use Rattle.std.specs.Prelude.{◌≡◌, ℕ, ◌||◌, ◌&&◌, ◌==◌, Bool, List, length, Option, Some, None, Result, Ok, Err, if◌then◌else◌}
use Rattle.std.specs.List.{list_any}
use Rattle.ct_base.specs.Outside.{FilesTell}
use Rattle.ct_history.specs.declared.history.Entry.{Entry}
use Rattle.ct_app.specs.declared.outcome.Outcome.{Outcome}
use Rattle.ct_app.specs.declared.outcome.Outcome.TheVariants.{FilesFault, Memory}
use Rattle.ct_app.specs.RunFiles.{FilesFail, FilesServe}
use Rattle.ct_trees.specs.declared.joining.TreeRest.{TreeRest}
use Rattle.ct_trees.specs.TreeParts.{parts_behind, some_failing}
use Rattle.ct_trees.specs.TreeFiles.{IsPathOf, LeavesFirstTexts, LeavesTexts, TearsText, texts_behind}

-- some tree has no test in its plan, and that is an error
abbrev pub lacks_tests : Bool → List TreeRest → Bool
lacks_tests empty_is_error trees =
    empty_is_error && list_any (λ (tree : TreeRest). length tree.plan.tests == 0) trees

-- the status of a completed run: 8 where a test failed in the part of some tree, or a tree has no test and
-- that is an error; else 0
abbrev pub trees_status : Bool → List TreeRest → List Entry → ℕ
trees_status empty_is_error trees entries =
    if some_failing trees (parts_behind 0 trees entries) || lacks_tests empty_is_error trees then 8 else 0

-- what became of the files of a run with this end, and how the call ended: a complete run wrote them, unless
-- a write failed, of the tree at a place, or memory ran out. A run that ended early left them as they were,
-- and keeps its outcome.
abbrev pub EndsWithTrees : Bool
    → List TreeRest → List Entry → FilesTell → FilesTell → Result (Unit {0}) Outcome → Option ℕ
    → Result ℕ Outcome → Type 0
EndsWithTrees empty_is_error trees entries before now (Err outcome) place ended =
    (ended ≡ Err outcome) × (place ≡ None) × (now ≡ before)
EndsWithTrees empty_is_error trees entries before now (Ok done) place (Ok status) =
    FilesServe (LeavesTexts (texts_behind trees entries)) before now
    × (status ≡ trees_status empty_is_error trees entries) × (place ≡ None)
EndsWithTrees empty_is_error trees entries before now (Ok done) place (Err Memory) =
    FilesServe (LeavesFirstTexts (texts_behind trees entries)) before now × (place ≡ None)
EndsWithTrees empty_is_error trees entries before now (Ok done) (Some place) (Err (FilesFault path)) =
    IsPathOf (texts_behind trees entries) place path
    × FilesFail path (TearsText (texts_behind trees entries) place path) before now
EndsWithTrees empty_is_error trees entries before now (Ok done) place (Err other) = ⊥
