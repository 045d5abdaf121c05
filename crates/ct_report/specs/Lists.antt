-- The lists of the labels and of the tests of a folder. Each is a list of lines with their line feeds.
-- Source: CMake manual, ctest(1), --print-labels and --show-only. The wording is ctest's.
use Rattle.std.specs.Prelude.{ℕ, Bool, not, List, [], ◌∷◌, ◌++◌, map, count_by, codes, decimal, if◌then◌else◌}
use Rattle.ct_alloc.specs.NamesInOrder.{names_in_order}
use Rattle.ct_report.specs.Report.{project_line}

-- the first line of a list of labels
abbrev pub labels_heading : List (List ℕ) → List ℕ
labels_heading [] = codes "No Labels Exist\n"
labels_heading (label ∷ labels) = codes "All Labels:\n"

-- the line of a label
abbrev pub label_entry : List ℕ → List ℕ
label_entry label = codes "  " ++ label ++ codes "\n"

-- the list of these labels, each once, in byte order
abbrev pub label_list : List (List ℕ) → List (List ℕ)
label_list labels = labels_heading (names_in_order labels) ∷ map label_entry (names_in_order labels)

-- a test that is listed
pub record Listed : Type 0 where
  pub number : ℕ
  pub name : List ℕ
  pub disabled : Bool

-- the line of a test
abbrev pub test_entry : Listed → List ℕ
test_entry t =
    codes "  Test #"
    ++ decimal t.number
    ++ codes ": "
    ++ t.name
    ++ (if t.disabled then codes " (Disabled)\n" else codes "\n")

-- how many of these tests are not disabled
abbrev pub enabled_count : List Listed → ℕ
enabled_count tests = count_by (λ (t : Listed). not t.disabled) tests

-- the last line of a list of tests
abbrev pub total_line : ℕ → List ℕ
total_line count = codes "Total Tests: " ++ decimal count ++ codes "\n"

-- the list of these tests of a folder
abbrev pub test_list : List ℕ → List Listed → List (List ℕ)
test_list dir tests =
    project_line dir ∷ map test_entry tests ++ codes "\n" ∷ total_line (enabled_count tests) ∷ []
