-- The texts of a run. Each is a list of lines with their line feeds; the report is the lines in a row.
-- Source: this project's choice, after what ctest(1) prints.
use Rattle.std.specs.Prelude.{ℕ, ◌+◌, ◌*◌, ◌/◌, ◌%◌, ◌^◌, min, Bool, true, false, not, ◌&&◌, List, [], ◌∷◌, ◌++◌, map, filter, length, flat_map, sum_by, count_by, Option, Some, None, codes, decimal, bytes_eq, ◌==◌, if◌then◌else◌}
use Rattle.std.specs.List.{list_any}
use Rattle.ct_base.specs.Bytes.{zero_digit}
use Rattle.ct_alloc.specs.NamesInOrder.{names_in_order}
use Rattle.ct_verdict.specs.declared.verdict.Cause.{Cause}
use Rattle.ct_verdict.specs.declared.verdict.Cause.TheVariants.{Unstarted, Lacks, Fixture, NotAvailable, BadOperation, Insufficient, Stopped, Memory}
use Rattle.ct_verdict.specs.declared.verdict.Verdict.{Verdict}
use Rattle.ct_verdict.specs.declared.verdict.Verdict.TheVariants.{Passed, Failed, Timeout, Exception, Skipped, NotRun, Disabled}
use Rattle.ct_history.specs.declared.plan.PlanTest.{PlanTest}
use Rattle.ct_history.specs.declared.plan.PlanParts.{PlanParts}
use Rattle.ct_history.specs.declared.history.Entry.{Entry}
use Rattle.ct_history.specs.declared.history.Entry.TheVariants.{Start, End, Settle, Stop}
use Rattle.ct_history.specs.Plan.{test_at, enabled}
use Rattle.ct_history.specs.Verdicts.{verdict_in, verdict_of_test, are_all_final}
use Rattle.ct_history.specs.Failed.{failed_tests}
use Rattle.ct_report.specs.declared.test_lines.LineNumbers.{LineNumbers}

-- the bytes of these lines
abbrev pub text_of : List (List ℕ) → List ℕ
text_of lines = flat_map (λ line. line) lines

-- the two digits of a number below 100
abbrev pub two_digits : ℕ → List ℕ
two_digits n = (zero_digit + n / 10) ∷ (zero_digit + n % 10) ∷ []

-- microseconds as seconds with two digits of hundredths, rounded down
abbrev pub seconds_text : ℕ → List ℕ
seconds_text micros = decimal (micros / 1000000) ++ codes "." ++ two_digits (micros / 10000 % 100)

-- the name of a test, or nothing where there is no test
abbrev pub name_of : Option PlanTest → List ℕ
name_of None = []
name_of (Some t) = t.name

-- why a test did not run
abbrev pub cause_text : List PlanTest → Cause → List ℕ
cause_text tests Unstarted = codes "Unable to start"
cause_text tests (Lacks place) = codes "Required file " ++ decimal place
cause_text tests (Fixture setup) = codes "Fixture " ++ name_of (test_at tests setup)
cause_text tests NotAvailable = codes "Not available"
cause_text tests (BadOperation place) = codes "Bad environment"
cause_text tests Insufficient = codes "Insufficient resources"
cause_text tests Stopped = codes "Stopped"
cause_text tests Memory = codes "Out of memory"

-- the text of a verdict in the line of its test; a disabled test has no line
abbrev pub verdict_text : List PlanTest → Verdict → List ℕ
verdict_text tests Passed = codes "Passed"
verdict_text tests Failed = codes "***Failed"
verdict_text tests Timeout = codes "***Timeout"
verdict_text tests Exception = codes "***Exception"
verdict_text tests Skipped = codes "***Skipped"
verdict_text tests (NotRun cause) = codes "***Not Run (" ++ cause_text tests cause ++ codes ")"
verdict_text tests Disabled = []

-- the word of a test that did not run in the lists of the summary
abbrev pub cause_word : Cause → List ℕ
cause_word Stopped = codes "Stopped"
cause_word _ = codes "Not Run"

-- the word of a verdict in the lists of the summary
abbrev pub verdict_word : Verdict → List ℕ
verdict_word Passed = []
verdict_word Failed = codes "Failed"
verdict_word Timeout = codes "Timeout"
verdict_word Exception = codes "Exception"
verdict_word Skipped = codes "Skipped"
verdict_word (NotRun cause) = cause_word cause
verdict_word Disabled = codes "Disabled"

-- the microseconds of an entry that is an End of the test, else 0
abbrev pub micros_by : ℕ → Entry → ℕ
micros_by test (Start t a worker placement) = 0
micros_by test (End t a worker seen) = if t == test then seen.micros else 0
micros_by test (Settle t cause) = 0
micros_by test Stop = 0

-- the microseconds of a test's Ends together, at most 10^18
abbrev pub micros_of : ℕ → List Entry → ℕ
micros_of test entries = min (sum_by (micros_by test) entries) (10 ^ 18)

-- the line that names the folder of the tests
abbrev pub project_line : List ℕ → List ℕ
project_line dir = codes "Test project " ++ dir ++ codes "\n"

-- the first line of a report
abbrev pub header_line : PlanParts → List ℕ
header_line plan = project_line plan.dir

-- the line of a test with this verdict and these numbers
abbrev pub numbered_line : List PlanTest → PlanTest → Verdict → LineNumbers → List ℕ
numbered_line tests t verdict numbers =
    decimal numbers.place
    ++ codes "/"
    ++ decimal numbers.enabled
    ++ codes " Test #"
    ++ decimal t.number
    ++ codes ": "
    ++ t.name
    ++ codes " ... "
    ++ verdict_text tests verdict
    ++ codes " "
    ++ seconds_text numbers.micros
    ++ codes " sec\n"

-- the line of a test with this verdict, which is the place-th to become final
abbrev pub verdict_line : PlanParts → List Entry → ℕ → PlanTest → Verdict → List ℕ
verdict_line plan entries place t verdict =
    numbered_line plan.tests t verdict
    (record {
      place = place;
      enabled = length (enabled plan.tests);
      micros = micros_of t.number entries;
    })

-- the line of a test with this verdict; a test that is not final has none
abbrev pub line_with : PlanParts → List Entry → ℕ → PlanTest → Option Verdict → List ℕ
line_with plan entries place t None = []
line_with plan entries place t (Some verdict) = verdict_line plan entries place t verdict

-- the line of a test, by the verdict that the history gives it
abbrev pub test_line : PlanParts → List Entry → ℕ → Option PlanTest → List ℕ
test_line plan entries place None = []
test_line plan entries place (Some t) = line_with plan entries place t (verdict_in plan.repeat t entries)

-- a test counts as passed: Passed or Skipped
abbrev pub is_good_in : Option Verdict → Bool
is_good_in (Some Passed) = true
is_good_in (Some Skipped) = true
is_good_in _ = false

-- how many tests count as passed
abbrev pub good_count : PlanParts → List Entry → ℕ
good_count plan entries = count_by (λ t. is_good_in (verdict_in plan.repeat t entries)) plan.tests

-- the share that passed, in whole percent, rounded down; 100 where there is no test
abbrev pub percent : ℕ → ℕ → ℕ
percent good all = if all == 0 then 100 else (100 * good) / all

-- the line of counts: the share that passed, how many tests failed, and how many tests there are
abbrev pub counts_with : ℕ → ℕ → ℕ → List ℕ
counts_with good failing all =
    decimal (percent good all)
    ++ codes "% tests passed, "
    ++ decimal failing
    ++ codes " tests failed out of "
    ++ decimal all
    ++ codes "\n"

-- the line of counts of a run, in which disabled tests are not counted
abbrev pub counts_line : PlanParts → List Entry → List ℕ
counts_line plan entries =
    counts_with (good_count plan entries) (length (failed_tests plan entries)) (length (enabled plan.tests))

-- the word of a test in the lists of the summary, by its verdict, if it has one
abbrev pub word_of : Option Verdict → List ℕ
word_of None = []
word_of (Some verdict) = verdict_word verdict

-- the line of a test with this verdict in a list of the summary
abbrev pub listed_with : PlanTest → Option Verdict → List ℕ
listed_with t verdict =
    codes "\t" ++ decimal t.number ++ codes " - " ++ t.name ++ codes " (" ++ word_of verdict ++ codes ")\n"

-- the line of a test in a list of the summary, by the verdict that the history gives it
abbrev pub listed_line : PlanParts → List Entry → PlanTest → List ℕ
listed_line plan entries t = listed_with t (verdict_in plan.repeat t entries)

-- a blank line, a heading and these lines, or nothing where there are no lines
abbrev pub under : List ℕ → List (List ℕ) → List (List ℕ)
under heading [] = []
under heading (line ∷ lines) = codes "\n" ∷ heading ∷ line ∷ lines

-- a test has this label
abbrev pub has_label : List ℕ → PlanTest → Bool
has_label label t = list_any (bytes_eq label) t.labels

-- the labels of the tests that are not disabled, each once, in byte order
abbrev pub labels_in_order : List PlanTest → List (List ℕ)
labels_in_order tests = names_in_order (flat_map (λ (t : PlanTest). t.labels) (enabled tests))

-- how many tests that are not disabled have the label
abbrev pub labelled_count : PlanParts → List ℕ → ℕ
labelled_count plan label = count_by (λ (t : PlanTest). not t.disabled && has_label label t) plan.tests

-- how many tests with the label count as passed, which a disabled test never does
abbrev pub labelled_good_count : PlanParts → List Entry → List ℕ → ℕ
labelled_good_count plan entries label =
    count_by (λ t. is_good_in (verdict_in plan.repeat t entries) && has_label label t) plan.tests

-- the line of a label: how many of its tests count as passed, and how many tests have it
abbrev pub label_line : List ℕ → ℕ → ℕ → List ℕ
label_line label good all = label ++ codes " = " ++ decimal good ++ codes "/" ++ decimal all ++ codes "\n"

-- the line of each label
abbrev pub label_lines : PlanParts → List Entry → List (List ℕ)
label_lines plan entries =
    map (λ label. label_line label (labelled_good_count plan entries label) (labelled_count plan label))
    (labels_in_order plan.tests)

-- a test is listed as one that did not run: Disabled, Skipped or Stopped
abbrev pub is_unrun_in : Option Verdict → Bool
is_unrun_in (Some Disabled) = true
is_unrun_in (Some Skipped) = true
is_unrun_in (Some (NotRun Stopped)) = true
is_unrun_in _ = false

-- the tests that did not run, in order of number
abbrev pub unrun_tests : PlanParts → List Entry → List PlanTest
unrun_tests plan entries = filter (λ t. is_unrun_in (verdict_in plan.repeat t entries)) plan.tests

-- the list of the tests that failed, or nothing where no test failed
abbrev pub failed_lines : List (List ℕ) → List (List ℕ)
failed_lines [] = []
failed_lines (line ∷ lines) =
    under (codes "The following tests FAILED:\n") (line ∷ lines) ++ codes "Errors while running CTest\n" ∷ []

-- the summary of a run: the counts, the labels, the tests that did not run, and those that failed
abbrev pub summary_lines : PlanParts → List Entry → List (List ℕ)
summary_lines plan entries =
    codes "\n"
    ∷ counts_line plan entries
    ∷ under (codes "Label Summary:\n") (label_lines plan entries)
    ++ under (codes "The following tests did not run:\n")
    (map (listed_line plan entries) (unrun_tests plan entries))
    ++ failed_lines (map (listed_line plan entries) (failed_tests plan entries))

-- the test that an entry may make final
abbrev pub finished_by : Entry → Option ℕ
finished_by (Start t a worker placement) = None
finished_by (End t a worker seen) = Some t
finished_by (Settle t cause) = Some t
finished_by Stop = None

-- the line that an entry adds: that of the test that it makes final, if it makes one final
abbrev pub lines_with : PlanParts → List Entry → ℕ → Option PlanTest → Option Verdict → List (List ℕ)
lines_with plan entries place None verdict = []
lines_with plan entries place (Some t) None = []
lines_with plan entries place (Some t) (Some verdict) = verdict_line plan entries place t verdict ∷ []

-- the line of the test that an entry may have made final, if that test is now final
abbrev pub lines_of_test : PlanParts → List Entry → ℕ → Option ℕ → List (List ℕ)
lines_of_test plan entries place None = []
lines_of_test plan entries place (Some number) =
    lines_with plan entries place (test_at plan.tests number) (verdict_of_test plan entries number)

-- the lines that these entries add behind the entries in `front`, after which `finals` tests have their line
abbrev pub lines_behind : PlanParts → ℕ → List Entry → List Entry → List (List ℕ)
lines_behind plan finals front [] = []
lines_behind plan finals front (e ∷ es) =
    let here = lines_of_test plan (front ++ e ∷ []) (finals + 1) (finished_by e) in
    here ++ lines_behind plan (finals + length here) (front ++ e ∷ []) es

-- the lines of the tests, in the order in which they become final
abbrev pub test_lines : PlanParts → List Entry → List (List ℕ)
test_lines plan entries = lines_behind plan 0 [] entries

-- the lines behind the header: that no tests were found; else the lines of the tests and,
-- where all tests are final, the summary
abbrev pub body_lines : PlanParts → List Entry → List PlanTest → List (List ℕ)
body_lines plan entries [] = codes "No tests were found!!!\n" ∷ []
body_lines plan entries (t ∷ ts) =
    test_lines plan entries ++ (if are_all_final plan entries then summary_lines plan entries else [])

-- the report of a history
abbrev pub report_lines : PlanParts → List Entry → List (List ℕ)
report_lines plan entries = header_line plan ∷ body_lines plan entries plan.tests
