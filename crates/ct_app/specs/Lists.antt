-- The lists of a call: of tests, of labels and for editors; and what each outcome of a list means.
-- Source: CMake manual, ctest(1), --show-only, --print-labels, Show as JSON Object Model. That a list refuses
-- no cycle is this project's choice.
use Rattle.std.specs.Prelude.{◌≡◌, ◌⊎◌, ℕ, List, [], ◌∷◌, flat_map, filter_map, Option, Some, None, Ok, Err, if◌then◌else◌}
use Rattle.ct_base.specs.declared.defs.TestDef.{TestDef}
use Rattle.ct_base.specs.declared.sink.SinkFault.TheVariants as Sinks
use Rattle.ct_props.specs.declared.props.Props.{Props}
use Rattle.ct_props.specs.declared.wanted.Choice.{Choice}
use Rattle.ct_props.specs.Numbered.{at_number}
use Rattle.ct_args.specs.declared.invocation.Task.{Task}
use Rattle.ct_args.specs.declared.invocation.Task.TheVariants.{Run, ListTests, ListLabels, ListJson}
use Rattle.ct_args.specs.declared.invocation.Invocation.{Invocation}
use Rattle.ct_info.specs.Info.{info_text, info_value}
use Rattle.ct_plan.specs.Source.{members_in}
use Rattle.ct_report.specs.Lists.{Listed as Line, label_list, test_list}
use Rattle.ct_report.specs.PutLines.{PutsLines}
use Rattle.ct_app.specs.declared.outcome.Outcome.{Outcome}
use Rattle.ct_app.specs.declared.outcome.Outcome.TheVariants.{Completed, Listed, Usage, Refused, FilesFault, OutputFault, Memory}
use Rattle.ct_app.specs.Calls.{IsReadFault, IsUnreadable, IsUnrun, IsUsage, PutsOrFails, Sides, ThenLine, Tries}
use Rattle.ct_app.specs.Outcome.{fault_line}
use Rattle.ct_app.specs.Reading.{AreRead, AskFor, ListFailsAt}
use Rattle.ct_app.specs.Rerun.{AreOnly, choice_for}
use Rattle.ct_app.specs.RunFiles.{FilesStay}

-- the test that was looked up by this number as a list shows it, if its definition and properties are there
abbrev pub listed_there : ℕ → Option TestDef → Option Props → Option Line
listed_there number None props = None
listed_there number (Some def) None = None
listed_there number (Some def) (Some props) =
    Some (record { number = number; name = def.name; disabled = props.disabled })

-- the tests with these numbers as a list shows them, in order
abbrev pub listed_tests : List TestDef → List Props → List ℕ → List Line
listed_tests defs props numbers =
    filter_map (λ number. listed_there number (at_number defs number) (at_number props number)) numbers

-- the labels of a test that was looked up; a disabled test has none here
abbrev pub labels_there : Option Props → List (List ℕ)
labels_there None = []
labels_there (Some props) = if props.disabled then [] else props.labels

-- the labels of the tests with these numbers, without the disabled tests
abbrev pub labels_among : List Props → List ℕ → List (List ℕ)
labels_among props numbers = flat_map (λ number. labels_there (at_number props number)) numbers

-- the lines of the list that a task asks for, for a folder, a configuration and these members. A run lists
-- its tests. The list for editors is one line without a header.
abbrev pub list_lines : Task → List ℕ → List ℕ → List TestDef → List Props → List ℕ → List (List ℕ)
list_lines Run dir config defs props members = test_list dir (listed_tests defs props members)
list_lines ListTests dir config defs props members = test_list dir (listed_tests defs props members)
list_lines ListLabels dir config defs props members = label_list (labels_among props members)
list_lines ListJson dir config defs props members = info_text (info_value defs members config) ∷ []

-- the lines of the list that an invocation asks for, of the tests that a choice selects
abbrev pub asked_lines : Invocation → Choice → List TestDef → List Props → List (List ℕ)
asked_lines invocation choice defs props =
    list_lines invocation.task invocation.wanted.dir invocation.config defs props
    (members_in choice defs props)

-- the words were read, and the tests that they ask for, and the names that the list is limited to, if any.
-- `P` holds of the lines of the list, the files stay, and nothing was run.
pub record HasList (s : Sides) (P : List (List ℕ) → Type 0) : Type 0 where
  pub invocation : Invocation
  pub words : AskFor s.words invocation
  pub defs : List TestDef
  pub props : List Props
  pub read : AreRead s.files.before.held invocation defs props
  pub only : Option (List (List ℕ))
  pub limits : AreOnly s.files.before.held invocation.rerun invocation.wanted.dir only
  pub files : FilesStay s.files.before s.files.after
  pub unrun : IsUnrun s
  pub holds : P (asked_lines invocation (choice_for invocation only) defs props)

-- memory ran out for a list: for the line of this outcome; or, with Memory,
-- before any line or behind a beginning of the list
abbrev pub IsShortList : Sides → Outcome → Type 0
IsShortList s (Usage word kind) =
    IsUsage s word kind
    × PutsLines (fault_line [] (Usage word kind) ∷ []) s.sink.before s.sink.after (Err Sinks.NoMemory)
IsShortList s (Refused refusal) =
    IsUnreadable s refusal
    × PutsLines (fault_line [] (Refused refusal) ∷ []) s.sink.before s.sink.after (Err Sinks.NoMemory)
IsShortList s (FilesFault path) =
    IsReadFault s ListFailsAt path
    × PutsLines (fault_line [] (FilesFault path) ∷ []) s.sink.before s.sink.after (Err Sinks.NoMemory)
IsShortList s Memory =
    IsUnrun s × FilesStay s.files.before s.files.after
    × (Tries (fault_line [] Memory) s.sink.before s.sink.after
    ⊎ HasList s (λ lines.
    ThenLine
    (λ middle. PutsLines lines s.sink.before middle (Err Sinks.NoMemory))
    (λ middle. Tries (fault_line [] Memory) middle s.sink.after)))
IsShortList s outcome = ⊥

-- what each outcome and status of a list means. In each case what the files hold stays, and no plan is made
-- or refused. Memory alone may come at any time.
abbrev pub AnswersList : Sides → Outcome → ℕ → Type 0
AnswersList s Completed status = ⊥
AnswersList s Listed status =
    HasList s (λ lines. PutsLines lines s.sink.before s.sink.after (Ok tt)) × (status ≡ 0)
AnswersList s (Usage word kind) status =
    IsUsage s word kind × PutsOrFails (fault_line [] (Usage word kind)) s.sink.before s.sink.after
    × (status ≡ 1)
AnswersList s (Refused refusal) status =
    IsUnreadable s refusal × PutsOrFails (fault_line [] (Refused refusal)) s.sink.before s.sink.after
    × (status ≡ 2)
AnswersList s (FilesFault path) status =
    IsReadFault s ListFailsAt path × PutsOrFails (fault_line [] (FilesFault path)) s.sink.before s.sink.after
    × (status ≡ 3)
AnswersList s OutputFault status =
    HasList s (λ lines. PutsLines lines s.sink.before s.sink.after (Err Sinks.Failed)) × (status ≡ 4)
AnswersList s Memory status = ((outcome : Outcome) × IsShortList s outcome) × (status ≡ 5)
