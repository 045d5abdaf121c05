-- The outcome of a top call, its status and its line. Source: CMake manual, ctest(1), for the statuses 0 and
-- 8; else this project's own.
use Rattle.std.specs.Prelude.{ℕ, Bool, List, [], ◌∷◌, ◌++◌, length, map, flat_map, codes, decimal, Option, Some, None, ◌==◌, if◌then◌else◌}
use Rattle.ct_base.specs.declared.defs.TestDef.{TestDef}
use Rattle.ct_base.specs.declared.sink.SinkFault.{SinkFault}
use Rattle.ct_base.specs.declared.sink.SinkFault.TheVariants as Sinks
use Rattle.ct_testfile.specs.declared.fault.ReadFault.{ReadFault}
use Rattle.ct_testfile.specs.declared.fault.ReadFault.TheVariants as Read
use Rattle.ct_testfile.specs.declared.fault.ReadKind.{ReadKind}
use Rattle.ct_testfile.specs.declared.fault.ReadKind.TheVariants.{OpenString, OpenBracket, OpenCall, BadEscape, BadChar, BadReference, UnknownCommand, BadCall, MissingInclude, UnpairedIf, BadCondition, BadPattern, TooDeep, TooManyTests, TooManyCommands}
use Rattle.ct_props.specs.declared.fault.PropKind.{PropKind}
use Rattle.ct_props.specs.declared.fault.PropKind.TheVariants as Bad
use Rattle.ct_props.specs.declared.fault.PropFault.{PropFault}
use Rattle.ct_props.specs.declared.fault.PropFault.TheVariants as Props
use Rattle.ct_spec.specs.declared.fault.SpecFault.{SpecFault}
use Rattle.ct_spec.specs.declared.fault.SpecFault.TheVariants as Says
use Rattle.ct_args.specs.declared.usage.UsageKind.{UsageKind}
use Rattle.ct_args.specs.declared.usage.UsageKind.TheVariants as Word
use Rattle.ct_args.specs.declared.usage.UsageFault.{UsageFault}
use Rattle.ct_args.specs.declared.usage.UsageFault.TheVariants as Usages
use Rattle.ct_props.specs.Numbered.{at_number}
use Rattle.ct_history.specs.declared.plan.PlanParts.{PlanParts}
use Rattle.ct_history.specs.declared.history.Entry.{Entry}
use Rattle.ct_history.specs.Legal.{has_failing}
use Rattle.ct_app.specs.declared.spec_file.SpecFileFault.{SpecFileFault}
use Rattle.ct_app.specs.declared.spec_file.SpecFileFault.TheVariants as Named
use Rattle.ct_app.specs.declared.run_files.RunFileFault.{RunFileFault}
use Rattle.ct_app.specs.declared.run_files.RunFileFault.TheVariants as Files
use Rattle.ct_app.specs.declared.outcome.Refusal.{Refusal}
use Rattle.ct_app.specs.declared.outcome.Refusal.TheVariants.{TestFile, Prop, Spec, Cycle, TooManyEdges}
use Rattle.ct_app.specs.declared.outcome.SpecRefusal.{SpecRefusal}
use Rattle.ct_app.specs.declared.outcome.SpecRefusal.TheVariants as Specs
use Rattle.ct_app.specs.declared.outcome.Outcome.{Outcome}
use Rattle.ct_app.specs.declared.outcome.Outcome.TheVariants.{Completed, Listed, Usage, Refused, FilesFault, OutputFault, Memory}

-- the outcome of a call whose words have this fault
abbrev pub outcome_of_usage : UsageFault → Outcome
outcome_of_usage (Usages.At word kind) = Usage word kind
outcome_of_usage Usages.NoMemory = Memory

-- the outcome of a call whose test files have this fault
abbrev pub outcome_of : ReadFault → Outcome
outcome_of (Read.At file line kind) = Refused (TestFile file line kind)
outcome_of (Read.FilesFailed path) = FilesFault path
outcome_of Read.NoMemory = Memory

-- the outcome of a call where the properties of this test have this fault
abbrev pub outcome_of_prop : ℕ → PropFault → Outcome
outcome_of_prop test (Props.Bad key kind) = Refused (Prop test key kind)
outcome_of_prop test Props.NoMemory = Memory

-- the fault of the specification file whose text has this fault
abbrev pub fault_of_spec : SpecFault → SpecFileFault
fault_of_spec Says.NoMemory = Named.NoMemory
fault_of_spec fault = Named.Refused (Specs.Fault fault)

-- the outcome of a call whose specification file has this fault
abbrev pub outcome_of_spec : SpecFileFault → Outcome
outcome_of_spec (Named.Refused why) = Refused (Spec why)
outcome_of_spec (Named.Failed path) = FilesFault path
outcome_of_spec Named.NoMemory = Memory

-- the outcome of a call where the cost data or the log has this fault
abbrev pub outcome_of_file : RunFileFault → Outcome
outcome_of_file (Files.Failed path) = FilesFault path
outcome_of_file Files.NoMemory = Memory

-- the outcome of a call whose sink has this fault
abbrev pub outcome_of_sink : SinkFault → Outcome
outcome_of_sink Sinks.Failed = OutputFault
outcome_of_sink Sinks.NoMemory = Memory

-- a completed run failed: some verdict is of the failing class, or there is no test and that is an error
abbrev pub is_failed : Bool → PlanParts → List Entry → Bool
is_failed empty_is_error plan entries =
    if length plan.tests == 0 then empty_is_error else has_failing plan entries

-- the status of a completed run: 8 where it failed, else 0
abbrev pub status_of : Bool → PlanParts → List Entry → ℕ
status_of empty_is_error plan entries = if is_failed empty_is_error plan entries then 8 else 0

-- what is wrong with a word
abbrev pub usage_text : UsageKind → List ℕ
usage_text Word.UnknownOption = codes "unknown option"
usage_text Word.NoValue = codes "no value"
usage_text Word.BadNumber = codes "bad number"
usage_text Word.BadPattern = codes "bad pattern"
usage_text Word.Twice = codes "given twice"
usage_text Word.BadMode = codes "bad mode"

-- what is wrong with a line of a test file that passes a limit
abbrev pub limit_text : ReadKind → List ℕ
limit_text TooDeep = codes "files nest too deep"
limit_text TooManyTests = codes "too many tests"
limit_text TooManyCommands = codes "too many commands"
limit_text kind = codes "too much text"

-- what is wrong with a line of a test file that holds a command, or passes a limit
abbrev pub command_text : ReadKind → List ℕ
command_text UnknownCommand = codes "unknown command"
command_text BadCall = codes "bad arguments"
command_text MissingInclude = codes "included file is missing"
command_text UnpairedIf = codes "unpaired if"
command_text BadCondition = codes "bad condition"
command_text BadPattern = codes "bad pattern"
command_text kind = limit_text kind

-- what is wrong with a line of a test file
abbrev pub kind_text : ReadKind → List ℕ
kind_text OpenString = codes "unclosed quoted argument"
kind_text OpenBracket = codes "unclosed bracket"
kind_text OpenCall = codes "unclosed command"
kind_text BadEscape = codes "bad escape"
kind_text BadChar = codes "unexpected byte"
kind_text BadReference = codes "bad variable reference"
kind_text kind = command_text kind

-- what is wrong with a property
abbrev pub prop_text : PropKind → List ℕ
prop_text Bad.BadNumber = codes "bad number"
prop_text (Bad.BadPattern why) = codes "bad pattern"
prop_text (Bad.BadGroups why) = codes "bad resource groups"

-- what is wrong with a specification; no refusal holds NoMemory
abbrev pub spec_fault_text : SpecFault → List ℕ
spec_fault_text Says.NotJson = codes "not JSON"
spec_fault_text Says.BadVersion = codes "bad version"
spec_fault_text Says.BadLocal = codes "bad local"
spec_fault_text (Says.BadKind kind) = codes "bad type " ++ kind
spec_fault_text (Says.BadId kind entry) = codes "bad id in " ++ kind
spec_fault_text (Says.TwiceId kind entry) = codes "repeated id in " ++ kind
spec_fault_text (Says.BadSlots kind entry) = codes "bad slots in " ++ kind
spec_fault_text Says.TooMany = codes "too many resources"
spec_fault_text Says.NoMemory = codes "out of memory"

-- what is wrong with the file that declares the resources
abbrev pub spec_text : SpecRefusal → List ℕ
spec_text Specs.Absent = codes "absent"
spec_text Specs.TooLong = codes "too long"
spec_text (Specs.Fault fault) = spec_fault_text fault

-- the name of a test that was looked up; empty where there is none
abbrev pub name_there : Option TestDef → List ℕ
name_there None = []
name_there (Some def) = def.name

-- the names of the tests with these numbers
abbrev pub names_at : List TestDef → List ℕ → List (List ℕ)
names_at defs numbers = map (λ number. name_there (at_number defs number)) numbers

-- an arrow to each of these names
abbrev pub arrows_to : List (List ℕ) → List ℕ
arrows_to names = flat_map (λ name. codes " -> " ++ name) names

-- the text of a cycle of tests with these names: the first name comes again at the end
abbrev pub cycle_text : List (List ℕ) → List ℕ
cycle_text [] = codes "cycle: "
cycle_text (first ∷ others) = codes "cycle: " ++ first ++ arrows_to others ++ codes " -> " ++ first

-- what is refused, and why; the text of a cycle has these names
abbrev pub refusal_text : List (List ℕ) → Refusal → List ℕ
refusal_text names (TestFile file line kind) =
    file ++ codes ":" ++ decimal line ++ codes ": " ++ kind_text kind
refusal_text names (Prop test key kind) =
    codes "test " ++ decimal test ++ codes ": " ++ key ++ codes ": " ++ prop_text kind
refusal_text names (Spec why) = codes "resource specification: " ++ spec_text why
refusal_text names (Cycle tests) = cycle_text names
refusal_text names TooManyEdges = codes "too many dependencies"

-- the text of an outcome, empty for Completed, Listed and OutputFault; the text of a cycle has these names
abbrev pub outcome_text : List (List ℕ) → Outcome → List ℕ
outcome_text names Completed = []
outcome_text names Listed = []
outcome_text names (Usage word kind) = codes "word " ++ decimal word ++ codes ": " ++ usage_text kind
outcome_text names (Refused refusal) = refusal_text names refusal
outcome_text names (FilesFault path) = codes "cannot use file " ++ path
outcome_text names OutputFault = []
outcome_text names Memory = codes "out of memory"

-- the line of an outcome; the text of a cycle has these names of its tests
abbrev pub fault_line : List (List ℕ) → Outcome → List ℕ
fault_line names outcome = codes "ctest: " ++ outcome_text names outcome ++ codes "\n"

-- the exit status of each outcome but Completed
abbrev pub fault_status : Outcome → ℕ
fault_status Completed = 0
fault_status Listed = 0
fault_status (Usage word kind) = 1
fault_status (Refused refusal) = 2
fault_status (FilesFault path) = 3
fault_status OutputFault = 4
fault_status Memory = 5
