-- What each command does to the state of a tree, in the folder of its file.
-- The limits and the order of the refusals are this project's own.
-- Source: CMake manual, add_test, set_tests_properties, set_directory_properties, subdirs, include and set.
use Rattle.std.specs.Prelude.{ℕ, ◌*◌, Bool, true, false, ◌||◌, ◌==◌, nat_le, bytes_eq, codes, List, [], ◌∷◌, ◌++◌, length, map, count_by, Result, Ok, Err, if◌then◌else◌}
use Rattle.std.specs.List.{list_any}
use Rattle.ct_base.specs.Bytes.{line_feed}
use Rattle.ct_base.specs.Path.{joined}
use Rattle.ct_base.specs.declared.defs.TestDef.{TestDef}
use Rattle.ct_lex.specs.declared.call.Arg.{Arg}
use Rattle.ct_suite.specs.Count.{raised}
use Rattle.ct_suite.specs.Values.{values_of, texts, size, is_too_long, with_variable}
use Rattle.ct_suite.specs.Words.{names_and_pairs, pairs_behind, list_value}
use Rattle.ct_suite.specs.Tests.{new_test, each_where, has_name_of, is_in_folder, taking_props, taking_labels, prop_bytes, label_bytes, labels_of}
use Rattle.ct_suite.specs.declared.limits.ValueLimits.{ValueLimits}
use Rattle.ct_suite.specs.declared.value.Value.{Value}
use Rattle.ct_testfile.specs.Outcome.{◌>>=◌, or_refused}
use Rattle.ct_testfile.specs.declared.command.Command.{Command}
use Rattle.ct_testfile.specs.declared.command.Command.TheVariants.{AddTest, SetTestsProperties, SetDirectoryProperties, Subdirs, Include, Set, Unknown}
use Rattle.ct_testfile.specs.declared.fault.ReadKind.{ReadKind}
use Rattle.ct_testfile.specs.declared.fault.ReadKind.TheVariants.{BadCall, UnknownCommand, TooManyTests, TooManyCommands, TooLong}
use Rattle.ct_testfile.specs.declared.limits.Limits.{Limits}
use Rattle.ct_testfile.specs.declared.opening.TestFile.{TestFile}
use Rattle.ct_testfile.specs.declared.opening.Opening.{Opening}
use Rattle.ct_testfile.specs.declared.opening.Opens.{Opens}
use Rattle.ct_testfile.specs.declared.state.State.{State}

-- the command of that name, which is in lower case
abbrev pub command_of : List ℕ → Command
command_of name =
    if bytes_eq name (codes "add_test") then AddTest
    else (if bytes_eq name (codes "set_tests_properties") then SetTestsProperties
    else (if bytes_eq name (codes "set_directory_properties") then SetDirectoryProperties
    else (if bytes_eq name (codes "subdirs") then Subdirs
    else (if bytes_eq name (codes "include") then Include
    else (if bytes_eq name (codes "set") then Set
    else Unknown)))))

-- how long the values of one command may be
abbrev pub value_limits : Limits → ValueLimits
value_limits limits = record { value_bytes = limits.value_bytes; all_value_bytes = limits.all_value_bytes }

-- the state with one more command counted, or TooManyCommands
abbrev pub with_command : Limits → State → Result State ReadKind
with_command limits state =
    or_refused
    (raised limits.commands state.commands 1) TooManyCommands >>= λ n. Ok (record state { commands = n })

-- the state with so many more bytes of values counted, or TooLong
abbrev pub taken : Limits → ℕ → State → Result State ReadKind
taken limits bytes state =
    or_refused
    (raised limits.all_value_bytes state.value_bytes bytes) TooLong
    >>= λ n. Ok (record state { value_bytes = n })

-- the values, and the state with their bytes counted; TooLong if one value, or all of the tree, are too long
abbrev pub evaluated : Limits → List Value → State → Result (List Value × State) ReadKind
evaluated limits values state =
    if list_any (is_too_long limits.value_bytes) values then Err TooLong
    else (taken limits (size values) state >>= λ next. Ok (values, next))

-- a command begins: it is counted, and then its arguments are evaluated
abbrev pub begun : Limits → List Arg → State → Result (List Value × State) ReadKind
begun limits args state = with_command limits state >>= evaluated limits (values_of state.variables args)

-- no test may have this name: it is empty, or has a line feed
abbrev pub is_bad_name : List ℕ → Bool
is_bad_name name = length name == 0 || list_any (λ (byte : ℕ). byte == line_feed) name

-- there is no room for one more test
abbrev pub is_full : Limits → List TestDef → Bool
is_full limits tests = nat_le limits.tests (length tests)

-- add_test(name command ..), where the command has one value or more
abbrev pub add_test : Limits → List ℕ → List (List ℕ) → State → Result State ReadKind
add_test limits dir [] state = Err BadCall
add_test limits dir (name ∷ command) state =
    if length command == 0 || is_bad_name name then Err BadCall
    else (if is_full limits state.tests then Err TooManyTests
    else (taken limits (length dir) state
    >>= λ next. Ok (record next { tests = next.tests ++ new_test dir name command ∷ [] })))

-- set_tests_properties(name .. PROPERTIES key value ..):
-- each test with one of the names takes the properties;
-- the bytes of a value count once for each of these tests
abbrev pub set_tests_properties : Limits → List (List ℕ) → State → Result State ReadKind
set_tests_properties limits values state =
    or_refused (names_and_pairs values) BadCall >>= λ read.
    taken limits (count_by (has_name_of read.0) state.tests * prop_bytes read.1) state >>= λ next.
    Ok (record next { tests = each_where (has_name_of read.0) (taking_props read.1) next.tests })

-- set_directory_properties(PROPERTIES key value ..):
-- each test of the folder takes the labels; the bytes of a value of LABELS count once for each of these tests
abbrev pub set_directory_properties : Limits → List ℕ → List (List ℕ) → State → Result State ReadKind
set_directory_properties limits dir values state =
    or_refused (pairs_behind values) BadCall >>= λ pairs.
    taken limits (count_by (is_in_folder dir) state.tests * label_bytes pairs) state >>= λ next.
    Ok (record next { tests = each_where (is_in_folder dir) (taking_labels (labels_of pairs)) next.tests })

-- set(name value ..): without a value the variable is no longer set
abbrev pub set : List (List ℕ) → State → Result State ReadKind
set [] state = Err BadCall
set (name ∷ values) state =
    Ok
    (record state {
      variables = with_variable state.variables (record { name = name; value = list_value values });
    })

-- a command that opens nothing
abbrev pub no_files : Opens
no_files = record { required = false; names = [] }

-- a command that opens the test files of these folders
abbrev pub folders : List (List ℕ) → Opens
folders names = record { required = false; names = names }

-- a command that opens these files, which have to be there
abbrev pub files : List (List ℕ) → Opens
files names = record { required = true; names = names }

-- include(file), which opens the file
abbrev pub included : List (List ℕ) → State → Result (State × Opens) ReadKind
included (name ∷ []) state = Ok (state, files (name ∷ []))
included values state = Err BadCall

-- the outcome of a command that opens nothing
abbrev pub opening_nothing : Result State ReadKind → Result (State × Opens) ReadKind
opening_nothing done = done >>= λ state. Ok (state, no_files)

-- what a command with these values does, in this folder
abbrev pub performed : Limits → List ℕ → Command → List (List ℕ) → State → Result (State × Opens) ReadKind
performed limits dir AddTest values state = opening_nothing (add_test limits dir values state)
performed limits dir SetTestsProperties values state =
    opening_nothing (set_tests_properties limits values state)
performed limits dir SetDirectoryProperties values state =
    opening_nothing (set_directory_properties limits dir values state)
performed limits dir Subdirs values state = Ok (state, folders values)
performed limits dir Include values state = included values state
performed limits dir Set values state = opening_nothing (set values state)
performed limits dir Unknown values state = Err UnknownCommand

-- a command is carried out: it begins, and then acts on the texts of its values
abbrev pub carried_out : Limits → List ℕ → Command → List Arg → State → Result (State × Opens) ReadKind
carried_out limits dir command args state =
    begun limits args state >>= λ read. performed limits dir command (texts read.0) read.1

-- the test file of a folder
abbrev pub test_file : List ℕ → TestFile
test_file dir = record { path = joined dir (codes "CTestTestfile.cmake"); dir = dir }

-- the file that a name means in a folder: a file that has to be there,
-- or the test file of a folder, which may be absent
abbrev pub opening_of : List ℕ → Bool → List ℕ → Opening
opening_of dir true name = record { file = record { path = joined dir name; dir = dir }; required = true }
opening_of dir false name = record { file = test_file (joined dir name); required = false }

-- the files that are opened from a folder, in order
abbrev pub openings : List ℕ → Opens → List Opening
openings dir opens = map (opening_of dir opens.required) opens.names
