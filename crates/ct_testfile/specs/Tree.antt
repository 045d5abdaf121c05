-- What a tree of test files defines, or its first refusal in reading order.
-- Source: CMake manual, ctest(1), subdirs and include.
-- The limits and the order of the refusals are this project's own.
use Rattle.std.specs.Prelude.{ℕ, zero, suc, false, nat_lt, codes, List, [], ◌∷◌, length, Option, Some, None, Result, Ok, Err, if◌then◌else◌}
use Rattle.ct_base.specs.Outside.{Held}
use Rattle.ct_base.specs.declared.defs.TestDef.{TestDef}
use Rattle.ct_lex.specs.Place.{beginning}
use Rattle.ct_lex.specs.Reads.{Ending, commands_read}
use Rattle.ct_lex.specs.declared.call.Call.{Call}
use Rattle.ct_lex.specs.declared.fault.LexFault.{LexFault}
use Rattle.ct_lex.specs.declared.fault.LexFault.TheVariants as lex
use Rattle.ct_suite.specs.Count.{raised}
use Rattle.ct_testfile.specs.Limits.{tree_limits}
use Rattle.ct_testfile.specs.Outcome.{◌>>=◌, or_refused, on_line}
use Rattle.ct_testfile.specs.Commands.{test_file, openings}
use Rattle.ct_testfile.specs.Ifs.{stepped}
use Rattle.ct_testfile.specs.declared.branch.OpenIf.{OpenIf}
use Rattle.ct_testfile.specs.declared.fault.ReadKind.{ReadKind}
use Rattle.ct_testfile.specs.declared.fault.ReadKind.TheVariants.{OpenString, OpenBracket, OpenCall, BadEscape, BadChar, BadReference, MissingInclude, UnpairedIf, TooDeep, TooLong}
use Rattle.ct_testfile.specs.declared.fault.ReadFault.{ReadFault}
use Rattle.ct_testfile.specs.declared.fault.ReadFault.TheVariants.{At, NoMemory}
use Rattle.ct_testfile.specs.declared.limits.Limits.{Limits}
use Rattle.ct_testfile.specs.declared.opening.Opening.{Opening}
use Rattle.ct_testfile.specs.declared.opening.TestFile.{TestFile}
use Rattle.ct_testfile.specs.declared.state.State.{State}

-- the fault of a text, as a refusal of its file
abbrev pub fault_in : List ℕ → LexFault → ReadFault
fault_in file (lex.OpenString line) = At file line OpenString
fault_in file (lex.OpenBracket line) = At file line OpenBracket
fault_in file (lex.OpenCall line) = At file line OpenCall
fault_in file (lex.BadEscape line) = At file line BadEscape
fault_in file (lex.BadChar line) = At file line BadChar
fault_in file (lex.BadReference line) = At file line BadReference
fault_in file lex.NoMemory = NoMemory

-- the end of a file: a fault of its text is the refusal; at the end of the text, each `if` has to be ended
abbrev pub ended : List ℕ → List OpenIf → State → Ending → Result State ReadFault
ended file ifs state (Some fault) = Err (fault_in file fault)
ended file [] state None = Ok state
ended file (inner ∷ outer) state None = Err (At file inner.line UnpairedIf)

-- how a text is read as a file that a command on a line of another file opens
abbrev pub FileReading : Type 0
FileReading = List ℕ → ℕ → TestFile → State → List ℕ → Result State ReadFault

-- a file that is absent: refused if it is required, else passed over
abbrev pub absent : Opening → State → Result State ReadKind
absent opening state = if opening.required then Err MissingInclude else Ok state

-- a file that a command opens: it is read if it is there
abbrev pub opened_by : FileReading → List ℕ → ℕ → Opening → State → Option (List ℕ) → Result State ReadFault
opened_by read file line opening state (Some text) = read file line opening.file state text
opened_by read file line opening state None = on_line file line (absent opening state)

-- the files that a command opens are read one after the other
abbrev pub all_opened : FileReading → Held → List ℕ → ℕ → List Opening → State → Result State ReadFault
all_opened read held file line [] state = Ok state
all_opened read held file line (opening ∷ more) state =
    opened_by read file line opening state (held opening.file.path) >>= all_opened read held file line more

-- the open ifs and the state behind one command of a file, with all the files that it opens
abbrev pub behind_call : FileReading → Limits → Held → TestFile → List OpenIf → State → Call
    → Result (List OpenIf × State) ReadFault
behind_call read limits held file ifs state call =
    on_line file.path call.line (stepped limits held file.dir ifs state call) >>= λ step.
    all_opened read held file.path call.line (openings file.dir step.opens) step.state >>= λ next.
    Ok (step.ifs, next)

-- the state behind these commands of a file and the end of its text
abbrev pub carried : FileReading
    → Limits → Held → TestFile → List OpenIf → State → List Call → Ending → Result State ReadFault
carried read limits held file ifs state [] ending = ended file.path ifs state ending
carried read limits held file ifs state (call ∷ calls) ending =
    behind_call read limits held file ifs state call
    >>= λ next. carried read limits held file next.0 next.1 calls ending

-- the state that also counts the bytes of a text, which is read as a file;
-- TooLong if this file, or all files together, are too long
abbrev pub admitted : Limits → List ℕ → State → Result State ReadKind
admitted limits text state =
    if nat_lt limits.file_bytes (length text) then Err TooLong
    else (or_refused
    (raised limits.all_file_bytes state.file_bytes (length text)) TooLong
    >>= λ n. Ok (record state { file_bytes = n }))

-- The state behind a text that is read as a file.
-- At most so many files may be open, this one and those inside it.
-- If no file may be open, the command that would open it is refused.
unfoldable pub nested : Limits → Held → ℕ → FileReading
nested limits held zero site line file state text = Err (At site line TooDeep)
nested limits held (suc more) site line file state text =
    on_line file.path 0 (admitted limits text state) >>= λ next.
    carried (nested limits held more) limits held file [] next (commands_read (beginning text)).0
    (commands_read (beginning text)).1

-- the state before the first command: only the variable CTEST_CONFIGURATION_TYPE is set, to the configuration
abbrev pub beginning_with : List ℕ → State
beginning_with config = record {
  tests = [];
  variables = record { name = codes "CTEST_CONFIGURATION_TYPE"; value = Some config } ∷ [];
  commands = 0;
  file_bytes = 0;
  value_bytes = 0;
}

-- the test file of the folder at the top, which is passed over if it is absent
abbrev pub top : List ℕ → Opening
top dir = record { file = test_file dir; required = false }

-- the state behind all files of the tree
abbrev pub read_through : Limits → Held → List ℕ → List ℕ → Result State ReadFault
read_through limits held dir config =
    opened_by (nested limits held limits.open_files) (test_file dir).path 0 (top dir)
    (beginning_with config) (held (test_file dir).path)

-- what the tree of test files under a folder defines within limits, or the first refusal in reading order
abbrev pub tree_within : Limits → Held → List ℕ → List ℕ → Result (List TestDef) ReadFault
tree_within limits held dir config = read_through limits held dir config >>= λ state. Ok state.tests

-- what the tree defines for a configuration within `tree_limits`, or the first refusal in reading order
abbrev pub tree_of : Held → List ℕ → List ℕ → Result (List TestDef) ReadFault
tree_of held dir config = tree_within tree_limits held dir config
