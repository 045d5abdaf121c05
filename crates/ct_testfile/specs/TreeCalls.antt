-- The calls on files that the reading of a tree makes, in order: a read each time that it opens a test file,
-- and each `EXISTS` that it evaluates. The list ends at a refusal. This project's own.
use Rattle.std.specs.Prelude.{◌≡◌, ℕ, zero, suc, Bool, true, false, codes, List, [], ◌∷◌, ◌++◌, Option, Some, None, Result, Ok, Err, if◌then◌else◌}
use Rattle.ct_base.specs.Outside.{Adds, AddsPrefix, Becomes, Held, path_of}
use Rattle.ct_base.specs.Path.{joined}
use Rattle.ct_base.specs.declared.file_call.FileCall.{FileCall}
use Rattle.ct_base.specs.declared.file_call.FileCall.TheVariants.{Exists, Read}
use Rattle.ct_lex.specs.Place.{beginning}
use Rattle.ct_lex.specs.Reads.{commands_read}
use Rattle.ct_lex.specs.declared.call.Call.{Call}
use Rattle.ct_suite.specs.declared.value.Value.{Value}
use Rattle.ct_testfile.specs.Limits.{tree_limits}
use Rattle.ct_testfile.specs.Outcome.{on_line}
use Rattle.ct_testfile.specs.Condition.{is_bare_word}
use Rattle.ct_testfile.specs.Commands.{begun, openings}
use Rattle.ct_testfile.specs.Ifs.{flow_of, is_live, stepped}
use Rattle.ct_testfile.specs.Tree.{FileReading, admitted, all_opened, beginning_with, nested, opened_by, top}
use Rattle.ct_testfile.specs.Says.{TellsHeld}
use Rattle.ct_testfile.specs.declared.branch.Branch.{Branch}
use Rattle.ct_testfile.specs.declared.branch.Branch.TheVariants.{Taken, Waiting, Over, ElseTaken, ElseOver, Idle}
use Rattle.ct_testfile.specs.declared.branch.OpenIf.{OpenIf}
use Rattle.ct_testfile.specs.declared.command.Flow.{Flow}
use Rattle.ct_testfile.specs.declared.command.Flow.TheVariants.{If, ElseIf, Else, EndIf}
use Rattle.ct_testfile.specs.declared.fault.ReadFault.{ReadFault}
use Rattle.ct_testfile.specs.declared.fault.ReadFault.TheVariants.{At, FilesFailed, NoMemory}
use Rattle.ct_testfile.specs.declared.limits.Limits.{Limits}
use Rattle.ct_testfile.specs.declared.opening.Opening.{Opening}
use Rattle.ct_testfile.specs.declared.opening.TestFile.{TestFile}
use Rattle.ct_testfile.specs.declared.state.State.{State}

-- the calls that come behind an outcome; none come behind a refusal
abbrev pub calls_behind : {A E : Type 0} → Result A E → (A → List FileCall) → List FileCall
calls_behind (Ok x) calls = calls x
calls_behind (Err refusal) calls = []

-- the call of a condition in these values: `EXISTS name` asks for what the name means in the folder
abbrev pub exists_calls : List ℕ → List Value → List FileCall
exists_calls dir (word ∷ name ∷ []) =
    if is_bare_word (codes "EXISTS") word then Exists (joined dir name.text) ∷ [] else []
exists_calls dir values = []

-- the calls of the condition in a command, whose arguments are evaluated first
abbrev pub condition_calls : Limits → List ℕ → Call → State → List FileCall
condition_calls limits dir call state =
    calls_behind (begun limits call.args state) (λ read. exists_calls dir read.0)

-- the `if` is one of which no branch was taken yet
abbrev pub is_untaken : Branch → Bool
is_untaken Waiting = true
is_untaken Taken = false
is_untaken Over = false
is_untaken ElseTaken = false
is_untaken ElseOver = false
is_untaken Idle = false

-- an `elseif` has its condition evaluated: no branch of the innermost open `if` was taken yet
abbrev pub is_open_to_elseif : List OpenIf → Bool
is_open_to_elseif [] = false
is_open_to_elseif (inner ∷ outer) = is_untaken inner.branch

-- a command has its condition evaluated: an `if` where commands are carried out, and an `elseif` where no
-- branch was taken yet
abbrev pub is_evaluated : Option Flow → List OpenIf → Bool
is_evaluated None ifs = false
is_evaluated (Some If) ifs = is_live ifs
is_evaluated (Some ElseIf) ifs = is_open_to_elseif ifs
is_evaluated (Some Else) ifs = false
is_evaluated (Some EndIf) ifs = false

-- the calls of a command, but for the files that it opens
abbrev pub command_calls : Limits → List ℕ → List OpenIf → State → Call → List FileCall
command_calls limits dir ifs state call =
    if is_evaluated (flow_of call.name) ifs then condition_calls limits dir call state else []

-- the calls that a text makes where it is read as a file
abbrev pub FileCalls : Type 0
FileCalls = TestFile → State → List ℕ → List FileCall

-- the calls of what a path holds, read as a file
abbrev pub held_calls : FileCalls → TestFile → State → Option (List ℕ) → List FileCall
held_calls calls file state None = []
held_calls calls file state (Some text) = calls file state text

-- the calls of a file that a command opens: its read, with the most bytes that a file may have;
-- then those of its text
abbrev pub opening_calls : FileCalls → Limits → Held → Opening → State → List FileCall
opening_calls calls limits held opening state =
    Read opening.file.path limits.file_bytes ∷ held_calls calls opening.file state (held opening.file.path)

-- the calls of the files that a command opens, one file after the other
abbrev pub opened_calls : FileReading
    → FileCalls → Limits → Held → List ℕ → ℕ → List Opening → State → List FileCall
opened_calls read calls limits held file line [] state = []
opened_calls read calls limits held file line (opening ∷ more) state =
    opening_calls calls limits held opening state
    ++ calls_behind (opened_by read file line opening state (held opening.file.path)) (λ next.
    opened_calls read calls limits held file line more next)

-- the calls of these commands of a file, each with the files that it opens
abbrev pub carried_calls : FileReading
    → FileCalls → Limits → Held → TestFile → List OpenIf → State → List Call → List FileCall
carried_calls read calls limits held file ifs state [] = []
carried_calls read calls limits held file ifs state (call ∷ more) =
    command_calls limits file.dir ifs state call
    ++ calls_behind (on_line file.path call.line (stepped limits held file.dir ifs state call)) (λ step.
    opened_calls read calls limits held file.path call.line (openings file.dir step.opens) step.state
    ++ calls_behind
    (all_opened read held file.path call.line (openings file.dir step.opens) step.state) (λ next.
    carried_calls read calls limits held file step.ifs next more))

-- the calls of a text that is read as a file, where so many files may be open
unfoldable pub nested_calls : Limits → Held → ℕ → FileCalls
nested_calls limits held zero file state text = []
nested_calls limits held (suc more) file state text =
    calls_behind (on_line file.path 0 (admitted limits text state)) (λ next.
    carried_calls (nested limits held more) (nested_calls limits held more) limits held file [] next
    (commands_read (beginning text)).0)

-- the calls of the reading of a tree within limits
abbrev pub calls_within : Limits → Held → List ℕ → List ℕ → List FileCall
calls_within limits held dir config =
    opening_calls (nested_calls limits held limits.open_files) limits held (top dir) (beginning_with config)

-- the calls of the reading of a tree within `tree_limits`
abbrev pub tree_calls : Held → List ℕ → List ℕ → List FileCall
tree_calls held dir config = calls_within tree_limits held dir config

-- the list has grown by a beginning of these calls, of which the last one is about this path
pub record AddsUpTo (path : List ℕ) (calls before now : List FileCall) : Type 0 where
  pub kept : List FileCall
  pub last : FileCall
  pub lost : List FileCall
  pub about : path_of last ≡ path
  pub parts : calls ≡ kept ++ last ∷ lost
  pub is : now ≡ before ++ kept ++ last ∷ []

-- which of these calls were made, where the files tell their calls: each of them, in order, for a value or a
-- refusal; those up to the call that failed; or some first ones where memory was wanting
abbrev pub MakesCalls : {A : Type 0}
    → List FileCall → Option (List FileCall) → Option (List FileCall) → Result A ReadFault → Type 0
MakesCalls calls before now (Ok x) = Becomes before now (Adds calls)
MakesCalls calls before now (Err (At file line kind)) = Becomes before now (Adds calls)
MakesCalls calls before now (Err (FilesFailed path)) = Becomes before now (AddsUpTo path calls)
MakesCalls calls before now (Err NoMemory) = Becomes before now (AddsPrefix calls)

-- which calls were made, by what the files tell that they hold
abbrev pub MakesCallsBy : {A : Type 0} → Option Held
    → (Held → List FileCall) → Option (List FileCall) → Option (List FileCall) → Result A ReadFault → Type 0
MakesCallsBy told calls before now result =
    (held : Held) → TellsHeld held told → MakesCalls (calls held) before now result
