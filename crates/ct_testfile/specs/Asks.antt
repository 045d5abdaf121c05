-- Which paths the reading of a tree asks the files for: each test file that it opens, and the path of
-- each `EXISTS` that it evaluates. This project's own.
use Rattle.std.specs.Prelude.{◌≡◌, ◌⊎◌, ℕ, zero, suc, true, List, [], ◌∷◌, Option, Some, None, Result, IfErr, IfSome, IsOkAnd, IsSomeAnd}
use Rattle.ct_base.specs.Outside.{Held}
use Rattle.ct_base.specs.Path.{joined}
use Rattle.ct_lex.specs.Place.{beginning}
use Rattle.ct_lex.specs.Reads.{commands_read}
use Rattle.ct_lex.specs.declared.call.Call.{Call}
use Rattle.ct_suite.specs.declared.value.Value.{Value}
use Rattle.ct_testfile.specs.Limits.{tree_limits}
use Rattle.ct_testfile.specs.Outcome.{on_line}
use Rattle.ct_testfile.specs.Condition.{is_exists}
use Rattle.ct_testfile.specs.Commands.{begun, openings}
use Rattle.ct_testfile.specs.Ifs.{flow_of, innermost, is_live, stepped}
use Rattle.ct_testfile.specs.Tree.{FileReading, admitted, beginning_with, behind_call, nested, opened_by, top}
use Rattle.ct_testfile.specs.Says.{IfFilesFailed, TellsHeld}
use Rattle.ct_testfile.specs.declared.branch.Branch.TheVariants.{Waiting}
use Rattle.ct_testfile.specs.declared.branch.OpenIf.{OpenIf}
use Rattle.ct_testfile.specs.declared.command.Flow.{Flow}
use Rattle.ct_testfile.specs.declared.command.Flow.TheVariants.{If, ElseIf, Else, EndIf}
use Rattle.ct_testfile.specs.declared.fault.ReadFault.{ReadFault}
use Rattle.ct_testfile.specs.declared.limits.Limits.{Limits}
use Rattle.ct_testfile.specs.declared.opening.Opening.{Opening}
use Rattle.ct_testfile.specs.declared.opening.TestFile.{TestFile}
use Rattle.ct_testfile.specs.declared.state.State.{State}

-- the values are `EXISTS name`, and the path is what the name means in the folder
abbrev pub NamesPath : List ℕ → List Value → List ℕ → Type 0
NamesPath dir (word ∷ name ∷ []) path = (is_exists (word ∷ name ∷ []) ≡ true) × (path ≡ joined dir name.text)
NamesPath dir values path = ⊥

-- the condition in a command asks for this path
abbrev pub ConditionAsks : Limits → List ℕ → Call → State → List ℕ → Type 0
ConditionAsks limits dir call state path =
    IsOkAnd (begun limits call.args state) (λ read. NamesPath dir read.0 path)

-- a command of an `if` has its condition evaluated: an `if` where commands are carried out, and an `elseif`
-- where no branch was taken yet
abbrev pub IsEvaluated : Option Flow → List OpenIf → Type 0
IsEvaluated None ifs = ⊥
IsEvaluated (Some If) ifs = is_live ifs ≡ true
IsEvaluated (Some ElseIf) ifs = IsSomeAnd (innermost ifs) (λ found. found.0.branch ≡ Waiting)
IsEvaluated (Some Else) ifs = ⊥
IsEvaluated (Some EndIf) ifs = ⊥

-- a command, but for the files that it opens, asks for this path
abbrev pub CallAsks : Limits → List ℕ → List OpenIf → State → Call → List ℕ → Type 0
CallAsks limits dir ifs state call path =
    IsEvaluated (flow_of call.name) ifs × ConditionAsks limits dir call state path

-- how a text asks for a path, where it is read as a file
abbrev pub FileAsking : Type 1
FileAsking = TestFile → State → List ℕ → List ℕ → Type 0

-- a file that a command opens asks for this path: for its own, or for one of its text
abbrev pub OpeningAsks : FileAsking → Held → Opening → State → List ℕ → Type 0
OpeningAsks asks held opening state path =
    (path ≡ opening.file.path)
    ⊎ IsSomeAnd (held opening.file.path) (λ text. asks opening.file state text path)

-- one of the files that a command opens, behind those in front of it, asks for this path
abbrev pub OpenedAsk : FileReading → FileAsking → Held → List ℕ → ℕ → List Opening → State → List ℕ → Type 0
OpenedAsk read asks held file line [] state path = ⊥
OpenedAsk read asks held file line (opening ∷ more) state path =
    OpeningAsks asks held opening state path
    ⊎ IsOkAnd (opened_by read file line opening state (held opening.file.path)) (λ next.
    OpenedAsk read asks held file line more next path)

-- one of these commands of a file, behind those in front of it, asks for this path
abbrev pub CarriedAsk : FileReading
    → FileAsking → Limits → Held → TestFile → List OpenIf → State → List Call → List ℕ → Type 0
CarriedAsk read asks limits held file ifs state [] path = ⊥
CarriedAsk read asks limits held file ifs state (call ∷ calls) path =
    CallAsks limits file.dir ifs state call path
    ⊎ IsOkAnd (on_line file.path call.line (stepped limits held file.dir ifs state call)) (λ step.
    OpenedAsk read asks held file.path call.line (openings file.dir step.opens) step.state path)
    ⊎ IsOkAnd (behind_call read limits held file ifs state call) (λ next.
    CarriedAsk read asks limits held file next.0 next.1 calls path)

-- a text that is read as a file, where so many files may be open, asks for this path
unfoldable pub NestedAsks : Limits → Held → ℕ → FileAsking
NestedAsks limits held zero file state text path = ⊥
NestedAsks limits held (suc more) file state text path =
    IsOkAnd (on_line file.path 0 (admitted limits text state)) (λ next.
    CarriedAsk (nested limits held more) (NestedAsks limits held more) limits held file [] next
    (commands_read (beginning text)).0 path)

-- the reading of a tree within limits asks for this path
abbrev pub AsksWithin : Limits → Held → List ℕ → List ℕ → List ℕ → Type 0
AsksWithin limits held dir config path =
    OpeningAsks (NestedAsks limits held limits.open_files) held (top dir) (beginning_with config) path

-- the reading of a tree within `tree_limits` asks for this path
abbrev pub TreeAsks : Held → List ℕ → List ℕ → List ℕ → Type 0
TreeAsks held dir config path = AsksWithin tree_limits held dir config path

-- a fault of the files is about a path that is asked for
abbrev pub Blames : {A : Type 0} → (List ℕ → Type 0) → Result A ReadFault → Type 0
Blames asks result = IfErr result (λ fault. IfFilesFailed fault asks)

-- a fault of the files is about a path that is asked for, by what the files tell that they hold
abbrev pub BlamesBy : {A : Type 0} → Option Held → (Held → List ℕ → Type 0) → Result A ReadFault → Type 0
BlamesBy told asks result = (held : Held) → TellsHeld held told → Blames (asks held) result
