-- What a call of this crate returns, in terms of the definitions. Memory may be wanting, and files may fail.
use Rattle.std.specs.Prelude.{◌≡◌, ◌≤◌, ◌<◌, ⊤, ℕ, List, [], ◌∷◌, length, Option, Some, None, Result, Ok, Err, IfErr, IfSome, IsSomeAnd}
use Rattle.ct_base.specs.Outside.{Becomes, FilesTell, Held, SameHeld, Rose}
use Rattle.ct_base.specs.declared.files.FilesFault.{FilesFault}
use Rattle.ct_base.specs.declared.files.FilesFault.TheVariants as Files
use Rattle.ct_lex.specs.Place.{Place}
use Rattle.ct_lex.specs.Reads.{commands_read}
use Rattle.ct_lex.specs.declared.call.Call.{Call}
use Rattle.ct_lex.specs.declared.fault.LexFault.{LexFault}
use Rattle.ct_suite.specs.declared.fault.ValueFault.{ValueFault}
use Rattle.ct_suite.specs.declared.fault.ValueFault.TheVariants as Values
use Rattle.ct_testfile.specs.Outcome.{on_line}
use Rattle.ct_testfile.specs.Tree.{FileReading, fault_in, nested}
use Rattle.ct_suite.specs.Tests.{most_bytes, most_tests}
use Rattle.ct_testfile.specs.declared.limits.Limits.{Limits}
use Rattle.ct_testfile.specs.declared.fault.ReadKind.{ReadKind}
use Rattle.ct_testfile.specs.declared.fault.ReadKind.TheVariants.{TooLong}
use Rattle.ct_testfile.specs.declared.fault.ReadFault.{ReadFault}
use Rattle.ct_testfile.specs.declared.fault.ReadFault.TheVariants.{At, FilesFailed, NoMemory}
use Rattle.ct_testfile.specs.declared.fault.Stop.{Stop}
use Rattle.ct_testfile.specs.declared.fault.Stop.TheVariants as stop
use Rattle.ct_testfile.specs.declared.open_file.OpenFile.{OpenFile}

-- the step returned what its definition says, unless memory was wanting
abbrev pub Follows : {A : Type 0} → Result A Stop → Result A ReadKind → Type 0
Follows (Ok x) says = says ≡ Ok x
Follows (Err (stop.Refused kind)) says = says ≡ Err kind
Follows (Err stop.NoMemory) says = ⊤

-- why a command is not carried out, if its arguments gave no values
abbrev pub stop_for : ValueFault → Stop
stop_for Values.TooLong = stop.Refused TooLong
stop_for Values.NoMemory = stop.NoMemory

-- the fault is the refusal that the definition says; faults of files and of memory are always allowed
abbrev pub IsRefusalOf : {A : Type 0} → Result A ReadFault → ReadFault → Type 0
IsRefusalOf says (At file line kind) = says ≡ Err (At file line kind)
IsRefusalOf says (FilesFailed path) = ⊤
IsRefusalOf says NoMemory = ⊤

-- the call returned what the definition says, or a fault of files or of memory
abbrev pub IsAnswerOf : {A : Type 0} → Result A ReadFault → Result A ReadFault → Type 0
IsAnswerOf says (Ok x) = says ≡ Ok x
IsAnswerOf says (Err fault) = IsRefusalOf says fault

-- the files tell what they hold, and they hold this
abbrev pub TellsHeld : Held → Option Held → Type 0
TellsHeld held told = IsSomeAnd told (λ now. SameHeld held now)

-- if the fault is one of the files, P holds for its path
abbrev pub IfFilesFailed : ReadFault → (List ℕ → Type 0) → Type 0
IfFilesFailed (At file line kind) P = ⊤
IfFilesFailed (FilesFailed path) P = P path
IfFilesFailed NoMemory P = ⊤

-- the answer is no fault of the files
abbrev pub Unfailed : {A : Type 0} → Result A ReadFault → Type 0
Unfailed (Ok x) = ⊤
Unfailed (Err (At file line kind)) = ⊤
Unfailed (Err (FilesFailed path)) = ⊥
Unfailed (Err NoMemory) = ⊤

-- the fault of a call on files, about this path
abbrev pub files_fault : List ℕ → FilesFault → ReadFault
files_fault path Files.Failed = FilesFailed path
files_fault path Files.NoMemory = NoMemory

-- if the answer is no fault of the files, P holds
abbrev pub IfUnfailed : {A : Type 0} → Result A ReadFault → Type 0 → Type 0
IfUnfailed (Err (FilesFailed path)) P = ⊤
IfUnfailed (Err (At file line kind)) P = P
IfUnfailed (Err NoMemory) P = P
IfUnfailed (Ok x) P = P

-- the files' count of faults rose, and their refused path, where they tell it, is this path
pub record IsRefused (before : ℕ) (now : FilesTell) (path : List ℕ) : Type 0 where
  pub rose : Rose before now.faults
  pub last : IfSome now.refused (λ last. last ≡ Some path)

-- the files' count of faults never falls. A fault of the files is returned only if the count rose,
-- for the path that they refused; without one, the count and the refused path stay.
-- Files that tell the refused path go on telling it
pub record HasFilesCause {A : Type 0} (before now : FilesTell) (result : Result A ReadFault) : Type 0 where
  pub told : Becomes before.refused now.refused (λ was last. ⊤)
  pub later : before.faults ≤ now.faults
  pub failed : IfErr result (λ fault. IfFilesFailed fault (IsRefused before.faults now))
  pub unfailed : IfUnfailed result (now.faults ≡ before.faults)
  pub unrefused : IfUnfailed result (now.refused ≡ before.refused)

-- a call that looks at files: it returns what the definition says of what they hold;
-- they still hold it; and a fault of the files has its cause
pub record Over
    {A : Type 0} (before now : FilesTell) (says : Held → Result A ReadFault) (result : Result A ReadFault)
    : Type 0 where
  pub answer : (held : Held) → TellsHeld held before.held → IsAnswerOf (says held) result
  pub kept : (held : Held) → TellsHeld held before.held → TellsHeld held now.held
  pub cause : HasFilesCause before now result

-- a call for a command of an open file:
-- it returns what `says` says, within the limits and in the folder of that file;
-- a refusal is on the line of the command
abbrev pub OverCall : {A : Type 0}
    → FilesTell → FilesTell → OpenFile → Call → (Limits → Held → List ℕ → Result A ReadKind)
    → Result A ReadFault → Type 0
OverCall before now here call says result =
    Over before now
    (λ held. on_line here.file.now.path call.line (says here.limits.now held here.file.now.dir)) result

-- how files that the commands of an open file open are read
abbrev pub inside : OpenFile → Held → FileReading
inside here held = nested here.limits.now held here.more

-- the fault is this refusal, or memory was wanting
abbrev pub IsAt : List ℕ → ℕ → ReadKind → ReadFault → Type 0
IsAt file line kind (At f l k) = At f l k ≡ At file line kind
IsAt file line kind (FilesFailed path) = ⊥
IsAt file line kind NoMemory = ⊤

-- the fault is that of a text in a file, or memory was wanting
abbrev pub IsFaultIn : List ℕ → LexFault → ReadFault → Type 0
IsFaultIn file fault (At f l k) = At f l k ≡ fault_in file fault
IsFaultIn file fault (FilesFailed path) = ⊥
IsFaultIn file fault NoMemory = ⊤

-- at this place the text has no more commands and ends with this fault, or memory was wanting
abbrev pub EndsWith : List ℕ → Place → ReadFault → Type 0
EndsWith file place (At f l k) =
    ((commands_read place).0 ≡ [])
    × IsSomeAnd (commands_read place).1 (λ fault. At f l k ≡ fault_in file fault)
EndsWith file place (FilesFailed path) = ⊥
EndsWith file place NoMemory = ⊤

-- the lexer returned the next command of a file and stands behind it, or the text has no more commands,
-- or it has no reading there
abbrev pub IsNextOf : List ℕ → Place → Place → Result (Option Call) ReadFault → Type 0
IsNextOf file old new (Ok (Some call)) =
    ((commands_read old).0 ≡ call ∷ (commands_read new).0)
    × ((commands_read old).1 ≡ (commands_read new).1)
    × (length new.rest < length old.rest)
IsNextOf file old new (Ok None) = ((commands_read old).0 ≡ []) × ((commands_read old).1 ≡ None)
IsNextOf file old new (Err fault) = EndsWith file old fault

-- limits within which lines can be counted; a tree has at most `most_tests` tests,
-- and a value has at most `most_bytes` bytes
pub record AreBounded (limits : Limits) : Type 0 where
  pub lines : limits.file_bytes < 4294967295
  pub values : limits.value_bytes ≤ most_bytes
  pub tests : limits.tests ≤ most_tests
