-- Definitions for the law of `if`: how an `if` is written, and which of its commands are carried out.
-- Source: CMake manual, cmake-language(7), Conditional Blocks, and if.
-- This project's own: when commands are counted, and that a condition may be refused.
use Rattle.std.specs.Prelude.{◌≡◌, ℕ, zero, suc, Bool, codes, List, [], ◌∷◌, ◌++◌, Option, Some, None, IfSome, Result, Ok, if◌then◌else◌}
use Rattle.std.specs.List.{flat_map, AllByRecursion}
use Rattle.ct_base.specs.Outside.{Held}
use Rattle.ct_lex.specs.Reads.{Ending}
use Rattle.ct_lex.specs.declared.call.Call.{Call}
use Rattle.ct_testfile.specs.Outcome.{◌>>=◌, on_line}
use Rattle.ct_testfile.specs.Condition.{holds}
use Rattle.ct_testfile.specs.Commands.{begun, with_command}
use Rattle.ct_testfile.specs.Ifs.{flow_of}
use Rattle.ct_testfile.specs.Tree.{FileReading, carried}
use Rattle.ct_testfile.specs.declared.command.Flow.{Flow}
use Rattle.ct_testfile.specs.declared.command.Flow.TheVariants.{If, ElseIf, Else, EndIf}
use Rattle.ct_testfile.specs.declared.fault.ReadFault.{ReadFault}
use Rattle.ct_testfile.specs.declared.fault.ReadKind.{ReadKind}
use Rattle.ct_testfile.specs.declared.limits.Limits.{Limits}
use Rattle.ct_testfile.specs.declared.opening.TestFile.{TestFile}
use Rattle.ct_testfile.specs.declared.state.State.{State}

-- a branch as it is written: its `if`, `elseif` or `else`, and the commands behind that
pub record WrittenBranch : Type 0 where
  pub head : Call
  pub body : List Call

-- an `if` as it is written: its branch, the branches of `elseif`, that of `else`, and `endif`
pub record WrittenIf : Type 0 where
  pub first : WrittenBranch
  pub later : List WrittenBranch
  pub last : Option WrittenBranch
  pub end : Call

-- the commands of a branch, in the order of the file
abbrev pub calls_of : WrittenBranch → List Call
calls_of branch = branch.head ∷ branch.body

-- the commands of the branch of `else`, if there is one
abbrev pub else_calls : Option WrittenBranch → List Call
else_calls None = []
else_calls (Some branch) = calls_of branch

-- the commands from `if` to `endif`, in the order of the file
abbrev pub all_calls : WrittenIf → List Call
all_calls whole =
    (calls_of whole.first ++ flat_map calls_of whole.later) ++ (else_calls whole.last ++ whole.end ∷ [])

-- how many `if` are open behind a command, where so many are open in front of it;
-- None for an `elseif`, `else` or `endif` where none is open
abbrev pub open_behind : Option Flow → ℕ → Option ℕ
open_behind None count = Some count
open_behind (Some If) count = Some (suc count)
open_behind (Some ElseIf) zero = None
open_behind (Some ElseIf) (suc count) = Some (suc count)
open_behind (Some Else) zero = None
open_behind (Some Else) (suc count) = Some (suc count)
open_behind (Some EndIf) zero = None
open_behind (Some EndIf) (suc count) = Some count

-- how many `if` are open behind these commands, where so many are open in front of them
abbrev pub open_after : List Call → Option ℕ → Option ℕ
open_after [] count = count
open_after (call ∷ calls) None = None
open_after (call ∷ calls) (Some count) = open_after calls (open_behind (flow_of call.name) count)

-- Each `if` has its `endif` among these commands, and each `elseif`, `else` and `endif` has its `if`.
-- The order of `elseif` and `else` inside is left open.
abbrev pub AreWhole : List Call → Type 0
AreWhole calls = open_after calls (Some 0) ≡ Some 0

-- the branch begins with a command of this name, and its other commands are whole
pub record Begins (name : List ℕ) (branch : WrittenBranch) : Type 0 where
  pub head : branch.head.name ≡ name
  pub body : AreWhole branch.body

-- the branches begin with `if`, `elseif` and `else`, and the last command is `endif`
pub record IsIf (whole : WrittenIf) : Type 0 where
  pub first : Begins (codes "if") whole.first
  pub later : AllByRecursion (Begins (codes "elseif")) whole.later
  pub last : IfSome whole.last (Begins (codes "else"))
  pub end : whole.end.name ≡ codes "endif"

-- whether the condition in a command holds, and the state that counts the command and its values;
-- or the refusal
abbrev pub tested : Limits → Held → List ℕ → Call → State → Result (Bool × State) ReadKind
tested limits held dir call state =
    begun limits call.args state >>= λ read.
    holds held dir read.1.variables read.0 >>= λ is. Ok (is, read.1)

-- the commands behind `else`, and the state that counts it; without `else` no command
abbrev pub chosen_else : Limits
    → TestFile → State → Option WrittenBranch → Result (List Call × State) ReadFault
chosen_else limits file state None = Ok ([], state)
chosen_else limits file state (Some branch) =
    on_line file.path branch.head.line (with_command limits state) >>= λ next. Ok (branch.body, next)

-- The commands of the first branch whose condition holds, or those of `else` if none holds;
-- with them, the state behind the conditions that are evaluated, which are those up to that one.
-- If one of these is refused, that is the outcome.
abbrev pub chosen : Limits → Held → TestFile → Option WrittenBranch → State → List WrittenBranch
    → Result (List Call × State) ReadFault
chosen limits held file last state [] = chosen_else limits file state last
chosen limits held file last state (branch ∷ branches) =
    on_line file.path branch.head.line (tested limits held file.dir branch.head state) >>= λ found.
    if found.0 then Ok (branch.body, found.1) else chosen limits held file last found.1 branches

-- The state behind the rest of a file, from its next `if` on, as the manual says it:
-- conditions are evaluated, and then only the chosen commands stand in the place of the `if`.
-- No other `if` is open in front; behind the `if` come these commands and this ending.
abbrev pub carried_chosen : FileReading
    → Limits → Held → TestFile → State → WrittenIf → List Call → Ending → Result State ReadFault
carried_chosen read limits held file state whole rest ending =
    chosen limits held file whole.last state (whole.first ∷ whole.later) >>= λ found.
    carried read limits held file [] found.1 (found.0 ++ rest) ending

-- the state behind the rest of a file, where the commands in front are carried out as if they were all,
-- and then these commands and this ending come
abbrev pub carried_behind : FileReading
    → Limits → Held → TestFile → State → List Call → List Call → Ending → Result State ReadFault
carried_behind read limits held file state front rest ending =
    carried read limits held file [] state front None
    >>= λ next. carried read limits held file [] next rest ending
