-- The commands `if`, `elseif`, `else` and `endif`, and which commands between them are carried out.
-- Source: CMake manual, if. This project's own: when commands are counted and conditions evaluated.
use Rattle.std.specs.Prelude.{ℕ, Bool, true, false, bytes_eq, codes, List, [], ◌∷◌, Option, Some, None, Result, Ok, Err, if◌then◌else◌}
use Rattle.ct_base.specs.Outside.{Held}
use Rattle.ct_lex.specs.declared.call.Call.{Call}
use Rattle.ct_testfile.specs.Outcome.{◌>>=◌}
use Rattle.ct_testfile.specs.Condition.{holds}
use Rattle.ct_testfile.specs.Commands.{begun, with_command, carried_out, command_of, no_files}
use Rattle.ct_testfile.specs.declared.branch.Branch.{Branch}
use Rattle.ct_testfile.specs.declared.branch.Branch.TheVariants.{Taken, Waiting, Over, ElseTaken, ElseOver, Idle}
use Rattle.ct_testfile.specs.declared.branch.OpenIf.{OpenIf}
use Rattle.ct_testfile.specs.declared.command.Flow.{Flow}
use Rattle.ct_testfile.specs.declared.command.Flow.TheVariants.{If, ElseIf, Else, EndIf}
use Rattle.ct_testfile.specs.declared.fault.ReadKind.{ReadKind}
use Rattle.ct_testfile.specs.declared.fault.ReadKind.TheVariants.{UnpairedIf}
use Rattle.ct_testfile.specs.declared.limits.Limits.{Limits}
use Rattle.ct_testfile.specs.declared.state.State.{State}
use Rattle.ct_testfile.specs.declared.step.Step.{Step}

-- the command `if`, `elseif`, `else` or `endif` that a name in lower case means
abbrev pub flow_of : List ℕ → Option Flow
flow_of name =
    if bytes_eq name (codes "if") then Some If
    else (if bytes_eq name (codes "elseif") then Some ElseIf
    else (if bytes_eq name (codes "else") then Some Else
    else (if bytes_eq name (codes "endif") then Some EndIf
    else None)))

-- the commands of the branch are carried out
abbrev pub is_taken : Branch → Bool
is_taken Taken = true
is_taken Waiting = false
is_taken Over = false
is_taken ElseTaken = true
is_taken ElseOver = false
is_taken Idle = false

-- commands are carried out here: no `if` is open, or the branch of the innermost open `if` is carried out
abbrev pub is_live : List OpenIf → Bool
is_live [] = true
is_live (inner ∷ outer) = is_taken inner.branch

-- the innermost open `if`, and the others
abbrev pub innermost : List OpenIf → Option (OpenIf × List OpenIf)
innermost [] = None
innermost (inner ∷ outer) = Some (inner, outer)

-- a condition is evaluated: its command is counted, and the branch is taken if the condition holds
abbrev pub asked : Limits → Held → List ℕ → Call → State → Result (Branch × State) ReadKind
asked limits held dir call state =
    begun limits call.args state >>= λ read.
    holds held dir read.1.variables read.0 >>= λ is. Ok (if is then Taken else Waiting, read.1)

-- the branch behind `if`; no condition is evaluated where the whole `if` is passed over
abbrev pub behind_if : Limits → Held → List ℕ → Call → State → Bool → Result (Branch × State) ReadKind
behind_if limits held dir call state true = asked limits held dir call state
behind_if limits held dir call state false = Ok (Idle, state)

-- the branch behind `elseif`: its condition is evaluated if no branch was taken yet;
-- an `elseif` behind `else` is refused
abbrev pub behind_elseif : Limits → Held → List ℕ → Call → State → Branch → Result (Branch × State) ReadKind
behind_elseif limits held dir call state Waiting = asked limits held dir call state
behind_elseif limits held dir call state Taken = Ok (Over, state)
behind_elseif limits held dir call state Over = Ok (Over, state)
behind_elseif limits held dir call state ElseTaken = Err UnpairedIf
behind_elseif limits held dir call state ElseOver = Err UnpairedIf
behind_elseif limits held dir call state Idle = Ok (Idle, state)

-- the branch behind `else`, which is counted if its commands are carried out; a second `else` is refused
abbrev pub behind_else : Limits → State → Branch → Result (Branch × State) ReadKind
behind_else limits state Waiting = with_command limits state >>= λ next. Ok (ElseTaken, next)
behind_else limits state Taken = Ok (ElseOver, state)
behind_else limits state Over = Ok (ElseOver, state)
behind_else limits state ElseTaken = Err UnpairedIf
behind_else limits state ElseOver = Err UnpairedIf
behind_else limits state Idle = Ok (Idle, state)

-- the step behind a command of an `if`: the innermost open `if` now has this branch
abbrev pub in_branch : ℕ → List OpenIf → Branch × State → Step
in_branch line outer found = record {
  ifs = record { line = line; branch = found.0 } ∷ outer;
  state = found.1;
  opens = no_files;
}

-- the step behind `if`
abbrev pub begun_if : Limits → Held → List ℕ → Call → List OpenIf → State → Result Step ReadKind
begun_if limits held dir call ifs state =
    behind_if limits held dir call state (is_live ifs) >>= λ found. Ok (in_branch call.line ifs found)

-- the step behind `elseif`, which belongs to the innermost open `if`
abbrev pub continued : Limits → Held → List ℕ → Call → List OpenIf → State → Result Step ReadKind
continued limits held dir call [] state = Err UnpairedIf
continued limits held dir call (inner ∷ outer) state =
    behind_elseif limits held dir call state inner.branch >>= λ found. Ok (in_branch inner.line outer found)

-- the step behind `else`, which belongs to the innermost open `if`
abbrev pub begun_else : Limits → List OpenIf → State → Result Step ReadKind
begun_else limits [] state = Err UnpairedIf
begun_else limits (inner ∷ outer) state =
    behind_else limits state inner.branch >>= λ found. Ok (in_branch inner.line outer found)

-- the step behind `endif`, which ends the innermost open `if`
abbrev pub left : List OpenIf → State → Result Step ReadKind
left [] state = Err UnpairedIf
left (inner ∷ outer) state = Ok (record { ifs = outer; state = state; opens = no_files })

-- the step behind a command of an `if`
abbrev pub flowed : Limits → Held → List ℕ → Call → List OpenIf → State → Flow → Result Step ReadKind
flowed limits held dir call ifs state If = begun_if limits held dir call ifs state
flowed limits held dir call ifs state ElseIf = continued limits held dir call ifs state
flowed limits held dir call ifs state Else = begun_else limits ifs state
flowed limits held dir call ifs state EndIf = left ifs state

-- the step behind another command, which is carried out or passed over
abbrev pub done : Limits → List ℕ → Call → List OpenIf → State → Bool → Result Step ReadKind
done limits dir call ifs state true =
    carried_out limits dir
    (command_of call.name) call.args state
    >>= λ next. Ok (record { ifs = ifs; state = next.0; opens = next.1 })
done limits dir call ifs state false = Ok (record { ifs = ifs; state = state; opens = no_files })

-- the step behind a command, given whether it is one of an `if`
abbrev pub stepped_by : Limits
    → Held → List ℕ → Call → List OpenIf → State → Option Flow → Result Step ReadKind
stepped_by limits held dir call ifs state (Some flow) = flowed limits held dir call ifs state flow
stepped_by limits held dir call ifs state None = done limits dir call ifs state (is_live ifs)

-- the step behind a command of a file in this folder
abbrev pub stepped : Limits → Held → List ℕ → List OpenIf → State → Call → Result Step ReadKind
stepped limits held dir ifs state call = stepped_by limits held dir call ifs state (flow_of call.name)
