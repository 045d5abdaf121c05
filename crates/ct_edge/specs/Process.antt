-- How the end of a program is answered, and with which
-- variables a program is started. This project's own.
use Rattle.std.specs.Prelude.{◌≡◌, ◌↔◌, ℕ, Bool, not, ◌==◌, ◌||◌, ◌&&◌, ◌<◌, length, All, IsUtf8, List, [], ◌∷◌, ◌++◌, codes, ℤ, pos, Option, Some, None, Result, Ok, Err, option_map, true, false, if◌then◌else◌}
use Rattle.std.specs.List.{list_any}
use Rattle.std.specs.Ordering.{int_eq}
use Rattle.std.specs.IoError.{error_kind}
use Rattle.std.specs.declared.io.Error.{Error}
use Rattle.std.specs.declared.io.ErrorKind.TheVariants as ErrorKind
use Rattle.std.specs.Process.{clears_env, command_var, exit_code}
use Rattle.std.specs.declared.process.command.Command.{Command}
use Rattle.std.specs.declared.process.status.ExitStatus.{ExitStatus}
use Rattle.ct_base.specs.Bytes.{slash}
use Rattle.ct_base.specs.declared.defs.Pair.{Pair}
use Rattle.ct_base.specs.Memory.{held_by}
use Rattle.ct_core.specs.declared.gate.Request.{Request}
use Rattle.ct_verdict.specs.declared.attempt.How.{How}
use Rattle.ct_verdict.specs.declared.attempt.How.TheVariants as Ends
use Rattle.ct_edge.specs.declared.command.Launch.{Launch}
use Rattle.ct_edge.specs.declared.command.Launch.TheVariants.{Program, Script}
use Rattle.ct_edge.specs.declared.fault.StartFault.{StartFault}
use Rattle.ct_edge.specs.declared.fault.StartFault.TheVariants as Fault

-- a program that has an exit code exited with it, and any other was ended by a signal
abbrev pub how_of_code : Option ℤ → How
how_of_code (Some code) = Ends.Exited code
how_of_code None = Ends.Signalled

-- how a program ended, or that it was stopped at its limit
abbrev pub how_of_end : Option ExitStatus → How
how_of_end (Some status) = how_of_code (exit_code status)
how_of_end None = Ends.TimedOut

-- a program ran: it exited, was ended by a signal, or was stopped at its limit
abbrev pub has_run : How → Bool
has_run (Ends.Exited code) = true
has_run Ends.Signalled = true
has_run Ends.TimedOut = true
has_run Ends.NotStarted = false
has_run (Ends.Lacks place) = false
has_run Ends.NoMemory = false

-- the fault for an error of the system: want of memory exactly if the error says so
abbrev pub IsFaultOf : Error → StartFault → Type 0
IsFaultOf e fault = (fault ≡ Fault.NoMemory) ↔ (error_kind e ≡ ErrorKind.OutOfMemory)

-- how an attempt ended, by the outcome of its run: as the program ended, not started, or want of memory
abbrev pub how_of_run : Result How StartFault → How
how_of_run (Ok how) = how
how_of_run (Err Fault.Failed) = Ends.NotStarted
how_of_run (Err Fault.NoMemory) = Ends.NoMemory

-- the number of an error of Linux that says that no descriptor or no process is left: EAGAIN, ENFILE, EMFILE
abbrev pub is_shortage : Option ℤ → Bool
is_shortage (Some code) = int_eq code (pos 11) || int_eq code (pos 23) || int_eq code (pos 24)
is_shortage None = false

-- the number of the error of Linux that says that a file is no program by its format: ENOEXEC
abbrev pub has_no_format : Option ℤ → Bool
has_no_format (Some code) = int_eq code (pos 8)
has_no_format None = false

-- a program is given these variables and no others; of several with the same name the last counts
pub record HasEnv {A : Type 0} (pairs : List Pair) (command : Command A) : Type 0 where
  pub alone : clears_env command ≡ true
  pub values : (name : List ℕ) → command_var command name ≡ option_map Some (held_by pairs name)

-- the name and the value of a variable are texts
abbrev pub IsTextPair : Pair → Type 0
IsTextPair pair = IsUtf8 pair.name × IsUtf8 pair.value

-- a program is named, and each word of the request that the system is given is a text
pub record AreTexts (request : Request) : Type 0 where
  pub named : 0 < length request.command
  pub command : All IsUtf8 request.command
  pub dir : IsUtf8 request.dir
  pub env : All IsTextPair request.env

-- a program is named without a `/`
abbrev pub is_bare : List ℕ → Bool
is_bare program = not (list_any (λ byte. byte == slash) program)

-- a program as the system looks it up: if it is beside the
-- test, by its path in the folder, else by its name
abbrev pub program_as : Bool → List ℕ → List ℕ
program_as beside program = if beside then codes "./" ++ program else program

-- the program of a command is looked up in the folders of PATH
abbrev pub is_looked_up : Bool → List (List ℕ) → Bool
is_looked_up beside [] = false
is_looked_up beside (program ∷ args) = not beside && is_bare program

-- a command as the system looks it up
abbrev pub found_as : Bool → List (List ℕ) → List (List ℕ)
found_as beside [] = []
found_as beside (program ∷ args) = program_as beside program ∷ args

-- the words that the system starts a command by: its own, or the shell in front of those of a script.
-- Source: POSIX, exec, execvp on a file that is no program by its format.
abbrev pub launched_as : Launch → List (List ℕ) → List (List ℕ)
launched_as Program words = words
launched_as Script words = codes "/bin/sh" ∷ words
