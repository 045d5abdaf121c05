-- The next argument of a command, which is lent or made.
use Rattle.std.specs.Prelude.{ℕ, [], Option, option_map, Result, Ok, Err}
use Rattle.ct_lex.specs.Argument.{with_bytes}
use Rattle.ct_lex.specs.declared.call.Arg.{Arg}
use Rattle.ct_lex.specs.declared.call.NextArg.{NextArg}
use Rattle.ct_lex.specs.declared.call.NextArg.TheVariants.{Run, Made}

-- the argument that is lent or made; a lent run of bytes is its one part, and an empty run is no part
abbrev pub arg_of : NextArg → Arg
arg_of (Run kind bytes) = record { kind = kind; parts = with_bytes bytes.now [] }
arg_of (Made arg) = arg

-- an argument that is lent or made, with how many bytes it takes
abbrev pub read_as : NextArg × ℕ → Arg × ℕ
read_as x = (arg_of x.0, x.1)

-- the next argument, if there is one
abbrev pub next_arg : {E : Type 0} → Result (Option NextArg) E → Result (Option Arg) E
next_arg (Ok found) = Ok (option_map arg_of found)
next_arg (Err fault) = Err fault
