use Rattle.std.proofs.Common.{◌≡◌, ◌++◌, take}
use Rattle.std.specs.Process.{command_args, command_program}
use Rattle.ct_edge.proofs.command.add_arguments.Given as goal

abbrev pub invariant-loop-arg : goal.invariant-loop-arg
invariant-loop-arg l =
    (command_args l.command ≡ command_args l.initial.command ++ take l.arg-index l.args)
    × (command_program l.command ≡ command_program l.initial.command)
