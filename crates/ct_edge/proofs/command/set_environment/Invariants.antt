use Rattle.std.proofs.Common.{take}
use Rattle.std.specs.Process.{SameDir, SameProgramAndArgs}
use Rattle.ct_edge.specs.Process.{HasEnv}
use Rattle.ct_edge.proofs.command.set_environment.Given as goal

abbrev pub invariant-loop-pair : goal.invariant-loop-pair
invariant-loop-pair l = record {
  env : HasEnv (take l.pair-index l.env) l.command;
  call : SameProgramAndArgs l.fn.command l.command;
  dir : SameDir l.fn.command l.command;
}
