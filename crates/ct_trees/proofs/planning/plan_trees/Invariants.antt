use Rattle.std.specs.Option.{option_copied}
use Rattle.ct_args.specs.Invocation.{IsBounded}
use Rattle.ct_trees.proofs.ForestLemmas.{AreSoFar}
use Rattle.ct_trees.proofs.planning.plan_trees.Given as goal

abbrev pub invariant-loop-dir : goal.invariant-loop-dir
invariant-loop-dir g l = record {
  bounded : IsBounded l.invocation;
  so_far : AreSoFar l.fn.invocation l.invocation (option_copied l.spec) (g.F.Files.tells l.initial.files) (g.F.Files.tells l.files) l.yielded l.count l.trees;
}
