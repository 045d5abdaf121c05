use Rattle.std.proofs.Common.{◌≡◌, map}
use Rattle.ct_suite.specs.Entries.{def_of}
use Rattle.ct_suite.proofs.suite.defs_of.Given as goal

abbrev pub invariant-loop-test : goal.invariant-loop-test
invariant-loop-test l = l.defs ≡ map def_of l.yielded
