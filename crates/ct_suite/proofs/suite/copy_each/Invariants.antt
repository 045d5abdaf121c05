use Rattle.std.proofs.Common.{◌≡◌, map, drop, vec_len}
use Rattle.ct_suite.specs.Tests.{taking_props}
use Rattle.ct_suite.specs.Entries.{changed_at, def_of}
use Rattle.ct_suite.proofs.suite.copy_each.Given as goal

abbrev pub invariant-loop-place : goal.invariant-loop-place
invariant-loop-place l = record {
  len : vec_len l.tests ≡ vec_len l.initial.tests;
  rest : changed_at (taking_props l.pairs) (drop l.place-index l.places) (map def_of l.tests.items) ≡ changed_at (taking_props l.pairs) l.places (map def_of l.initial.tests.items);
}
