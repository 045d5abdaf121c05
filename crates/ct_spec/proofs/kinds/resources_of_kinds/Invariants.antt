use Rattle.std.proofs.Common.{◌≡◌, []}
use Rattle.ct_spec.proofs.ReadLemmas.{with_kinds}
use Rattle.ct_spec.proofs.kinds.resources_of_kinds.Given as goal

abbrev pub invariant-loop-kind : goal.invariant-loop-kind
invariant-loop-kind l = with_kinds l.resources l.kind-iterator ≡ with_kinds [] l.initial.kind-iterator
