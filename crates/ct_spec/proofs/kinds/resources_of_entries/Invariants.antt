use Rattle.std.proofs.Common.{◌≡◌, []}
use Rattle.ct_spec.specs.Ids.{AreIds}
use Rattle.ct_spec.proofs.ReadLemmas.{from_place, ids_of}
use Rattle.ct_spec.proofs.kinds.resources_of_entries.Given as goal

abbrev pub invariant-loop-place : goal.invariant-loop-place
invariant-loop-place l = (from_place l.kind l.entries l.place l.resources ≡ from_place l.kind l.entries 0 []) × AreIds l.ids (ids_of l.resources)
