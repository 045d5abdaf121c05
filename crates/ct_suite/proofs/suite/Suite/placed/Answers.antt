use Rattle.std.proofs.Common.{◌∙◌, ap, bytes_eq, count_by}
use Rattle.ct_base.specs.declared.defs.TestDef.{TestDef}
use Rattle.ct_suite.proofs.PlaceLemmas.{length-places}
use Rattle.ct_suite.proofs.SuiteLemmas.{tests_in, holds-same}
use Rattle.ct_suite.proofs.suite.Suite.placed.Goals as goal

pub returns : goal.returns
returns c =
    let inside = c.deref.result.now in
    let holds = holds-same c.self.inside.kept.value inside c.deref.ensures c.self.invariant in
    length-places (λ (test : TestDef). test.dir) c.args.dir.now c.bytes.result.now inside.by_dir.entries (tests_in inside) c.places_at.result.now c.bytes.ensures c.places_at.ensures holds.1
    ∙ ap (λ kept. count_by (λ (test : TestDef). bytes_eq c.args.dir.now test.dir) (tests_in kept)) c.deref.ensures
    ∙ ap (count_by (λ (test : TestDef). bytes_eq c.args.dir.now test.dir)) c.self.view_is
