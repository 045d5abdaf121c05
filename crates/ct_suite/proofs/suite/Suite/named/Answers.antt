use Rattle.std.proofs.Common.{◌∙◌, ap, bytes_eq, count_by}
use Rattle.ct_base.specs.declared.defs.TestDef.{TestDef}
use Rattle.ct_suite.proofs.PlaceLemmas.{length-places}
use Rattle.ct_suite.proofs.SuiteLemmas.{tests_in, holds-same}
use Rattle.ct_suite.proofs.suite.Suite.named.Goals as goal

pub returns : goal.returns
returns c =
    let inside = c.deref.result.now in
    let holds = holds-same c.self.inside.kept.value inside c.deref.ensures c.self.invariant in
    length-places (λ (test : TestDef). test.name) c.args.name.now c.bytes.result.now inside.by_name.entries (tests_in inside) c.places_at.result.now c.bytes.ensures c.places_at.ensures holds.0
    ∙ ap (λ kept. count_by (λ (test : TestDef). bytes_eq c.args.name.now test.name) (tests_in kept)) c.deref.ensures
    ∙ ap (count_by (λ (test : TestDef). bytes_eq c.args.name.now test.name)) c.self.view_is
