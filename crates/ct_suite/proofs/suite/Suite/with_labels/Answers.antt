use Rattle.std.proofs.Common.{◌≡◌, ◌∙◌, [], ap, sym, map, length, bytes_eq, vec_len, arith, refl}
use Rattle.std.proofs.lemmas.Bool.{eqb-true}
use Rattle.std.proofs.lemmas.List.{length-map, nil_from_length}
use Rattle.ct_base.specs.declared.defs.TestDef.{TestDef}
use Rattle.ct_suite.specs.Tests.{each_where, is_in_folder, most_bytes, taking_labels}
use Rattle.ct_suite.specs.Entries.{def_of, names_of, dirs_of}
use Rattle.ct_suite.proofs.PlaceLemmas.{changed-all, places-within, AreIndexed-same, keys-each_where, length-each_where}
use Rattle.ct_suite.proofs.ShortLemmas.{each_where-short, taking_labels-short, tests-same}
use Rattle.ct_suite.proofs.SuiteLemmas.{tests_in, holds-same, labels-none}
use Rattle.ct_suite.proofs.suite.Suite.with_labels.Goals as goal

pub returns-then-is_empty : goal.returns-then-is_empty
returns-then-is_empty c =
    let labels = c.args.labels.now in
    let none : labels ≡ [] = nil_from_length labels (eqb-true (length labels) 0 (sym c.is_empty.ensures ∙ c.if-is_empty.true)) in
    labels-none (is_in_folder c.args.dir.now) labels c.args.self none

pub label_each-requires : goal.label_each-requires
label_each-requires c =
    let inside = c.deref_mut-inside.result.now in
    let holds = holds-same c.self.inside.kept.value inside c.deref_mut-inside.ensures.value c.self.invariant in
    let tests = inside.tests in
    places-within (λ (test : TestDef). test.dir) c.bytes.result.now inside.by_dir.entries (tests_in inside) c.places_at-places.result.now (vec_len tests) c.places_at-places.ensures holds.1 (omega (arith, length-map tests.items def_of, tests.ok.0))

changed : (c : goal.In_ok-label_each) → map def_of c.label_each.new.tests.items ≡ each_where (λ (test : TestDef). bytes_eq c.args.dir.now test.dir) (taking_labels c.args.labels.now) (tests_in c.deref_mut-inside.result.now)
changed c =
    let inside = c.deref_mut-inside.result.now in
    let holds = holds-same c.self.inside.kept.value inside c.deref_mut-inside.ensures.value c.self.invariant in
    c.in_ok-label_each.ensures
    ∙ changed-all (taking_labels c.args.labels.now) (λ (test : TestDef). test.dir) c.args.dir.now c.bytes.result.now inside.by_dir.entries (tests_in inside) c.places_at-places.result.now c.bytes.ensures c.places_at-places.ensures holds.1

pub invariant_of-result : goal.invariant_of-result
invariant_of-result c =
    let inside = c.deref_mut-inside.result.now in
    let holds = holds-same c.self.inside.kept.value inside c.deref_mut-inside.ensures.value c.self.invariant in
    let old = tests_in inside in
    let now = map def_of c.label_each.new.tests.items in (
      AreIndexed-same inside.by_name.entries (names_of old) (names_of now) (ap names_of (changed c) ∙ keys-each_where (λ (test : TestDef). test.name) (λ (test : TestDef). bytes_eq c.args.dir.now test.dir) (taking_labels c.args.labels.now) (λ test. refl) old) holds.0,
      AreIndexed-same inside.by_dir.entries (dirs_of old) (dirs_of now) (ap dirs_of (changed c) ∙ keys-each_where (λ (test : TestDef). test.dir) (λ (test : TestDef). bytes_eq c.args.dir.now test.dir) (taking_labels c.args.labels.now) (λ test. refl) old) holds.1,
      omega (arith, ap length (changed c), length-each_where (λ (test : TestDef). bytes_eq c.args.dir.now test.dir) (taking_labels c.args.labels.now) old, holds.2),
      tests-same most_bytes (each_where (λ (test : TestDef). bytes_eq c.args.dir.now test.dir) (taking_labels c.args.labels.now) old) now (changed c) (each_where-short most_bytes (λ (test : TestDef). bytes_eq c.args.dir.now test.dir) (taking_labels c.args.labels.now) (taking_labels-short most_bytes c.args.labels.now c.requires) old holds.3),
    )

pub returns : goal.returns
returns c =
    changed c
    ∙ ap (λ kept. each_where (λ (test : TestDef). bytes_eq c.args.dir.now test.dir) (taking_labels c.args.labels.now) (tests_in kept)) c.deref_mut-inside.ensures.value
    ∙ ap (each_where (λ (test : TestDef). bytes_eq c.args.dir.now test.dir) (taking_labels c.args.labels.now)) c.self.view_is
