use Rattle.std.proofs.Common.{◌≡◌, ◌∙◌, ◌++◌, ◌∷◌, [], ap, map, length, arith, sym}
use Rattle.std.proofs.lemmas.List.{length-append, length-map, map_push}
use Rattle.ct_base.specs.declared.defs.TestDef.{TestDef}
use Rattle.ct_suite.specs.Tests.{most_bytes, new_test}
use Rattle.ct_suite.specs.Entries.{def_of, names_of, dirs_of}
use Rattle.ct_suite.proofs.PlaceLemmas.{AreIndexed-same, AreIndexed-noted}
use Rattle.ct_suite.proofs.ShortLemmas.{new_test-short, tests-pushed}
use Rattle.ct_suite.proofs.SuiteLemmas.{tests_in, holds-same}
use Rattle.ct_suite.proofs.suite.Suite.with_test.Goals as goal

pub invariant_of-result : goal.invariant_of-result
invariant_of-result c =
    let inside = c.deref_mut-inside.result.now in
    let holds = holds-same c.self.inside.kept.value inside c.deref_mut-inside.ensures.value c.self.invariant in
    let tests = inside.tests in
    let old = map def_of tests.items in
    let now = map def_of c.push.new.self.items in
    let made = new_test c.args.dir c.args.name c.args.command in
    let pushed : now ≡ old ++ made ∷ [] =
    ap (map def_of) c.in_ok-push.ensures.items
    ∙ map_push def_of tests.items c.new.result
    ∙ ap (λ test. old ++ test ∷ []) c.new.ensures in
    let name : names_of now ≡ names_of old ++ c.bytes.result.now ∷ [] =
    ap names_of pushed ∙ map_push (λ (test : TestDef). test.name) old made ∙ ap (λ n. names_of old ++ n ∷ []) (sym c.bytes.ensures) in
    let dir : dirs_of now ≡ dirs_of old ++ c.bytes-2.result.now ∷ [] =
    ap dirs_of pushed ∙ map_push (λ (test : TestDef). test.dir) old made ∙ ap (λ d. dirs_of old ++ d ∷ []) (sym c.bytes-2.ensures) in
    let at_name : c.len-place.result ≡ length (names_of old) =
    omega (arith, length-map old (λ (test : TestDef). test.name), length-map tests.items def_of, tests.ok.0, c.len-place.ensures) in
    let at_dir : c.len-place.result ≡ length (dirs_of old) =
    omega (arith, length-map old (λ (test : TestDef). test.dir), length-map tests.items def_of, tests.ok.0, c.len-place.ensures) in (
      AreIndexed-same c.note_place.new.places.entries (names_of old ++ c.bytes.result.now ∷ []) (names_of now) name (AreIndexed-noted inside.by_name.entries c.note_place.new.places.entries (names_of old) c.bytes.result.now c.len-place.result at_name c.in_ok-note_place.ensures holds.0),
      AreIndexed-same c.note_place-2.new.places.entries (dirs_of old ++ c.bytes-2.result.now ∷ []) (dirs_of now) dir (AreIndexed-noted inside.by_dir.entries c.note_place-2.new.places.entries (dirs_of old) c.bytes-2.result.now c.len-place.result at_dir c.in_ok-note_place-2.ensures holds.1),
      omega (arith, ap length pushed, length-append old (made ∷ []), ap (λ kept. length (tests_in kept)) c.deref_mut-inside.ensures.value, ap length c.self.view_is, c.requires.room),
      tests-pushed most_bytes old now made pushed holds.3 (new_test-short most_bytes c.args.dir c.args.name c.args.command c.requires.name c.requires.command),
    )
