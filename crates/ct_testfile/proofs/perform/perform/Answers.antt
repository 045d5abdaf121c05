use Rattle.std.proofs.Common.{refl, ap, sym, ◌∙◌, subst, Result, Ok}
use Rattle.ct_testfile.specs.declared.fault.ReadKind.{ReadKind}
use Rattle.ct_testfile.specs.declared.opening.Opens.{Opens}
use Rattle.ct_testfile.specs.declared.state.State.{State}
use Rattle.ct_suite.specs.Tests.{AreShort, most_bytes}
use Rattle.ct_suite.specs.Values.{texts}
use Rattle.ct_testfile.specs.Commands.{add_test, set_tests_properties, set_directory_properties, set, folders}
use Rattle.ct_testfile.proofs.perform.perform.Goals as goal

pub returns-in_ok-values-in-AddTest : goal.returns-in_ok-values-in-AddTest
returns-in_ok-values-in-AddTest c =
    rw (c.in-AddTest.is, ← c.in_ok-values-in-AddTest.ensures) (c.opening_nothing.ensures (add_test c.args.limits.now c.args.dir.now c.in_ok-values-in-AddTest.values c.args.state) c.add_test.ensures)

pub add_test-requires-clause-values : goal.add_test-requires-clause-values
add_test-requires-clause-values c =
    subst (AreShort most_bytes) (sym c.in_ok-values-in-AddTest.ensures) c.requires.values

pub returns-in-SetTestsProperties : goal.returns-in-SetTestsProperties
returns-in-SetTestsProperties c =
    rw c.in-SetTestsProperties.is (c.opening_nothing-in-SetTestsProperties.ensures (set_tests_properties c.args.limits.now (texts c.args.values) c.args.state) c.set_tests_properties.ensures)

pub returns-in-SetDirectoryProperties : goal.returns-in-SetDirectoryProperties
returns-in-SetDirectoryProperties c =
    rw c.in-SetDirectoryProperties.is (c.opening_nothing-in-SetDirectoryProperties.ensures (set_directory_properties c.args.limits.now c.args.dir.now (texts c.args.values) c.args.state) c.set_directory_properties.ensures)

pub returns-in_ok-texts-in-Set : goal.returns-in_ok-texts-in-Set
returns-in_ok-texts-in-Set c =
    rw (c.in-Set.is, ← c.in_ok-texts-in-Set.ensures) (c.opening_nothing-in-Set.ensures (set c.in_ok-texts-in-Set.field-0 c.args.state) c.set.ensures)

pub returns-in_ok-texts-in-Subdirs : goal.returns-in_ok-texts-in-Subdirs
returns-in_ok-texts-in-Subdirs c =
    let done : Opens → Result (State × Opens) ReadKind = λ opens. Ok (c.args.state, opens) in
    rw c.in-Subdirs.is (ap done (sym (c.folders.ensures ∙ ap folders c.in_ok-texts-in-Subdirs.ensures)))

pub returns-in_ok-texts-in-Include : goal.returns-in_ok-texts-in-Include
returns-in_ok-texts-in-Include c = rw (c.in-Include.is, ← c.in_ok-texts-in-Include.ensures) c.include.ensures

pub returns-in-Unknown : goal.returns-in-Unknown
returns-in-Unknown c = rw c.in-Unknown.is refl
