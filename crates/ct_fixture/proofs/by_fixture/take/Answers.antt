use Rattle.std.proofs.Common.{◌≡◌, ◌∙◌, bytes_eq, [], None, sym}
use Rattle.ct_fixture.specs.Kept.{fixture_tests}
use Rattle.ct_fixture.proofs.IndexLemmas.{cond_same, none_there, updated}
use Rattle.ct_fixture.proofs.by_fixture.take.Goals as goal

pub returns-then-is_empty-clause-gives : goal.returns-then-is_empty-clause-gives
returns-then-is_empty-clause-gives c =
    c.new.ensures.items ∙ sym (none_there c.args.tests.now (c.is_empty.ensures.0 c.if-is_empty.true) c.args.fixture.now)

pub returns-then-is_empty-clause-leaves : goal.returns-then-is_empty-clause-leaves
returns-then-is_empty-clause-leaves c = λ asked.
    let none : fixture_tests c.args.tests.now asked ≡ [] = none_there c.args.tests.now (c.is_empty.ensures.0 c.if-is_empty.true) asked in
    cond_same (bytes_eq asked c.args.fixture.now) (fixture_tests c.args.tests.now asked) none

pub returns-clause-leaves : goal.returns-clause-leaves
returns-clause-leaves c = λ asked. updated c.args.tests.now c.swap_remove.new.self c.args.fixture.now None c.swap_remove.ensures.updates asked
