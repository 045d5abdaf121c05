use Rattle.std.proofs.Common.{◌≡◌, ℕ, List, ◌++◌, ◌∷◌, [], cond, bytes_eq, is_some, Some, sym, ap, ◌∙◌}
use Rattle.ct_base.specs.Found.{or_none}
use Rattle.ct_fixture.specs.Kept.{fixture_tests}
use Rattle.ct_fixture.proofs.IndexLemmas.{noted, updated}
use Rattle.ct_fixture.proofs.by_fixture.note.Goals as goal

pub returns-in_ok-push-in-Some : goal.returns-in_ok-push-in-Some
returns-in_ok-push-in-Some c =
    let here = c.push.new.self in
    let now = c.get_mut.follows.lender here in
    let updates = (c.get_mut.follows.holds here).3 (ap is_some (sym c.in-Some.ensures.value)) in
    noted c.args.tests.now now c.args.fixture.now here.items c.args.number
    (◌∙◌ {A = List ℕ} c.in_ok-push-in-Some.ensures.items (ap (λ tests. tests ++ c.args.number ∷ []) (ap or_none c.in-Some.ensures.value)))
    (λ asked. updated c.args.tests.now now c.args.fixture.now (Some here) updates asked)

pub returns-in_ok-insert-in-None : goal.returns-in_ok-insert-in-None
returns-in_ok-insert-in-None c =
    let old = c.args.tests.now in
    let here = c.push-in-None.new.self in
    let own = c.in_ok-from_slice-in-None.field-0.items in
    let is_own : own ≡ c.args.fixture.now = c.in_ok-from_slice-in-None.ensures.items in
    let updates = rw c.get_mut.follows.holds-at-none at c.in_ok-insert-in-None.ensures.updates in
    noted old c.insert.new.self c.args.fixture.now here.items c.args.number
    (c.in_ok-push-in-None.ensures.items ∙ ap (λ tests. tests ++ c.args.number ∷ []) (c.new-first.ensures.items ∙ ap or_none c.in-None.ensures.value))
    (λ asked. updated old c.insert.new.self own (Some here) updates asked ∙ ap (λ name. cond (bytes_eq asked name) here.items (fixture_tests old asked)) is_own)
