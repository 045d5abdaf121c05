use Rattle.std.proofs.Common.{◌≡◌, ◌<◌, ◌≤◌, ◌∙◌, All, length, map, sym, ap, subst}
use Rattle.std.proofs.lemmas.Bool.{eq-eqb, ne_eqb}
use Rattle.std.proofs.lemmas.List.Elements.{All-weaker}
use Rattle.std.proofs.lemmas.Result.{IfOk-weaker}
use Rattle.ct_history.specs.declared.plan.PlanTest.{PlanTest}
use Rattle.ct_history.specs.Plan.{enabled}
use Rattle.ct_plan.specs.declared.standing.Standing.{Standing}
use Rattle.ct_plan.specs.Queue.{IsQueue}
use Rattle.ct_plan.specs.Linked.{standing_in}
use Rattle.ct_plan.proofs.NumberLemmas.{AreSome, some-enabled}
use Rattle.ct_plan.proofs.QueueLemmas.{queue_several, queue_single}
use Rattle.ct_plan.proofs.UrgencyLemmas.{IsKnown, known_in, own_in}
use Rattle.ct_plan.proofs.queue.queue.Goals as goal

pub returns-then-level-eq1 : goal.returns-then-level-eq1
returns-then-level-eq1 c =
    let defs = c.args.defs.now in
    let props = c.args.props.now in
    let costs = c.args.costs.now in
    let tests = c.args.tests.now in
    let some : AreSome (length defs) (map (λ (t : PlanTest). t.number) tests) = record { ascend = c.requires.ascending; of_tests = c.requires.within } in
    let on = some-enabled (length defs) tests some in
    let known = All-weaker (λ number. (0 < number) × (number ≤ length defs)) (IsKnown (standing_in defs props costs)) (known_in defs props costs c.requires.paired) (map (λ (t : PlanTest). t.number) (enabled tests)) on.of_tests in
    subst (IsQueue c.args.level (standing_in defs props costs) tests) (sym c.in_ok-numbers.ensures)
    (queue_single c.args.level (standing_in defs props costs) (own_in defs props costs) tests (eq-eqb c.args.level 1 c.if-level-eq1.true) on.ascend known)

pub standings-requires-clause-within : goal.standings-requires-clause-within
standings-requires-clause-within c =
    let defs = c.args.defs.now in
    let some : AreSome (length defs) (map (λ (t : PlanTest). t.number) c.args.tests.now) = record { ascend = c.requires.ascending; of_tests = c.requires.within } in
    subst (λ numbers. All (λ number. (0 < number) × (number ≤ length defs)) numbers) (sym (c.as_slice.ensures ∙ c.in_ok-numbers.ensures)) (some-enabled (length defs) c.args.tests.now some).of_tests

pub returns : goal.returns
returns c =
    let defs = c.args.defs.now in
    let props = c.args.props.now in
    let costs = c.args.costs.now in
    let tests = c.args.tests.now in
    let some : AreSome (length defs) (map (λ (t : PlanTest). t.number) tests) = record { ascend = c.requires.ascending; of_tests = c.requires.within } in
    IfOk-weaker c.numbers_of.result (λ numbers. numbers ≡ map (λ (x : Standing). x.number) c.as_slice-2.result.now) (IsQueue c.args.level (standing_in defs props costs) tests) (λ numbers is.
    subst (IsQueue c.args.level (standing_in defs props costs) tests) (sym (is ∙ ap (map (λ (x : Standing). x.number)) c.as_slice-2.ensures.value))
    (queue_several c.args.level (standing_in defs props costs) (own_in defs props costs) tests (ne_eqb c.args.level 1 c.if-level-eq1.false) (some-enabled (length defs) tests some).ascend c.in_ok-standings.field-0.items c.sorted-standings.result.items
    (c.in_ok-standings.ensures ∙ ap (map (standing_in defs props costs)) (c.as_slice.ensures ∙ c.in_ok-numbers.ensures))
    c.sorted-standings.ensures.same
    c.sorted-standings.ensures.sorted))
    c.numbers_of.ensures
