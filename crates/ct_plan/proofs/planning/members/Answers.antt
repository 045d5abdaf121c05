use Rattle.std.proofs.Common.{◌<◌, ◌≤◌, All, arith, length, sym, subst}
use Rattle.std.proofs.lemmas.List.Elements.{All-weaker}
use Rattle.ct_select.specs.Chosen.{chosen_tests}
use Rattle.ct_plan.proofs.NumberLemmas.{AreSome, some-chosen}
use Rattle.ct_plan.proofs.planning.members.Goals as goal

pub draw_in-requires-clause-within : goal.draw_in-requires-clause-within
draw_in-requires-clause-within c =
    let defs = c.args.defs.now in
    let props = c.args.props.now in
    let chosen = chosen_tests defs props c.args.choice.now in
    let some : AreSome (length props) chosen = some-chosen c.args.choice.now defs props c.requires.paired in
    subst (All (λ number. (1 ≤ number) × (number ≤ length props))) (sym c.in_ok-chosen.ensures)
    (All-weaker (λ number. (0 < number) × (number ≤ length props)) (λ number. (1 ≤ number) × (number ≤ length props)) (λ number is. (omega (arith, is.0), is.1)) chosen some.of_tests)
