use Rattle.std.proofs.Common.{◌≡◌, ◌∙◌, ℕ, All, List, Option, map, sym, ap, subst}
use Rattle.std.proofs.lemmas.Bool.{eq-eqb, ne_eqb}
use Rattle.std.proofs.lemmas.Result.{IfOk-weaker}
use Rattle.ct_history.specs.declared.plan.PlanTest.{PlanTest}
use Rattle.ct_history.specs.Plan.{IsAscendingFrom, enabled}
use Rattle.ct_history.proofs.PlanLemmas.{numbers_of}
use Rattle.ct_plan.specs.declared.standing.Standing.{Standing}
use Rattle.ct_plan.specs.Queue.{IsQueue}
use Rattle.ct_plan.specs.Whole.{standing_in_trees}
use Rattle.ct_plan.proofs.NumberLemmas.{enabled_ascend}
use Rattle.ct_plan.proofs.QueueLemmas.{queue_several, queue_single}
use Rattle.ct_plan.proofs.UrgencyLemmas.{IsKnown}
use Rattle.ct_plan.proofs.WholeLemmas.{whole_ascends}
use Rattle.ct_plan.proofs.TreeStandingLemmas.{known_in_trees, own_in_trees}
use Rattle.ct_plan.proofs.whole.whole_queue.Goals as goal

pub returns-then-level-eq1 : goal.returns-then-level-eq1
returns-then-level-eq1 c =
    let trees = c.args.trees.now in
    let tests = c.args.tests.now in
    let standing : ℕ → Option Standing = standing_in_trees 0 trees in
    let up = enabled_ascend 1 tests (subst (λ (ts : List PlanTest). IsAscendingFrom 1 (numbers_of ts)) (sym c.requires.tests) (whole_ascends trees c.requires.trees c.requires.sound)) in
    let known = subst (λ (ts : List PlanTest). All (IsKnown standing) (numbers_of (enabled ts))) (sym c.requires.tests) (known_in_trees 0 trees c.requires.trees c.requires.sound) in
    IfOk-weaker c.enabled_numbers.result (λ numbers. numbers ≡ map (λ (t : PlanTest). t.number) (enabled tests)) (IsQueue c.args.level standing tests) (λ numbers is.
    subst (IsQueue c.args.level standing tests) (sym is) (queue_single c.args.level standing (own_in_trees 0 trees) tests (eq-eqb c.args.level 1 c.if-level-eq1.true) up known))
    c.enabled_numbers.ensures

pub returns : goal.returns
returns c =
    let trees = c.args.trees.now in
    let tests = c.args.tests.now in
    let standing : ℕ → Option Standing = standing_in_trees 0 trees in
    let up = enabled_ascend 1 tests (subst (λ (ts : List PlanTest). IsAscendingFrom 1 (numbers_of ts)) (sym c.requires.tests) (whole_ascends trees c.requires.trees c.requires.sound)) in
    IfOk-weaker c.numbers_of.result (λ numbers. numbers ≡ map (λ (x : Standing). x.number) c.as_slice.result.now) (IsQueue c.args.level standing tests) (λ numbers is.
    subst (IsQueue c.args.level standing tests) (sym (is ∙ ap (map (λ (x : Standing). x.number)) c.as_slice.ensures.value))
    (queue_several c.args.level standing (own_in_trees 0 trees) tests (ne_eqb c.args.level 1 c.if-level-eq1.false) up c.in_ok-whole_standings.field-0.items c.sorted-standings.result.items
    (c.in_ok-whole_standings.ensures ∙ ap (λ (ts : List PlanTest). map standing (numbers_of (enabled ts))) (sym c.requires.tests))
    c.sorted-standings.ensures.same
    c.sorted-standings.ensures.sorted))
    c.numbers_of.ensures
