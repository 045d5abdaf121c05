use Rattle.std.proofs.Common.{◌≡◌, ◌∙◌, sym, ap, ◌+◌, ◌<◌, length, arith}
use Rattle.ct_select.specs.Chosen.{is_chosen, is_chosen_at}
use Rattle.ct_select.proofs.ChosenLemmas.{chosen_here, takes, passes_over}
use Rattle.ct_select.proofs.chosen.choose.Goals as goal
use Rattle.ct_select.proofs.chosen.choose.Goals.{then-is_chosen+in_ok-push, else-is_chosen}

here : (c : goal.Joined-is_chosen) → c.is_chosen.result ≡ is_chosen_at c.args.defs.now c.args.props.now c.args.choice.now (c.loop-at.at + 1)
here c =
    let def = c.index-defs-at.result in
    let own = c.index-props-at.result in
    let within : c.loop-at.at < length c.args.props.now =
    omega (arith, c.loop-at-test.true, c.requires.together) in
    c.is_chosen.ensures.chosen
    ∙ ap (λ n. is_chosen c.args.choice.now n def own) c.by_number-numbered.ensures
    ∙ chosen_here c.args.defs.now c.args.props.now c.args.choice.now c.loop-at.at def own c.loop-at-test.true within c.index-defs-at.is c.index-props-at.is

pub loop-at-preserved : goal.loop-at-preserved
loop-at-preserved c =
    let test = is_chosen_at c.args.defs.now c.args.props.now c.args.choice.now in
    elim c.if-is_chosen.branch [
      | then-is_chosen+in_ok-push w ↦ record {
        chosen = w.chosen-is ∙ w.in_ok-push.ensures.ok ∙ takes test c.loop-at.at c.loop-at.chosen c.loop-at.invariant.chosen (sym (here c) ∙ w.if-is_chosen.true);
        matchers = c.is_chosen.ensures.kept;
      }
      | else-is_chosen w ↦ record {
        chosen = w.chosen-is ∙ passes_over test c.loop-at.at c.loop-at.chosen c.loop-at.invariant.chosen (sym (here c) ∙ w.if-is_chosen.false);
        matchers = c.is_chosen.ensures.kept;
      }
    ]
