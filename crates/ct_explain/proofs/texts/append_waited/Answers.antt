use Rattle.std.proofs.Common.{◌∙◌, ◌++◌, ap, append_assoc, codes, decimal, ℕ, List}
use Rattle.ct_explain.specs.Texts.{wait_text}
use Rattle.ct_explain.proofs.texts.append_waited.Goals as goal

pub returns : goal.returns
returns c =
    let wait = wait_text c.args.plan.now c.args.wait.now in
    c.in_ok-append_wait.ensures ∙ ap (λ (text : List ℕ). text ++ wait) c.in_ok-append_of_test.ensures ∙ append_assoc c.args.text.now (codes "test " ++ decimal c.args.test ++ codes " waited for ") wait
