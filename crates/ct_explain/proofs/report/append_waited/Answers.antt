use Rattle.std.proofs.Common.{◌∙◌, ◌++◌, ap, append_assoc, codes, ℕ, List}
use Rattle.ct_explain.specs.Texts.{wait_text}
use Rattle.ct_explain.proofs.report.append_waited.Goals as goal

pub returns-in_ok-append_wait : goal.returns-in_ok-append_wait
returns-in_ok-append_wait c =
    let wait = wait_text c.args.plan.now c.in-Some.wait.now in
    rw c.in-Some.is (c.in_ok-append_wait.ensures ∙ ap (λ (text : List ℕ). text ++ wait) c.in_ok-append.ensures.ok ∙ append_assoc c.args.text.now (codes ", waited for ") wait)
