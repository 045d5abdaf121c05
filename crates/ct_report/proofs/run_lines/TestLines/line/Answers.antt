use Rattle.std.proofs.Common.{◌≡◌, ◌∙◌, ap, subst, ℕ, List}
use Rattle.std.specs.Prelude.{IfOk}
use Rattle.ct_history.specs.declared.plan.PlanParts.{PlanParts}
use Rattle.ct_report.proofs.RunLineLemmas.{line_known}
use Rattle.ct_report.proofs.run_lines.TestLines.line.Goals as goal

pub returns-clause-text : goal.returns-clause-text
returns-clause-text c =
    let plan = c.args.plan.now in
    let tests = c.as_slice-tests.ensures ∙ ap (λ (p : PlanParts). p.tests) c.parts.ensures.is in
    let known = line_known plan c.args.history.now.entries.items c.args.test c.args.place c.expect_place-at.result c.index.result.now c.index-tests-at.result c.args.verdict c.as_slice-tests.result.now c.read.new.self
    tests c.expect_place-at.ensures.within c.expect_place-at.ensures.there c.index-tests-at.is c.read.ensures.knows c.read.ensures.all c.index.ensures c.requires.given in
    subst (λ (line : List ℕ). IfOk c.numbered_line.result (λ text. text ≡ line)) known c.numbered_line.ensures
