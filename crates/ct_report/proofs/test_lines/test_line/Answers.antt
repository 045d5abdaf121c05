use Rattle.std.proofs.Common.{◌≡◌, ◌∙◌, ap, subst, List, Option}
use Rattle.std.specs.Prelude.{IfOk}
use Rattle.ct_history.specs.declared.plan.PlanTest.{PlanTest}
use Rattle.ct_history.specs.Plan.{test_at}
use Rattle.ct_report.specs.Report.{test_line}
use Rattle.ct_report.proofs.test_lines.test_line.Goals as goal

pub returns-in-Some : goal.returns-in-Some
returns-in-Some c =
    let found = c.in-Some.ensures ∙ ap (λ (ts : List PlanTest). test_at ts c.args.number) c.as_slice.ensures in
    subst (λ (t : Option PlanTest). IfOk c.line_with.result (λ text. text ≡ test_line c.args.plan.now c.args.entries.now c.args.place t)) found c.line_with.ensures
