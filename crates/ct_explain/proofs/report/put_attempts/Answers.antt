use Rattle.std.proofs.Common.{◌∙◌, ap, List}
use Rattle.ct_times.specs.declared.chain.Link.{Link}
use Rattle.ct_report.proofs.PutLemmas.{lines_as}
use Rattle.ct_explain.specs.declared.wait.Wait.{Wait}
use Rattle.ct_explain.specs.Report.{attempt_lines}
use Rattle.ct_explain.proofs.report.put_attempts.Goals as goal

pub returns : goal.returns
returns g c =
    lines_as (ap (λ (links : List Link). attempt_lines c.args.plan.now links c.as_slice-2.result.now) c.as_slice.ensures ∙ ap (λ (waits : List Wait). attempt_lines c.args.plan.now c.args.story.now.chain waits) c.as_slice-2.ensures) c.put_all.ensures
