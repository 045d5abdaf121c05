use Rattle.std.proofs.Common.{◌∙◌, ◌∷◌, [], ap, codes, ℕ}
use Rattle.ct_report.proofs.PutLemmas.{lines_as}
use Rattle.ct_explain.specs.Report.{programs_micros, seconds_line}
use Rattle.ct_explain.proofs.report.put_programs.Goals as goal

pub returns : goal.returns
returns g c =
    lines_as (ap (λ (micros : ℕ). seconds_line (codes "Time of programs: ") micros ∷ []) (c.programs_micros-micros.ensures ∙ ap programs_micros c.as_slice.ensures)) c.put_seconds.ensures
