use Rattle.std.proofs.Common.{ap, ◌∙◌, option_map}
use Rattle.ct_cost.specs.CostLine.{line_of}
use Rattle.ct_cost.specs.Kept.{durations_of}
use Rattle.ct_cost.proofs.KeptLemmas.{durations-lookup}
use Rattle.ct_cost.proofs.lines.Lines.durations.Goals as goal

pub returns : goal.returns
returns c =
    c.get.ensures.value
    ∙ durations-lookup c.args.name.now c.self.inside.durations.entries
    ∙ ap (λ lines. option_map durations_of (line_of lines c.args.name.now)) c.self.view_is
