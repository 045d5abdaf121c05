use Rattle.std.proofs.Common.{ap, ◌∙◌, map}
use Rattle.ct_cost.specs.CostLine.{with_line}
use Rattle.ct_cost.specs.Kept.{kept_line, line_for}
use Rattle.ct_cost.proofs.KeptLemmas.{lines-insert_entry}
use Rattle.ct_cost.proofs.lines.Lines.add.Goals as goal

pub returns : goal.returns
returns c =
    rw (c.in_ok-insert.ensures.entries, ← c.self.view_is) (lines-insert_entry c.self.inside.durations.entries c.in_ok-from_slice.field-0 c.args.durations
    ∙ ap (λ name. with_line (map kept_line c.self.inside.durations.entries) (line_for name c.args.durations)) c.in_ok-from_slice.ensures.items)
