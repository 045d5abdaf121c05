use Rattle.std.proofs.Common.{◌∙◌}
use Rattle.ct_cost.proofs.KeptLemmas.{copied, same_bytes}
use Rattle.ct_cost.proofs.lines.Lines.copy.Goals as goal

pub returns : goal.returns
returns c =
    copied _ _ (λ k l h. same_bytes k.items l.items h.0) (λ x y h. h) c.self.inside.durations.entries c.in_ok-clone.field-0.entries c.in_ok-clone.ensures.cases ∙ c.self.view_is
