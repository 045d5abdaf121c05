use Rattle.std.proofs.Common.{◌∙◌}
use Rattle.std.proofs.lemmas.List.Elements.{same_from_all_zip}
use Rattle.ct_env.proofs.VariableLemmas.{pairs-clone}
use Rattle.ct_env.proofs.variables.Variables.copy.Goals as goal

pub returns : goal.returns
returns c =
    pairs-clone _ _ (λ x y are. same_from_all_zip _ x.items y.items are.0 (λ a b same. same)) (λ x y are. same_from_all_zip _ x.items y.items are.0 (λ a b same. same)) c.self.inside.values.entries c.in_ok-clone.field-0.entries c.in_ok-clone.ensures.cases
    ∙ c.self.view_is
