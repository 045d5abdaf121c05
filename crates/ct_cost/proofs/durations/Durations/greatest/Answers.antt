use Rattle.std.proofs.Common.{rules, ◌≡◌, ap, sym, ◌∙◌}
use Rattle.std.proofs.lemmas.Iterator.{YieldsList-from_slice}
use Rattle.std.proofs.lemmas.Iterator.Adapters.{option_map_id}
use Rattle.std.proofs.lemmas.Iterator.Consumers.{YieldsList-from_copied, max_from_yields_List}
use Rattle.ct_cost.specs.CostLine.{greatest_of}
use Rattle.ct_cost.proofs.durations.Durations.greatest.Goals as goal

pub returns : goal.returns
returns c =
    let items : c.deref.result.now ≡ c.args.self.now = search rules in
    sym (option_map_id _)
    ∙ max_from_yields_List _ _ c.max.ensures.ran (YieldsList-from_copied (YieldsList-from_slice c.deref.result.now cc))
    ∙ ap greatest_of items
