use Rattle.std.proofs.Common.{ap, ◌∙◌}
use Rattle.ct_base.proofs.KeyLemmas.{is_among-keys}
use Rattle.ct_cost.proofs.names.Names.has.Goals as goal
use Rattle.ct_base.specs.Names.{is_among}

pub returns : goal.returns
returns c = c.contains.ensures ∙ is_among-keys c.args.name.now c.self.inside.names.keys ∙ ap (is_among c.args.name.now) c.self.view_is
