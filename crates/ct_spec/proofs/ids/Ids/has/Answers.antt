use Rattle.std.proofs.Common.{ap, ◌∙◌}
use Rattle.ct_spec.proofs.IdLemmas.{is_among-keys}
use Rattle.ct_spec.proofs.ids.Ids.has.Goals as goal
use Rattle.ct_base.specs.Names.{is_among}

pub returns : goal.returns
returns c = c.contains.ensures ∙ is_among-keys c.args.id.now c.self.inside.ids.keys ∙ ap (is_among c.args.id.now) c.self.view_is
