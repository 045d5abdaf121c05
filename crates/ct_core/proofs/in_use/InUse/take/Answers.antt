use Rattle.std.specs.Option.{option_copied}
use Rattle.ct_core.proofs.FreeLemmas.{free_for}
use Rattle.ct_core.proofs.in_use.InUse.take.Goals as goal

pub take_slots-requires : goal.take_slots-requires
take_slots-requires c = free_for c.args.self.now.free c.args.test.now.needs (option_copied c.args.placement) c.requires.placed
