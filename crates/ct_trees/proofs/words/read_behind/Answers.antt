use Rattle.std.proofs.Common.{◌*◌}
use Rattle.ct_trees.proofs.FaultLemmas.{fits_behind}
use Rattle.ct_trees.proofs.words.read_behind.Goals as goal

pub fault_behind-requires : goal.fault_behind-requires
fault_behind-requires c = record { fits = fits_behind c.args.behind.now (2 * c.args.trees) c.in-Err.fault c.requires.few c.in-Err.ensures.exact }
