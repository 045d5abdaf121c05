use Rattle.std.proofs.Common.{get_or}
use Rattle.std.specs.Prelude.{All}
use Rattle.ct_times.specs.Links.{IsPlaced}
use Rattle.ct_times.proofs.LinkLemmas.{AreBehind, LeadTo}
use Rattle.ct_times.proofs.chain.chain_of.Given as goal

abbrev pub invariant-loop-link : goal.invariant-loop-link
invariant-loop-link l = record {
  leads : LeadTo l.entries l.links.items (get_or l.times l.place 0);
  placed : All (IsPlaced l.entries) l.links.items;
  ordered : AreBehind l.place l.links.items;
}

abbrev pub decreases-loop-link : goal.decreases-loop-link
decreases-loop-link l = l.place
