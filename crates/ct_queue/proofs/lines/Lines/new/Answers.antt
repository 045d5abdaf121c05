use Rattle.std.proofs.Common.{sym, subst}
use Rattle.ct_queue.specs.Lines.{MembersValue, none_in}
use Rattle.ct_queue.specs.Spots.{AreHeadsInBunches}
use Rattle.ct_queue.proofs.BunchLemmas.{bunches_none}
use Rattle.ct_queue.proofs.lines.Lines.new.Goals as goal

pub invariant_of-result : goal.invariant_of-result
invariant_of-result c =
    subst (λ (value : MembersValue). AreHeadsInBunches value c.in_ok-new-2.field-0) (sym c.in_ok-new.ensures)
    (subst (λ (heads : MembersValue). AreHeadsInBunches (none_in c.args.lines.now) heads) (sym c.in_ok-new-2.ensures)
    (bunches_none c.args.lines.now c.args.bunches.now c.requires.bunched))
