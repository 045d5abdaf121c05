use Rattle.std.proofs.Common.{MatchOption, subst}
use Rattle.ct_queue.specs.Lines.{LinesValue, IsNextHeadOfBunch, NoHeadOfBunchBehind}
use Rattle.ct_queue.proofs.BunchLemmas.{next_head_found}
use Rattle.ct_queue.proofs.lines.Lines.next_head.Goals as goal

pub returns : goal.returns
returns c =
    subst (λ (v : LinesValue). MatchOption c.next_of.result (NoHeadOfBunchBehind v c.args.place) (IsNextHeadOfBunch v c.args.place)) c.self.view_is
    (next_head_found c.self.inside.members c.self.inside.heads c.self.invariant.marked c.args.place c.next_of.result c.next_of.ensures)
