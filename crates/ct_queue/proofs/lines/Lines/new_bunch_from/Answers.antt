use Rattle.std.proofs.Common.{MatchOption, subst}
use Rattle.ct_queue.specs.Lines.{LinesValue, IsOfNewBunchFrom, NoNewBunchFrom}
use Rattle.ct_queue.proofs.BunchLemmas.{new_bunch_found}
use Rattle.ct_queue.proofs.lines.Lines.new_bunch_from.Goals as goal

pub returns : goal.returns
returns c =
    subst (λ (v : LinesValue). MatchOption c.first_head_from.result (NoNewBunchFrom v c.args.from) (IsOfNewBunchFrom v c.args.from)) c.self.view_is
    (new_bunch_found c.self.inside.members c.self.inside.heads c.self.invariant.marked c.args.from c.first_head_from.result c.first_head_from.ensures)
