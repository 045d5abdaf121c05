use Rattle.std.proofs.Common.{rules, ◌≡◌, ◌∷◌, [], sym, subst, Some}
use Rattle.atomic_table.specs.Table.{opening}
use Rattle.ct_turn.specs.Seen.{sight}
use Rattle.ct_turn.specs.Rule.{IsOrderly, first_view}
use Rattle.ct_turn.proofs.StepLemmas.{opens}
use Rattle.ct_turn.proofs.turn.Turn.open.Goals as goal

pub new-requires : goal.new-requires
new-requires g c =
    let see = sight g.T.Board.plan g.T.Board.base g.T.Board.history g.T.Board.halted in
    let state = c.args.state in
    let slots : c.push_reserved.new.self.items ≡ Some state ∷ [] = search rules in
    subst (λ k. IsOrderly see k (opening (0 ∷ 0 ∷ []) c.push_reserved.new.self.items (first_view (see k)))) (sym c.of-key.ensures)
    (subst (λ items. IsOrderly see state (opening (0 ∷ 0 ∷ []) items (first_view (see state)))) (sym slots) (opens see state c.requires.empty c.requires.going))
