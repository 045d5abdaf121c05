use Rattle.std.proofs.Common.{rules, ◌≡◌, ◌∷◌, [], ◌∙◌, sym, ap, subst, refl}
use Rattle.std.specs.Prelude.{Option, Some, None}
use Rattle.atomic_table.specs.Table.{Allows, Me, rest}
use Rattle.ct_turn.specs.declared.view.View.{View}
use Rattle.ct_turn.specs.Seen.{sight}
use Rattle.ct_turn.specs.Rule.{IsOrderly, Lent, with_turn}
use Rattle.ct_turn.proofs.SeatLemmas.{headed}
use Rattle.ct_turn.proofs.StepLemmas.{lends-slot}
use Rattle.ct_turn.proofs.turn.Turn.take.Goals as goal

pub exchange-requires : goal.exchange-requires
exchange-requires g c =
    let t = c.seize.ensures.1 in
    (search rules, (Some t.0, headed c.seize.new.seat.me.1 c.sit-seat.result.me.1 (0, Some t.0) (ap (λ (m : Me (Option g.row.T.Denot) View). m.1) t.1)))

pub load-requires : goal.load-requires
load-requires g c =
    let see = sight g.T.Board.plan g.T.Board.base g.T.Board.history g.T.Board.halted in
    let opened = c.self.inside.table.shared.key.value in
    let seat = c.exchange.new.seat in
    let t = c.seize.ensures.1 in
    let v : View = with_turn c.sit-seat.result.me.0 (see t.0).now in
    let is : seat.me ≡ (v, (0, None) ∷ []) =
    c.exchange.ensures.3 ∙ ap (λ (m : Me (Option g.row.T.Denot) View). (m.0, (0, None) ∷ rest m.1)) t.1
    ∙ ap (λ (m : Me (Option g.row.T.Denot) View). (v, (0, None) ∷ m.1)) c.sit-seat.ensures.1 in
    (search rules, search rules, subst (λ n. Allows (IsOrderly see opened) n seat.id seat.me 0 (λ k. k) (λ found m. Lent seat.me m)) (sym c.self.invariant.1) (lends-slot see opened seat.id v (see t.0).now seat.me is refl))
