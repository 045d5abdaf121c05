use Rattle.std.proofs.Common.{rules, ◌≡◌, ◌∙◌, sym, ap, subst, eqb, true, arith}
use prog.Atomic.{either}
use Rattle.std.specs.Prelude.{Option}
use Rattle.atomic_table.specs.Table.{Allows, Me}
use Rattle.ct_turn.specs.declared.view.View.{View}
use Rattle.ct_turn.specs.Rule.{IsOrderly, Tried}
use Rattle.ct_turn.specs.Seen.{sight}
use Rattle.ct_turn.specs.Turn.{TurnValue}
use Rattle.ct_turn.proofs.StepLemmas.{takes-turn, to_one}
use Rattle.ct_turn.proofs.turn.Turn.seize.Goals as goal

pub compare_exchange-requires : goal.compare_exchange-requires
compare_exchange-requires g c =
    let see = sight g.T.Board.plan g.T.Board.base g.T.Board.history g.T.Board.halted in
    let opened = c.self.inside.table.shared.key.value in
    let seat = c.loop.seat in
    (c.loop.invariant.0 ∙ c.requires.turn ∙ sym (ap (λ (v : TurnValue). v.id) c.self.view_is), search rules, subst (λ n. Allows (IsOrderly see opened) n seat.id seat.me 0 (λ k. either (eqb k 0) 1 k) (Tried see seat.me)) (sym c.self.invariant.1) (takes-turn see opened seat.id seat.me (λ k. either (eqb k 0) 1 k) (λ e. omega (arith, e)) to_one (subst (λ (m : Me (Option g.row.T.Denot) View). m.0.known.is_out ≡ true) (sym c.loop.invariant.1) c.requires.out)))

pub swap-requires : goal.swap-requires
swap-requires g c =
    let see = sight g.T.Board.plan g.T.Board.base g.T.Board.history g.T.Board.halted in
    let opened = c.self.inside.table.shared.key.value in
    let seat = c.loop.seat in
    (c.loop.invariant.0 ∙ c.requires.turn ∙ sym (ap (λ (v : TurnValue). v.id) c.self.view_is), search rules, subst (λ n. Allows (IsOrderly see opened) n seat.id seat.me 0 (λ _. 2) (Tried see seat.me)) (sym c.self.invariant.1) (takes-turn see opened seat.id seat.me (λ _. 2) (λ e. omega (arith, e)) (λ n ne e. omega (arith, e)) (subst (λ (m : Me (Option g.row.T.Denot) View). m.0.known.is_out ≡ true) (sym c.loop.invariant.1) c.requires.out)))
