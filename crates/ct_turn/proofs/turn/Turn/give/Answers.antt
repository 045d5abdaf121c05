use Rattle.std.proofs.Common.{rules, ◌≡◌, ◌∷◌, [], ◌∙◌, sym, ap, subst, ◌+◌, ◌%◌, ◌^◌, false}
use Rattle.std.specs.Prelude.{Option, Some, is_some}
use Rattle.atomic_table.specs.Table.{Allows, Me, rest}
use Rattle.ct_turn.specs.declared.view.Known.{Known}
use Rattle.ct_turn.specs.declared.view.View.{View}
use Rattle.ct_turn.specs.Pass.{PassValue, away, known_in, taken_in}
use Rattle.ct_turn.specs.Seen.{Continues, sight}
use Rattle.ct_turn.specs.Rule.{Counted, GivenBack, IsOrderly}
use Rattle.ct_turn.proofs.StepLemmas.{counts-round, frees-turn, some_of}
use Rattle.ct_turn.proofs.turn.Turn.give.Goals as goal

pub fetch_add-round-requires : goal.fetch_add-round-requires
fetch_add-round-requires g c =
    let see = sight g.T.Board.plan g.T.Board.base g.T.Board.history g.T.Board.halted in
    let opened = c.self.inside.table.shared.key.value in
    let seat = c.sit-seat.result in
    let views = c.pass.inside.badge.views in
    let t = some_of c.args.pass.now.taken (λ taken. Continues c.args.pass.now.known taken (see c.args.state)) c.requires.continues in
    let has : taken_in views ≡ Some t.0 = ap (λ (p : PassValue). p.taken) c.pass.view_is ∙ t.1 in
    let by = c.from.result in (
      search rules,
      search rules,
      subst (λ n. Allows (IsOrderly see opened) n seat.id seat.me 1 (λ k. (k + by) % 2 ^ 64) (λ found m. Counted seat.me m)) (sym c.self.invariant.1)
          (counts-round see opened seat.id (away (known_in views) (taken_in views)) t.0 by seat.me c.sit-seat.ensures.1 has (ap is_some has)),
    )

pub swap-found-requires : goal.swap-found-requires
swap-found-requires g c =
    let see = sight g.T.Board.plan g.T.Board.base g.T.Board.history g.T.Board.halted in
    let opened = c.self.inside.table.shared.key.value in
    let seat = c.exchange-empty.new.seat in
    let views = c.pass.inside.badge.views in
    let known = ap (λ (p : PassValue). p.known) c.pass.view_is in
    let t = some_of c.args.pass.now.taken (λ taken. Continues c.args.pass.now.known taken (see c.args.state)) c.requires.continues in
    let has : taken_in views ≡ Some t.0 = ap (λ (p : PassValue). p.taken) c.pass.view_is ∙ t.1 in
    let v : View = record { known = known_in views; taken = taken_in views; is_lent = false } in
    let is : seat.me ≡ (v, (0, Some c.args.state) ∷ []) =
    c.exchange-empty.ensures.3 ∙ ap (λ (m : Me (Option g.row.T.Denot) View). (m.0, (0, Some c.args.state) ∷ rest m.1)) c.fetch_add-round.ensures.2
    ∙ ap (λ (m : Me (Option g.row.T.Denot) View). (record m.0 { is_lent = false }, (0, Some c.args.state) ∷ m.1)) c.sit-seat.ensures.1 in
    let out = c.pass.invariant.out in
    let fits = subst (λ (k : Known). Continues k t.0 (see c.args.state)) (sym known) t.2 in (
      search rules,
      search rules,
      subst (λ n. Allows (IsOrderly see opened) n seat.id seat.me 0 (λ k. 0) (λ found m. GivenBack see seat.me m)) (sym c.self.invariant.1)
          (frees-turn see opened seat.id v t.0 c.args.state seat.me is has out fits),
    )
