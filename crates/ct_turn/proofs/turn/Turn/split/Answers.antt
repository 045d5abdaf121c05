use Rattle.std.proofs.Common.{rules, ◌≡◌, ◌∙◌, sym, ap, subst, true}
use Rattle.std.specs.Prelude.{Option}
use Rattle.atomic_table.specs.Table.{Allows, Me}
use Rattle.ct_turn.specs.declared.view.Known.{Known}
use Rattle.ct_turn.specs.declared.view.View.{View}
use Rattle.ct_turn.specs.Pass.{PassValue, known_in}
use Rattle.ct_turn.specs.Seen.{held_start, sight, split_off}
use Rattle.ct_turn.specs.Rule.{Assures, IsOrderly, Looked}
use Rattle.ct_turn.proofs.PassLemmas.{split_idle}
use Rattle.ct_turn.proofs.StepLemmas.{looks, splits-seat}
use Rattle.ct_turn.proofs.turn.Turn.split.Goals as goal

pub load-requires : goal.load-requires
load-requires g c =
    let see = sight g.T.Board.plan g.T.Board.base g.T.Board.history g.T.Board.halted in
    let opened = c.self.inside.table.shared.key.value in
    let seat = c.sit-seat.result in
    let known = ap (λ (p : PassValue). p.known) c.pass.view_is in
    let mine = ap (λ (m : Me (Option g.row.T.Denot) View). m.0.known) c.sit-seat.ensures.1 in
    let out = subst (λ (k : Known). k.is_out ≡ true) (sym mine) c.pass.invariant.out in
    (search rules, search rules, subst (λ n. Allows (IsOrderly see opened) n seat.id seat.me 0 (λ k. k) (λ found m. Looked seat.me m)) (sym c.self.invariant.1) (looks see opened seat.id seat.me out))

pub split_seat-other-requires : goal.split_seat-other-requires
split_seat-other-requires g c =
    let see = sight g.T.Board.plan g.T.Board.base g.T.Board.history g.T.Board.halted in
    let opened = c.self.inside.table.shared.key.value in
    let seat = c.load.new.seat in
    let known = ap (λ (p : PassValue). p.known) c.pass.view_is in
    let mine = ap (λ (m : Me (Option g.row.T.Denot) View). m.0.known) (c.load.ensures.2.0 ∙ c.sit-seat.ensures.1) in
    let out = subst (λ (k : Known). k.is_out ≡ true) (sym mine) c.pass.invariant.out in
    let first = subst (λ (k : Known). k.worker ≡ 0) (sym (mine ∙ known)) c.requires.opener in
    (search rules, search rules, splits-seat see opened seat.id seat.me.0 out first)

pub returns-clause-idle : goal.returns-clause-idle
returns-clause-idle g c =
    let known = ap (λ (p : PassValue). p.known) c.pass.view_is in
    let before = c.load.ensures.2.0 ∙ c.sit-seat.ensures.1 in
    let mine = ap (λ (m : Me (Option g.row.T.Denot) View). m.0.known) c.sit-seat.ensures.1 in
    let assures = subst (λ (k : Known). Assures k) (mine ∙ known) c.load.ensures.2.1 in
    let is : known_in c.into_badge-2.result.views ≡ split_off c.args.pass.now.known =
    ap known_in c.into_badge-2.ensures.2 ∙ ap (λ (m : Me (Option g.row.T.Denot) View). m.0.known) c.split_seat-other.ensures.4
    ∙ ap (λ (m : Me (Option g.row.T.Denot) View). split_off m.0.known) before ∙ ap split_off known in
    ap held_start is ∙ split_idle c.args.pass.now.known c.requires.opener assures
