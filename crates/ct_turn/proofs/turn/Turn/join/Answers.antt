use Rattle.std.proofs.Common.{rules, ◌≡◌, ◌∙◌, sym, ap, subst, true}
use Rattle.std.specs.Prelude.{Option, None}
use Rattle.atomic_table.specs.Table.{Allows, Me}
use Rattle.ct_turn.specs.declared.view.Known.{Known}
use Rattle.ct_turn.specs.declared.view.View.{View}
use Rattle.ct_turn.specs.Pass.{PassValue, known_in, taken_in}
use Rattle.ct_turn.specs.Seen.{HistoryGoesOn, held_start, with_joined, sight}
use Rattle.ct_turn.specs.Rule.{Assures, IsOrderly, Looked}
use Rattle.ct_turn.proofs.PassLemmas.{as_noted}
use Rattle.ct_turn.proofs.StepLemmas.{looks, joins-seats}
use Rattle.ct_turn.proofs.turn.Turn.join.Goals as goal

pub join_seat-requires : goal.join_seat-requires
join_seat-requires g c =
    let see = sight g.T.Board.plan g.T.Board.base g.T.Board.history g.T.Board.halted in
    let opened = c.self.inside.table.shared.key.value in
    let keeper = c.sit-seat.result in
    let gone = c.into_seat.result in
    let known : keeper.me.0.known ≡ c.args.pass.now.known = ap (λ (m : Me (Option g.row.T.Denot) View). m.0.known) c.sit-seat.ensures.1 ∙ ap (λ (p : PassValue). p.known) c.pass.view_is in
    let taken : keeper.me.0.taken ≡ None = ap (λ (m : Me (Option g.row.T.Denot) View). m.0.taken) c.sit-seat.ensures.1 ∙ ap (λ (p : PassValue). p.taken) c.pass.view_is ∙ c.requires.idle.0 in
    let other : gone.me.0.known ≡ c.args.other.known = sym (ap known_in c.into_seat.ensures.2) ∙ ap (λ (p : PassValue). p.known) c.other.view_is in
    let other_taken : gone.me.0.taken ≡ None = sym (ap taken_in c.into_seat.ensures.2) ∙ ap (λ (p : PassValue). p.taken) c.other.view_is ∙ c.requires.idle.1 in (
      search rules,
      search rules,
      search rules,
      search rules,
      joins-seats see opened keeper.id gone.id keeper.me.0 gone.me.0 (subst (λ (k : Known). k.is_out ≡ true) (sym (ap (λ (m : Me (Option g.row.T.Denot) View). m.0.known) c.sit-seat.ensures.1)) c.pass.invariant.out) (subst (λ (k : Known). k.worker ≡ 0) (sym known) c.requires.opener)
          (subst (λ (k : Known). k.is_out ≡ true) (ap known_in c.into_seat.ensures.2) c.other.invariant.out) taken other_taken (ap held_start other ∙ c.requires.done),
    )

pub load-requires : goal.load-requires
load-requires g c =
    let see = sight g.T.Board.plan g.T.Board.base g.T.Board.history g.T.Board.halted in
    let opened = c.self.inside.table.shared.key.value in
    let seat = c.join_seat.new.seat in
    let known : c.sit-seat.result.me.0.known ≡ c.args.pass.now.known = ap (λ (m : Me (Option g.row.T.Denot) View). m.0.known) c.sit-seat.ensures.1 ∙ ap (λ (p : PassValue). p.known) c.pass.view_is in
    let out : seat.me.0.known.is_out ≡ true = ap (λ (m : Me (Option g.row.T.Denot) View). m.0.known.is_out) c.join_seat.ensures.2 ∙ ap (λ (m : Me (Option g.row.T.Denot) View). m.0.known.is_out) c.sit-seat.ensures.1 ∙ c.pass.invariant.out in
    (search rules, search rules, subst (λ n. Allows (IsOrderly see opened) n seat.id seat.me 0 (λ k. k) (λ found m. Looked seat.me m)) (sym c.self.invariant.1) (looks see opened seat.id seat.me out))

pub returns-clause-own : goal.returns-clause-own
returns-clause-own g c =
    let known : c.sit-seat.result.me.0.known ≡ c.args.pass.now.known = ap (λ (m : Me (Option g.row.T.Denot) View). m.0.known) c.sit-seat.ensures.1 ∙ ap (λ (p : PassValue). p.known) c.pass.view_is in
    let other : c.into_seat.result.me.0.known ≡ c.args.other.known = sym (ap known_in c.into_seat.ensures.2) ∙ ap (λ (p : PassValue). p.known) c.other.view_is in
    let after : c.join_seat.new.seat.me.0.known ≡ with_joined c.args.pass.now.known c.args.other.known =
    ap (λ (m : Me (Option g.row.T.Denot) View). m.0.known) c.join_seat.ensures.2 ∙ ap (λ (k : Known). with_joined k c.into_seat.result.me.0.known) known ∙ ap (λ (k : Known). with_joined c.args.pass.now.known k) other in
    let is : known_in c.into_badge.result.views ≡ with_joined c.args.pass.now.known c.args.other.known =
    ap known_in c.into_badge.ensures.2 ∙ ap (λ (m : Me (Option g.row.T.Denot) View). m.0.known) c.load.ensures.2.0 ∙ after in
    let noted = as_noted c.args.pass.now.known c.args.other.known (subst (λ (k : Known). Assures k) after c.load.ensures.2.1) in
    subst (λ (k : Known). HistoryGoesOn c.args.pass.now.known.worker c.args.pass.now.known.seen.entries k.seen.entries) (sym is) noted.own

pub returns-clause-held : goal.returns-clause-held
returns-clause-held g c =
    let known : c.sit-seat.result.me.0.known ≡ c.args.pass.now.known = ap (λ (m : Me (Option g.row.T.Denot) View). m.0.known) c.sit-seat.ensures.1 ∙ ap (λ (p : PassValue). p.known) c.pass.view_is in
    let other : c.into_seat.result.me.0.known ≡ c.args.other.known = sym (ap known_in c.into_seat.ensures.2) ∙ ap (λ (p : PassValue). p.known) c.other.view_is in
    let after : c.join_seat.new.seat.me.0.known ≡ with_joined c.args.pass.now.known c.args.other.known =
    ap (λ (m : Me (Option g.row.T.Denot) View). m.0.known) c.join_seat.ensures.2 ∙ ap (λ (k : Known). with_joined k c.into_seat.result.me.0.known) known ∙ ap (λ (k : Known). with_joined c.args.pass.now.known k) other in
    let is : known_in c.into_badge.result.views ≡ with_joined c.args.pass.now.known c.args.other.known =
    ap known_in c.into_badge.ensures.2 ∙ ap (λ (m : Me (Option g.row.T.Denot) View). m.0.known) c.load.ensures.2.0 ∙ after in
    ap held_start is ∙ (as_noted c.args.pass.now.known c.args.other.known (subst (λ (k : Known). Assures k) after c.load.ensures.2.1)).held
