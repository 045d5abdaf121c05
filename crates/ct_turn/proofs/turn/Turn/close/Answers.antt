use Rattle.std.proofs.Common.{◌≡◌, ◌+◌, ◌∙◌, sym, ap, subst, length, refl, true}
use Rattle.std.specs.Prelude.{Option, Some, None, IsSome}
use Rattle.std.specs.Slots.{slots_items}
use mathlib.Core.Option.{some-injective}
use Rattle.ct_turn.specs.declared.view.Known.{Known}
use Rattle.ct_turn.specs.Pass.{PassValue, known_in, taken_in}
use Rattle.ct_turn.specs.Seen.{Closes, held_start, sight}
use Rattle.ct_turn.proofs.StepLemmas.{closes-turn}
use Rattle.ct_turn.proofs.turn.Turn.close.Goals as goal

pub unwrap-state-requires : goal.unwrap-state-requires
unwrap-state-requires g c =
    let see = sight g.T.Board.plan g.T.Board.base g.T.Board.history g.T.Board.halted in
    let opened = c.self.inside.table.shared.key.value in
    let seat = c.into_seat.result in
    let known : seat.me.0.known ≡ c.args.pass.known = sym (ap known_in c.into_seat.ensures.2) ∙ ap (λ (p : PassValue). p.known) c.pass.view_is in
    let taken : seat.me.0.taken ≡ None = sym (ap taken_in c.into_seat.ensures.2) ∙ ap (λ (p : PassValue). p.taken) c.pass.view_is ∙ c.requires.idle in
    let t = closes-turn see opened seat.id seat.me.0 (slots_items c.close_with-closed.result.words) (slots_items c.close_with-closed.result.slots) (subst (λ (k : Known). k.is_out ≡ true) (ap known_in c.into_seat.ensures.2) c.pass.invariant.out) (subst (λ (k : Known). k.worker ≡ 0) (sym known) c.requires.opener) taken
    (subst (λ (k : Known). length k.notes + 1 ≡ k.made) (sym known) c.requires.joined) (ap held_start known ∙ c.requires.done) c.close_with-closed.ensures.values.2 in
    subst (λ (o : Option g.row.T.Denot). IsSome o) (some-injective (Some t.0) c.take.result (sym t.1 ∙ c.take.ensures.value)) refl

pub returns : goal.returns
returns g c =
    let see = sight g.T.Board.plan g.T.Board.base g.T.Board.history g.T.Board.halted in
    let opened = c.self.inside.table.shared.key.value in
    let seat = c.into_seat.result in
    let known : seat.me.0.known ≡ c.args.pass.known = sym (ap known_in c.into_seat.ensures.2) ∙ ap (λ (p : PassValue). p.known) c.pass.view_is in
    let taken : seat.me.0.taken ≡ None = sym (ap taken_in c.into_seat.ensures.2) ∙ ap (λ (p : PassValue). p.taken) c.pass.view_is ∙ c.requires.idle in
    let t = closes-turn see opened seat.id seat.me.0 (slots_items c.close_with-closed.result.words) (slots_items c.close_with-closed.result.slots) (subst (λ (k : Known). k.is_out ≡ true) (ap known_in c.into_seat.ensures.2) c.pass.invariant.out) (subst (λ (k : Known). k.worker ≡ 0) (sym known) c.requires.opener) taken
    (subst (λ (k : Known). length k.notes + 1 ≡ k.made) (sym known) c.requires.joined) (ap held_start known ∙ c.requires.done) c.close_with-closed.ensures.values.2 in
    let found : Some t.0 ≡ Some c.unwrap-state.result = some-injective (Some t.0) c.take.result (sym t.1 ∙ c.take.ensures.value) ∙ c.unwrap-state.ensures in
    let same : t.0 ≡ c.unwrap-state.result = cc in
    subst (λ (x : g.row.T.Denot). Closes c.args.pass.known (see x)) same (subst (λ (k : Known). Closes k (see t.0)) known t.2)
