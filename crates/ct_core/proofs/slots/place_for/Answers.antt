use Rattle.std.proofs.Common.{◌≡◌, ◌∙◌, ap, subst, sym, true}
use Rattle.std.specs.Prelude.{Option, MatchOption}
use Rattle.std.specs.Option.{option_copied}
use Rattle.ct_alloc.specs.declared.placement.Placement.{Placement}
use Rattle.ct_alloc.specs.Free.{FreeValue, IsFitting, NoneFits}
use Rattle.ct_history.specs.Rules.{is_placed}
use Rattle.ct_alloc.specs.Lent.{lent}
use Rattle.ct_core.specs.Slots.{used_of}
use Rattle.ct_core.proofs.ChoiceLemmas.{none_placed}
use Rattle.ct_core.proofs.slots.place_for.Goals as goal

pub returns-in-None : goal.returns-in-None
returns-in-None c = λ placement placed. (
    let free = c.in-Some.free.now in
    let needs = c.args.needs.now in
    let none = subst (λ (o : Option Placement). MatchOption o (NoneFits free needs) (λ p. IsFitting free needs p.picks)) c.in-None.is c.in_ok-placement.ensures.exact in
    none_placed free needs none (sym c.is_empty.ensures ∙ c.if-is_empty.false) placement
    (subst (λ (o : Option FreeValue). is_placed (lent o) needs (used_of o) placement ≡ true) (ap option_copied c.in-Some.is) placed))
