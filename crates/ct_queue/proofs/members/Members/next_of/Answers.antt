use Rattle.std.proofs.Common.{ℕ, ◌≡◌, ◌+◌, ◌<◌, ◌∙◌, length, get_or, Option, None, MatchOption, sym, ap, subst, arith, rules}
use Rattle.std.proofs.lemmas.List.{get_or_read}
use Rattle.ct_queue.specs.Marks.{NoneWithin, IsLeastWithin}
use Rattle.ct_queue.specs.Lines.{IsNextOfLine, MembersValue, NoneOfLineBehind}
use Rattle.ct_queue.specs.Spots.{members_value}
use Rattle.ct_queue.proofs.SpotLemmas.{next_found, next_has, none_behind_place, none_next}
use Rattle.ct_queue.proofs.members.Members.next_of.Goals as goal

pub returns-in_err-spot : goal.returns-in_err-spot
returns-in_err-spot c =
    let within : c.args.place < length c.self.inside.lines.items = subst (λ (v : MembersValue). c.args.place < length v.lines) (sym c.self.view_is) c.requires in
    let spot : c.index.result.now ≡ get_or c.self.inside.spots.items c.args.place 0 = get_or_read c.self.inside.spots.items c.args.place c.index.result.now (omega (arith, c.self.invariant.all.stand.long)) c.index.ensures 0 in
    let none = subst (λ (n : ℕ). NoneWithin c.self.inside.marks (n + 1) 0 (length c.self.inside.marks)) spot c.in_err-spot.ensures in
    let is : c.from_residual.result ≡ None = search rules in
    subst (λ (found : Option ℕ). MatchOption found (NoneOfLineBehind c.args.self.now c.args.place) (IsNextOfLine c.args.self.now c.args.place)) (sym is)
    (subst (λ (v : MembersValue). NoneOfLineBehind v c.args.place) c.self.view_is (none_behind_place c.self.inside.lines.items c.self.inside.firsts.items c.self.inside.spots.items c.self.inside.places.items c.self.inside.marks c.self.invariant c.args.place within none))

pub returns-then-index : goal.returns-then-index
returns-then-index c =
    let within : c.args.place < length c.self.inside.lines.items = subst (λ (v : MembersValue). c.args.place < length v.lines) (sym c.self.view_is) c.requires in
    let spot : c.index.result.now ≡ get_or c.self.inside.spots.items c.args.place 0 = get_or_read c.self.inside.spots.items c.args.place c.index.result.now (omega (arith, c.self.invariant.all.stand.long)) c.index.ensures 0 in
    let least = subst (λ (n : ℕ). IsLeastWithin c.self.inside.marks (n + 1) 0 (length c.self.inside.marks) c.in_ok-spot.spot) spot c.in_ok-spot.ensures in
    let has = next_has c.self.inside.lines.items c.self.inside.firsts.items c.self.inside.spots.items c.self.inside.places.items c.self.inside.marks c.self.invariant c.args.place within c.in_ok-spot.spot least in
    let next : c.index-2.result.now ≡ get_or c.self.inside.places.items c.in_ok-spot.spot 0 = get_or_read c.self.inside.places.items c.in_ok-spot.spot c.index-2.result.now has.there c.index-2.ensures 0 in
    let read : c.index-3.result.now ≡ get_or c.self.inside.lines.items c.index-2.result.now 0 = get_or_read c.self.inside.lines.items c.index-2.result.now c.index-3.result.now (omega (arith, has.within, next)) c.index-3.ensures 0 in
    let here : c.index-4.result.now ≡ get_or c.self.inside.lines.items c.args.place 0 = get_or_read c.self.inside.lines.items c.args.place c.index-4.result.now within c.index-4.ensures 0 in
    let is : get_or c.self.inside.lines.items (get_or c.self.inside.places.items c.in_ok-spot.spot 0) 0 ≡ get_or c.self.inside.lines.items c.args.place 0 = ap (λ (p : ℕ). get_or c.self.inside.lines.items p 0) (sym next) ∙ sym read ∙ c.if-index.true ∙ here in
    subst (λ (v : MembersValue). IsNextOfLine v c.args.place c.index-2.result.now) c.self.view_is
    (subst (λ (p : ℕ). IsNextOfLine (members_value c.self.inside.lines.items c.self.inside.spots.items c.self.inside.marks) c.args.place p) (sym next)
    (next_found c.self.inside.lines.items c.self.inside.firsts.items c.self.inside.spots.items c.self.inside.places.items c.self.inside.marks c.self.invariant c.args.place within c.in_ok-spot.spot least is))

pub returns-else-index : goal.returns-else-index
returns-else-index c =
    let within : c.args.place < length c.self.inside.lines.items = subst (λ (v : MembersValue). c.args.place < length v.lines) (sym c.self.view_is) c.requires in
    let spot : c.index.result.now ≡ get_or c.self.inside.spots.items c.args.place 0 = get_or_read c.self.inside.spots.items c.args.place c.index.result.now (omega (arith, c.self.invariant.all.stand.long)) c.index.ensures 0 in
    let least = subst (λ (n : ℕ). IsLeastWithin c.self.inside.marks (n + 1) 0 (length c.self.inside.marks) c.in_ok-spot.spot) spot c.in_ok-spot.ensures in
    let has = next_has c.self.inside.lines.items c.self.inside.firsts.items c.self.inside.spots.items c.self.inside.places.items c.self.inside.marks c.self.invariant c.args.place within c.in_ok-spot.spot least in
    let next : c.index-2.result.now ≡ get_or c.self.inside.places.items c.in_ok-spot.spot 0 = get_or_read c.self.inside.places.items c.in_ok-spot.spot c.index-2.result.now has.there c.index-2.ensures 0 in
    let read : c.index-3.result.now ≡ get_or c.self.inside.lines.items c.index-2.result.now 0 = get_or_read c.self.inside.lines.items c.index-2.result.now c.index-3.result.now (omega (arith, has.within, next)) c.index-3.ensures 0 in
    let here : c.index-4.result.now ≡ get_or c.self.inside.lines.items c.args.place 0 = get_or_read c.self.inside.lines.items c.args.place c.index-4.result.now within c.index-4.ensures 0 in
    subst (λ (v : MembersValue). NoneOfLineBehind v c.args.place) c.self.view_is
    (none_next c.self.inside.lines.items c.self.inside.firsts.items c.self.inside.spots.items c.self.inside.places.items c.self.inside.marks c.self.invariant c.args.place within c.in_ok-spot.spot least
    (λ is. c.if-index.false (read ∙ ap (λ (p : ℕ). get_or c.self.inside.lines.items p 0) next ∙ is ∙ sym here)))
