use Rattle.std.proofs.Common.{ℕ, ◌≡◌, ◌<◌, ◌∙◌, length, get_or, Option, None, MatchOption, sym, ap, subst, arith, rules}
use Rattle.std.proofs.lemmas.List.{get_or_read}
use Rattle.ct_queue.specs.Marks.{NoneWithin, IsLeastWithin}
use Rattle.ct_queue.specs.Lines.{IsHeadOfLine, MembersValue, NoneOfLine}
use Rattle.ct_queue.specs.Spots.{members_value}
use Rattle.ct_queue.proofs.SpotLemmas.{head_found, head_of_other, none_of_line, spot_has}
use Rattle.ct_queue.proofs.members.Members.first_of.Goals as goal

pub returns-in_err-spot : goal.returns-in_err-spot
returns-in_err-spot c =
    let numbered : c.args.line < length c.self.inside.lines.items = subst (λ (v : MembersValue). c.args.line < length v.lines) (sym c.self.view_is) c.requires in
    let first : c.index.result.now ≡ get_or c.self.inside.firsts.items c.args.line 0 = get_or_read c.self.inside.firsts.items c.args.line c.index.result.now (omega (arith, c.self.invariant.all.begin.long)) c.index.ensures 0 in
    let none = subst (λ (n : ℕ). NoneWithin c.self.inside.marks n 0 (length c.self.inside.marks)) first c.in_err-spot.ensures in
    let is : c.from_residual.result ≡ None = search rules in
    subst (λ (found : Option ℕ). MatchOption found (NoneOfLine c.args.self.now c.args.line) (IsHeadOfLine c.args.self.now c.args.line)) (sym is)
    (subst (λ (v : MembersValue). NoneOfLine v c.args.line) c.self.view_is (none_of_line c.self.inside.lines.items c.self.inside.firsts.items c.self.inside.spots.items c.self.inside.places.items c.self.inside.marks c.self.invariant c.args.line numbered none))

pub returns-then-index-line : goal.returns-then-index-line
returns-then-index-line c =
    let numbered : c.args.line < length c.self.inside.lines.items = subst (λ (v : MembersValue). c.args.line < length v.lines) (sym c.self.view_is) c.requires in
    let first : c.index.result.now ≡ get_or c.self.inside.firsts.items c.args.line 0 = get_or_read c.self.inside.firsts.items c.args.line c.index.result.now (omega (arith, c.self.invariant.all.begin.long)) c.index.ensures 0 in
    let least = subst (λ (n : ℕ). IsLeastWithin c.self.inside.marks n 0 (length c.self.inside.marks) c.in_ok-spot.spot) first c.in_ok-spot.ensures in
    let has = spot_has c.self.inside.lines.items c.self.inside.firsts.items c.self.inside.spots.items c.self.inside.places.items c.self.inside.marks c.self.invariant c.args.line numbered c.in_ok-spot.spot least in
    let place : c.index-2.result.now ≡ get_or c.self.inside.places.items c.in_ok-spot.spot 0 = get_or_read c.self.inside.places.items c.in_ok-spot.spot c.index-2.result.now has.there c.index-2.ensures 0 in
    let read : c.index-3.result.now ≡ get_or c.self.inside.lines.items c.index-2.result.now 0 = get_or_read c.self.inside.lines.items c.index-2.result.now c.index-3.result.now (omega (arith, has.within, place)) c.index-3.ensures 0 in
    let is : get_or c.self.inside.lines.items (get_or c.self.inside.places.items c.in_ok-spot.spot 0) 0 ≡ c.args.line = ap (λ (p : ℕ). get_or c.self.inside.lines.items p 0) (sym place) ∙ sym read ∙ c.if-index-line.true in
    subst (λ (v : MembersValue). IsHeadOfLine v c.args.line c.index-2.result.now) c.self.view_is
    (subst (λ (p : ℕ). IsHeadOfLine (members_value c.self.inside.lines.items c.self.inside.spots.items c.self.inside.marks) c.args.line p) (sym place)
    (head_found c.self.inside.lines.items c.self.inside.firsts.items c.self.inside.spots.items c.self.inside.places.items c.self.inside.marks c.self.invariant c.args.line numbered c.in_ok-spot.spot least is))

pub returns-else-index-line : goal.returns-else-index-line
returns-else-index-line c =
    let numbered : c.args.line < length c.self.inside.lines.items = subst (λ (v : MembersValue). c.args.line < length v.lines) (sym c.self.view_is) c.requires in
    let first : c.index.result.now ≡ get_or c.self.inside.firsts.items c.args.line 0 = get_or_read c.self.inside.firsts.items c.args.line c.index.result.now (omega (arith, c.self.invariant.all.begin.long)) c.index.ensures 0 in
    let least = subst (λ (n : ℕ). IsLeastWithin c.self.inside.marks n 0 (length c.self.inside.marks) c.in_ok-spot.spot) first c.in_ok-spot.ensures in
    let has = spot_has c.self.inside.lines.items c.self.inside.firsts.items c.self.inside.spots.items c.self.inside.places.items c.self.inside.marks c.self.invariant c.args.line numbered c.in_ok-spot.spot least in
    let place : c.index-2.result.now ≡ get_or c.self.inside.places.items c.in_ok-spot.spot 0 = get_or_read c.self.inside.places.items c.in_ok-spot.spot c.index-2.result.now has.there c.index-2.ensures 0 in
    let read : c.index-3.result.now ≡ get_or c.self.inside.lines.items c.index-2.result.now 0 = get_or_read c.self.inside.lines.items c.index-2.result.now c.index-3.result.now (omega (arith, has.within, place)) c.index-3.ensures 0 in
    subst (λ (v : MembersValue). NoneOfLine v c.args.line) c.self.view_is
    (head_of_other c.self.inside.lines.items c.self.inside.firsts.items c.self.inside.spots.items c.self.inside.places.items c.self.inside.marks c.self.invariant c.args.line numbered c.in_ok-spot.spot least (λ is. c.if-index-line.false (read ∙ ap (λ (p : ℕ). get_or c.self.inside.lines.items p 0) place ∙ is)))
