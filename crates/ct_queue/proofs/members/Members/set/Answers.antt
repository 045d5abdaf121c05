use Rattle.std.proofs.Common.{ℕ, ◌≡◌, ◌<◌, ◌∙◌, Bool, List, length, get_or, set, sym, ap, subst, arith}
use Rattle.std.proofs.lemmas.List.{get_or_read}
use Rattle.ct_queue.specs.Lines.{MembersValue, with_member}
use Rattle.ct_queue.specs.Spots.{AreOnSpots, members_value}
use Rattle.ct_queue.proofs.SpotLemmas.{on_spots_set, spot_there, value_set}
use Rattle.ct_queue.proofs.members.Members.set.Goals as goal

pub set-requires : goal.set-requires
set-requires c =
    let within : c.args.place < length c.self.inside.lines.items = subst (λ (v : MembersValue). c.args.place < length v.lines) (sym c.self.view_is) c.requires in
    let spot : c.index.result.now ≡ get_or c.self.inside.spots.items c.args.place 0 = get_or_read c.self.inside.spots.items c.args.place c.index.result.now (omega (arith, c.self.invariant.all.stand.long)) c.index.ensures 0 in
    let below = spot_there c.self.inside.lines.items c.self.inside.firsts.items c.self.inside.spots.items c.self.inside.places.items c.self.inside.marks c.self.invariant c.args.place within in
    let room = c.self.invariant.room in
    omega arith

pub invariant_of-self : goal.invariant_of-self
invariant_of-self c =
    let within : c.args.place < length c.self.inside.lines.items = subst (λ (v : MembersValue). c.args.place < length v.lines) (sym c.self.view_is) c.requires in
    let spot : c.index.result.now ≡ get_or c.self.inside.spots.items c.args.place 0 = get_or_read c.self.inside.spots.items c.args.place c.index.result.now (omega (arith, c.self.invariant.all.stand.long)) c.index.ensures 0 in
    let marks : c.set.new.self ≡ set c.self.inside.marks (get_or c.self.inside.spots.items c.args.place 0) c.args.member = c.set.ensures ∙ ap (λ (n : ℕ). set c.self.inside.marks n c.args.member) spot in
    subst (λ (ms : List Bool). AreOnSpots c.self.inside.lines.items c.self.inside.firsts.items c.self.inside.spots.items c.self.inside.places.items ms) (sym marks)
    (on_spots_set c.self.inside.lines.items c.self.inside.firsts.items c.self.inside.spots.items c.self.inside.places.items c.self.inside.marks c.self.invariant c.args.place within c.args.member)

pub returns : goal.returns
returns c =
    let within : c.args.place < length c.self.inside.lines.items = subst (λ (v : MembersValue). c.args.place < length v.lines) (sym c.self.view_is) c.requires in
    let spot : c.index.result.now ≡ get_or c.self.inside.spots.items c.args.place 0 = get_or_read c.self.inside.spots.items c.args.place c.index.result.now (omega (arith, c.self.invariant.all.stand.long)) c.index.ensures 0 in
    let marks : c.set.new.self ≡ set c.self.inside.marks (get_or c.self.inside.spots.items c.args.place 0) c.args.member = c.set.ensures ∙ ap (λ (n : ℕ). set c.self.inside.marks n c.args.member) spot in
    ap (λ (ms : List Bool). members_value c.self.inside.lines.items c.self.inside.spots.items ms) marks
    ∙ value_set c.self.inside.lines.items c.self.inside.firsts.items c.self.inside.spots.items c.self.inside.places.items c.self.inside.marks c.self.invariant c.args.place within c.args.member
    ∙ ap (λ (v : MembersValue). with_member v c.args.place c.args.member) c.self.view_is
