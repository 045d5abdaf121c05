use Rattle.std.proofs.Common.{ℕ, ◌<◌, ◌∙◌, Bool, true, List, length, sym, ap, subst}
use Rattle.ct_queue.specs.Marks.{with_mark}
use Rattle.ct_queue.specs.Lines.{MembersValue, with_member}
use Rattle.ct_queue.specs.Spots.{AreHeads}
use Rattle.ct_queue.proofs.HeadLemmas.{IsFoundIn, heads_set, line_in}
use Rattle.ct_queue.proofs.bunches.Bunches.set.Goals as goal

pub first_of-after-requires : goal.first_of-after-requires
first_of-after-requires c =
    subst (λ (v : MembersValue). c.line-bunch.result < length v.lines) (sym c.set.ensures) c.line-bunch.ensures.within

pub invariant_of-self : goal.invariant_of-self
invariant_of-self c =
    let was = subst (λ (line : ℕ). IsFoundIn c.self.inside.members line c.first_of-before.result) c.line-bunch.ensures.is c.first_of-before.ensures in
    let now = subst (λ (line : ℕ). IsFoundIn c.set.new.self line c.first_of-after.result) c.line-bunch.ensures.is c.first_of-after.ensures in
    let is = subst (λ (v : MembersValue). IsFoundIn v (line_in c.self.inside.members c.args.place) c.first_of-after.result) c.set.ensures now in
    let marks = c.mark_there-2.ensures ∙ ap (λ (ms : List Bool). with_mark ms c.first_of-after.result true) c.mark_there.ensures in
    subst (λ (v : MembersValue). AreHeads v c.mark_there-2.new.marks) (sym c.set.ensures)
    (subst (λ (ms : List Bool). AreHeads (with_member c.self.inside.members c.args.place c.args.member) ms) (sym marks)
    (heads_set c.self.inside.members c.self.inside.heads c.args.place c.args.member c.first_of-before.result c.first_of-after.result c.self.invariant was is))
