use Rattle.std.proofs.Common.{ℕ, ◌<◌, ◌∙◌, Bool, true, List, length, sym, ap, subst}
use Rattle.ct_queue.specs.Marks.{with_mark}
use Rattle.ct_queue.specs.Lines.{MembersValue, with_member}
use Rattle.ct_queue.specs.Spots.{AreHeads}
use Rattle.ct_queue.proofs.HeadLemmas.{IsFoundIn, heads_set, line_in}
use Rattle.ct_queue.proofs.lines.Lines.set.Goals as goal

pub first_of-after-requires : goal.first_of-after-requires
first_of-after-requires c =
    subst (λ (v : MembersValue). c.line-line.result < length v.lines) (sym c.set.ensures) c.line-line.ensures.within

pub invariant_of-self : goal.invariant_of-self
invariant_of-self c =
    let was = subst (λ (line : ℕ). IsFoundIn c.self.inside.members line c.first_of-before.result) c.line-line.ensures.is c.first_of-before.ensures in
    let now = subst (λ (line : ℕ). IsFoundIn c.set.new.self line c.first_of-after.result) c.line-line.ensures.is c.first_of-after.ensures in
    let is = subst (λ (v : MembersValue). IsFoundIn v (line_in c.self.inside.members c.args.place) c.first_of-after.result) c.set.ensures now in
    let marks = c.stand_there-2.ensures.heads ∙ ap (λ (ms : List Bool). with_mark ms c.first_of-after.result true) c.stand_there.ensures.heads in
    let lines = c.stand_there-2.ensures.bunches ∙ c.stand_there.ensures.bunches in
    record {
      bunched = ap length lines ∙ c.self.invariant.bunched ∙ ap (λ (v : MembersValue). length v.lines) (sym c.set.ensures);
      marked =
          subst (λ (v : MembersValue). AreHeads v c.stand_there-2.new.heads.members) (sym c.set.ensures)
          (subst (λ (ms : List Bool). AreHeads (with_member c.self.inside.members c.args.place c.args.member) ms) (sym marks)
          (heads_set c.self.inside.members c.self.inside.heads.members c.args.place c.args.member c.first_of-before.result c.first_of-after.result c.self.invariant.marked was is));
    }
