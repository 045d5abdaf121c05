use Rattle.std.proofs.Common.{◌≡◌, ◌<◌, length, get_or, subst, sym, arith}
use Rattle.std.proofs.lemmas.List.{get_or_read}
use Rattle.ct_queue.specs.Lines.{MembersValue}
use Rattle.ct_queue.proofs.members.Members.line.Goals as goal

pub returns-clause-within : goal.returns-clause-within
returns-clause-within c =
    let within : c.args.place < length c.self.inside.lines.items = subst (λ (v : MembersValue). c.args.place < length v.lines) (sym c.self.view_is) c.requires in
    let read : c.index.result.now ≡ get_or c.self.inside.lines.items c.args.place 0 = get_or_read c.self.inside.lines.items c.args.place c.index.result.now within c.index.ensures 0 in
    let below = c.self.invariant.all.numbered c.args.place within in
    subst (λ (v : MembersValue). c.index.result.now < length v.lines) c.self.view_is (omega arith)
