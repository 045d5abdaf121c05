use Rattle.std.proofs.Common.{◌≡◌, ◌<◌, ◌∙◌, ℕ, List, length, set, sym, ap, subst}
use Rattle.ct_queue.specs.Ready.{ReadyValue}
use Rattle.ct_queue.specs.Lines.{LinesValue}
use Rattle.ct_queue.specs.Kept.{IsReadySet, ready_of, with_standing}
use Rattle.ct_queue.proofs.ReadyLemmas.{kept_set, ready_set}
use Rattle.ct_queue.proofs.ready.Ready.put.Goals as goal

pub invariant_of-self : goal.invariant_of-self
invariant_of-self c =
    let order : c.self.inside.order.value ≡ c.args.self.now.order = ap (λ (v : ReadyValue). v.order) c.self.view_is in
    let within : c.args.place < length c.self.inside.order.value = subst (λ (o : List ℕ). c.args.place < length o) (sym order) c.requires in
    subst (λ (lines : LinesValue). IsReadySet c.self.inside.order.value c.self.inside.places (set c.self.inside.standings.items c.args.place c.args.standing) lines) (sym c.set.ensures)
    (kept_set c.self.inside.order.value c.self.inside.places c.self.inside.standings.items c.self.inside.lines c.args.place c.args.standing c.is_ready.result c.self.invariant within c.is_ready.ensures)

pub returns : goal.returns
returns c =
    ap (λ (lines : LinesValue). ready_of c.self.inside.order.value (set c.self.inside.standings.items c.args.place c.args.standing) lines.lines lines.bunches) c.set.ensures
    ∙ ready_set c.self.inside.order.value c.self.inside.standings.items c.self.inside.lines.lines c.self.inside.lines.bunches c.args.place c.args.standing
    ∙ ap (λ (v : ReadyValue). with_standing v c.args.place c.args.standing) c.self.view_is
