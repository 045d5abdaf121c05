use Rattle.std.proofs.Common.{◌≡◌, ◌∙◌, ℕ, List, Option, is_some, option_copied, sym, ap, subst}
use Rattle.std.specs.Option.{unwrap_or}
use Rattle.std.proofs.lemmas.Bool.{true≢false}
use Rattle.ct_queue.specs.Ready.{ReadyValue}
use Rattle.ct_queue.specs.Kept.{AreFoundByNumber}
use Rattle.ct_queue.proofs.ReadyLemmas.{found_at}
use Rattle.ct_queue.proofs.ready.Ready.place.Goals as goal

pub unreachable-requires : goal.unreachable-requires
unreachable-requires c =
    let order : c.self.inside.order.value ≡ c.args.self.now.order = ap (λ (v : ReadyValue). v.order) c.self.view_is in
    let found = found_at c.self.inside.places c.args.self.now.order c.args.test (subst (λ (o : List ℕ). AreFoundByNumber c.self.inside.places o) order c.self.invariant.found) c.requires in
    true≢false (ap is_some (sym found ∙ sym c.get.ensures.value ∙ ap option_copied c.in-None.is))

pub returns : goal.returns
returns c =
    let order : c.self.inside.order.value ≡ c.args.self.now.order = ap (λ (v : ReadyValue). v.order) c.self.view_is in
    let found = found_at c.self.inside.places c.args.self.now.order c.args.test (subst (λ (o : List ℕ). AreFoundByNumber c.self.inside.places o) order c.self.invariant.found) c.requires in
    ap (λ (o : Option ℕ). unwrap_or o 0) (sym (ap option_copied c.in-Some.is) ∙ c.get.ensures.value ∙ found)
