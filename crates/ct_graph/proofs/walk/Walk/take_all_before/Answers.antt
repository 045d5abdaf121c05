use Rattle.std.proofs.Common.{◌≡◌, ◌<◌, ◌∙◌, ◌∷◌, [], reverse, refl, subst, ap, sym}
use Rattle.std.proofs.lemmas.List.{get_or-set_same}
use Rattle.ct_graph.specs.Walk.{IsWalk, WalksOn, mark_of, is_unseen, is_ranked, trail_of}
use Rattle.ct_graph.specs.declared.walk.Mark.TheVariants.{Unseen, Open}
use Rattle.ct_graph.proofs.WalkLemmas.{opens, same_walk, trail_push, goes-set}
use Rattle.ct_graph.proofs.walk.Walk.take_all_before.Goals as goal

pub loop-step-init : goal.loop-step-init
loop-step-init c =
    let rows = c.args.rows.now in
    let old = c.args.self.now in
    let test = c.args.test in
    let empty : trail_of old ≡ [] = ap reverse c.requires.empty in
    let walk : IsWalk rows old.marks.items [] old.taken = subst (λ ss. IsWalk rows old.marks.items ss old.taken) empty c.requires.kept in
    let inside = subst (λ n. test < n) (sym walk.marked) c.requires.test in
    let trail : trail_of c.open.new.self ≡ record { test = test; looked = 0 } ∷ [] = trail_push old.path.items c.open.new.self.path.items (record { test = test; looked = 0 }) c.in_ok-open.ensures.path ∙ ap (λ ss. record { test = test; looked = 0 } ∷ ss) empty in (
      same_walk rows _ _ _ _ _ _ c.in_ok-open.ensures.marks trail c.in_ok-open.ensures.taken (opens rows old.marks.items [] old.taken test walk c.requires.test c.requires.unseen refl),
      subst (WalksOn old.marks.items) (sym c.in_ok-open.ensures.marks) (goes-set rows old.marks.items test Open inside (ap is_ranked c.requires.unseen) refl),
      ap (λ ms. is_unseen (mark_of ms test)) c.in_ok-open.ensures.marks ∙ ap is_unseen (get_or-set_same old.marks.items test Open Unseen inside),
    )
