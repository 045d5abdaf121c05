use Rattle.std.proofs.Common.{◌≡◌, ◌<◌, ◌∙◌, [], reverse, get_or, length, subst, ap, sym}
use Rattle.std.proofs.lemmas.List.{get_or_read}
use Rattle.std.proofs.lemmas.List.Elements.{All-get_or}
use Rattle.ct_graph.specs.Walk.{IsWalk, mark_of, trail_of}
use Rattle.ct_graph.specs.declared.walk.Mark.TheVariants.{Unseen}
use Rattle.ct_graph.proofs.WalkLemmas.{takes_more, taken_at_end, goes-refl, seen_from}
use Rattle.ct_graph.proofs.walk.marks.Goals as goal
use Rattle.ct_graph.proofs.walk.marks.Goals.{in-Unseen+in_ok-take_all_before, in_default}

pub loop-test-preserved : goal.loop-test-preserved
loop-test-preserved c =
    let rows = c.args.rows.now in
    let members = c.args.members.now in
    let old = c.loop-test.walk in
    let at = c.loop-test.test-index in
    let within = c.loop-test-test.true in
    let has_row : get_or members at 0 < length rows = All-get_or (λ test. test < length rows) members at 0 within c.requires.members in
    let inside = subst (λ n. get_or members at 0 < n) (sym c.loop-test.invariant.0.marked) has_row in
    let mark : c.index.result.now ≡ mark_of old.marks.items (get_or members at 0) = get_or_read old.marks.items (get_or members at 0) c.index.result.now inside c.index.ensures Unseen in
    let empty : trail_of old ≡ [] = ap reverse c.loop-test.invariant.1 in
    let walk : IsWalk rows old.marks.items [] old.taken = subst (λ ss. IsWalk rows old.marks.items ss old.taken) empty c.loop-test.invariant.0 in
    elim c.match-index.branch [
      | in-Unseen+in_ok-take_all_before w ↦
          rw w.walk-is (
            w.in_ok-take_all_before.ensures.kept,
            w.in_ok-take_all_before.ensures.empty,
            takes_more old.marks.items w.take_all_before.new.self.marks.items members at 0 within w.in_ok-take_all_before.ensures.goes c.loop-test.invariant.2 w.in_ok-take_all_before.ensures.taken,
          )
      | in_default w ↦
          rw w.walk-is (
            c.loop-test.invariant.0,
            c.loop-test.invariant.1,
            takes_more old.marks.items old.marks.items members at 0 within (goes-refl old.marks.items) c.loop-test.invariant.2
                (taken_at_end rows old.marks.items old.taken (get_or members at 0) walk (seen_from (mark_of old.marks.items (get_or members at 0)) (λ is. w.in_default.not-Unseen (mark ∙ is)))),
          )
    ]
