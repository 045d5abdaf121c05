use Rattle.std.proofs.Common.{ℕ, ◌≡◌, ◌+◌, List, [], ◌∷◌, ◌++◌, get_or, set, sym, subst, arith, rules}
use Rattle.std.proofs.lemmas.List.{get_or_read}
use Rattle.ct_queue.proofs.BuildLemmas.{AreDealt, dealt_fits, dealt_more}
use Rattle.ct_queue.proofs.members.spots.Goals as goal

pub overflow_add-index_mut : goal.overflow_add-index_mut
overflow_add-index_mut c =
    let read : c.index_mut.result.now ≡ get_or c.loop-line.next.items (get_or c.args.lines.now c.loop-line.line-index 0) 0 = get_or_read c.loop-line.next.items (get_or c.args.lines.now c.loop-line.line-index 0) c.index_mut.result.now (omega (arith, c.requires.numbered c.loop-line.line-index c.loop-line-test.true, c.loop-line.invariant.long)) c.index_mut.ensures.value 0 in
    let fits = dealt_fits c.args.lines.now c.loop-line.next.items c.loop-line.spots.items c.loop-line.line-index c.requires.numbered c.loop-line-test.true c.loop-line.invariant in
    omega arith

pub loop-line-preserved : goal.loop-line-preserved
loop-line-preserved c =
    let at : c.index.result.now ≡ get_or c.loop-line.next.items (get_or c.args.lines.now c.loop-line.line-index 0) 0 = get_or_read c.loop-line.next.items (get_or c.args.lines.now c.loop-line.line-index 0) c.index.result.now (omega (arith, c.requires.numbered c.loop-line.line-index c.loop-line-test.true, c.loop-line.invariant.long)) c.index.ensures 0 in
    let read : c.index_mut.result.now ≡ get_or c.loop-line.next.items (get_or c.args.lines.now c.loop-line.line-index 0) 0 = get_or_read c.loop-line.next.items (get_or c.args.lines.now c.loop-line.line-index 0) c.index_mut.result.now (omega (arith, c.requires.numbered c.loop-line.line-index c.loop-line-test.true, c.loop-line.invariant.long)) c.index_mut.ensures.value 0 in
    let pushed : c.push.new.self.items ≡ c.loop-line.spots.items ++ c.index.result.now ∷ [] = search rules in
    let more = dealt_more c.args.lines.now c.loop-line.next.items c.loop-line.spots.items c.loop-line.line-index c.requires.numbered c.loop-line-test.true c.loop-line.invariant in
    subst (λ (l : List ℕ). AreDealt c.args.lines.now (c.loop-line.line-index + 1) (set c.loop-line.next.items (get_or c.args.lines.now c.loop-line.line-index 0) (c.index_mut.result.now + 1)) l) (sym pushed)
    (subst (λ (n : ℕ). AreDealt c.args.lines.now (c.loop-line.line-index + 1) (set c.loop-line.next.items (get_or c.args.lines.now c.loop-line.line-index 0) (c.index_mut.result.now + 1)) (c.loop-line.spots.items ++ n ∷ [])) (sym at)
    (subst (λ (n : ℕ). AreDealt c.args.lines.now (c.loop-line.line-index + 1) (set c.loop-line.next.items (get_or c.args.lines.now c.loop-line.line-index 0) (n + 1)) (c.loop-line.spots.items ++ get_or c.loop-line.next.items (get_or c.args.lines.now c.loop-line.line-index 0) 0 ∷ [])) (sym read) more))
