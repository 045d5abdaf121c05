use Rattle.std.proofs.Common.{◌≡◌, ◌<◌, ◌∙◌, ◌∷◌, [], true, false, get_or, set, take, length, subst, ap, sym}
use Rattle.std.proofs.lemmas.List.{get_or_read}
use Rattle.ct_graph.specs.Cycle.{is_cycle}
use Rattle.ct_graph.specs.Walk.{row_of, mark_of, is_ranked, are_taken, back_to, trail_of, WalksOn}
use Rattle.ct_graph.specs.declared.walk.Mark.TheVariants.{Unseen, Open}
use Rattle.ct_graph.proofs.WalkLemmas.{takes, same_walk, trail_push, next_inside, finds_cycle, opens_next, goes_next, fewer_next}
use Rattle.ct_graph.proofs.walk.Walk.advance.Goals as goal

pub returns-in_default-clause-kept : goal.returns-in_default-clause-kept
returns-in_default-clause-kept c =
    let row : c.as_slice-row.result.now ≡ row_of c.args.rows.now c.args.step.test = c.as_slice-row.ensures ∙ get_or_read c.args.rows.now c.args.step.test c.index-rows-step.result c.requires.kept.is_trail.0.within c.index-rows-step.is [] in
    let all : are_taken c.args.self.now.marks.items (row_of c.args.rows.now c.args.step.test) ≡ true = subst (λ r. are_taken c.args.self.now.marks.items r ≡ true) row c.in_default.ensures.none in
    rw (c.take.ensures.marks, c.take.ensures.path, c.take.ensures.taken) (takes c.args.rows.now c.args.self.now.marks.items c.args.step _ c.args.self.now.taken c.requires.kept all)

pub returns-in-Open-clause-err : goal.returns-in-Open-clause-err
returns-in-Open-clause-err c =
    let rows = c.args.rows.now in
    let old = c.args.self.now in
    let test = c.args.step.test in
    let at = c.in-Some.at in
    let row : c.as_slice-row.result.now ≡ row_of rows test = c.as_slice-row.ensures ∙ get_or_read rows test c.index-rows-step.result c.requires.kept.is_trail.0.within c.index-rows-step.is [] in
    let few = subst (λ r. at < length r) row c.in-Some.ensures.none in
    let same : get_or c.as_slice-row.result.now at 0 ≡ get_or (row_of rows test) at 0 = ap (λ r. get_or r at 0) row in
    let inside = next_inside rows old.marks.items c.args.step (trail_of old) old.taken at c.requires.within c.requires.kept few in
    let read : c.index.result.now ≡ get_or old.marks.items (get_or (row_of rows test) at 0) c.index.result.now = c.index.ensures ∙ ap (λ ms. get_or ms.items (get_or c.as_slice-row.result.now at 0) c.index.result.now) c.in_ok-put.ensures.marks ∙ ap (λ n. get_or old.marks.items n c.index.result.now) same in
    let is_open : mark_of old.marks.items (get_or (row_of rows test) at 0) ≡ Open = sym (get_or_read old.marks.items (get_or (row_of rows test) at 0) c.index.result.now inside read Unseen) ∙ c.in-Open.is in
    let trail = trail_push old.path.items c.put.new.self.path.items (record { test = test; looked = at }) c.in_ok-put.ensures.path in
    ap (is_cycle (row_of rows)) (c.in_ok-cycle.ensures ∙ ap (λ n. back_to n (trail_of c.put.new.self) []) same ∙ ap (λ ss. back_to (get_or (row_of rows test) at 0) ss []) trail)
    ∙ finds_cycle rows old.marks.items c.args.step (trail_of old) old.taken at c.requires.within c.requires.kept few is_open

pub returns : goal.returns
returns c =
    let rows = c.args.rows.now in
    let old = c.args.self.now in
    let test = c.args.step.test in
    let at = c.in-Some.at in
    let row : c.as_slice-row.result.now ≡ row_of rows test = c.as_slice-row.ensures ∙ get_or_read rows test c.index-rows-step.result c.requires.kept.is_trail.0.within c.index-rows-step.is [] in
    let few = subst (λ r. at < length r) row c.in-Some.ensures.none in
    let same : get_or c.as_slice-row.result.now at 0 ≡ get_or (row_of rows test) at 0 = ap (λ r. get_or r at 0) row in
    let inside = next_inside rows old.marks.items c.args.step (trail_of old) old.taken at c.requires.within c.requires.kept few in
    let read : c.index.result.now ≡ get_or old.marks.items (get_or (row_of rows test) at 0) c.index.result.now = c.index.ensures ∙ ap (λ ms. get_or ms.items (get_or c.as_slice-row.result.now at 0) c.index.result.now) c.in_ok-put.ensures.marks ∙ ap (λ n. get_or old.marks.items n c.index.result.now) same in
    let mark : c.index.result.now ≡ mark_of old.marks.items (get_or (row_of rows test) at 0) = get_or_read old.marks.items (get_or (row_of rows test) at 0) c.index.result.now inside read Unseen in
    let closed = λ (is : mark_of old.marks.items (get_or (row_of rows test) at 0) ≡ Open). c.in_default-index.not-Open (mark ∙ is) in
    let looked = subst (λ r. are_taken old.marks.items (take at r) ≡ true) row c.in-Some.ensures.front in
    let untaken = subst (λ n. is_ranked (mark_of old.marks.items n) ≡ false) same c.in-Some.ensures.untaken in
    let now : c.open.new.self.marks.items ≡ set old.marks.items (get_or (row_of rows test) at 0) Open = c.in_ok-open.ensures.marks ∙ ap (λ ms. set ms.items (get_or c.as_slice-row.result.now at 0) Open) c.in_ok-put.ensures.marks ∙ ap (λ n. set old.marks.items n Open) same in
    let trail : trail_of c.open.new.self ≡ record { test = get_or (row_of rows test) at 0; looked = 0 } ∷ record { test = test; looked = at } ∷ trail_of old =
    trail_push c.put.new.self.path.items c.open.new.self.path.items (record { test = get_or c.as_slice-row.result.now at 0; looked = 0 }) c.in_ok-open.ensures.path
    ∙ ap (λ ss. record { test = get_or c.as_slice-row.result.now at 0; looked = 0 } ∷ ss) (trail_push old.path.items c.put.new.self.path.items (record { test = test; looked = at }) c.in_ok-put.ensures.path)
    ∙ ap (λ n. record { test = n; looked = 0 } ∷ record { test = test; looked = at } ∷ trail_of old) same in
    record {
      kept = same_walk rows _ _ _ _ _ _ now trail (c.in_ok-open.ensures.taken ∙ c.in_ok-put.ensures.taken) (opens_next rows old.marks.items c.args.step (trail_of old) old.taken at c.requires.within c.requires.kept few looked untaken closed);
      goes = subst (WalksOn old.marks.items) (sym now) (goes_next rows old.marks.items c.args.step (trail_of old) old.taken at c.requires.within c.requires.kept few looked untaken closed);
      fewer = fewer_next rows old.marks.items c.args.step (trail_of old) old.taken at c.requires.within c.requires.kept few looked untaken closed (trail_of c.open.new.self) trail c.open.new.self.marks.items now;
      err = tt;
    }
