use Rattle.std.proofs.Common.{ℕ, ◌≡◌, ◌+◌, length, get_or, set, take, sym, subst, arith}
use Rattle.std.proofs.lemmas.List.{get_or_read}
use Rattle.ct_queue.specs.Spots.{IsTable, size_of}
use Rattle.ct_queue.proofs.SpotLemmas.{first_fits, size_part}
use Rattle.ct_queue.proofs.BuildLemmas.{sizes_more}
use Rattle.ct_queue.proofs.members.sizes.Goals as goal

pub overflow_add-index_mut : goal.overflow_add-index_mut
overflow_add-index_mut c =
    let read : c.index_mut.result.now ≡ get_or c.loop-line.sizes.items (get_or c.args.lines.now c.loop-line.line-index 0) 0 = get_or_read c.loop-line.sizes.items (get_or c.args.lines.now c.loop-line.line-index 0) c.index_mut.result.now (omega (arith, c.requires.numbered c.loop-line.line-index c.loop-line-test.true, c.loop-line.invariant.long)) c.index_mut.ensures.value 0 in
    let size = c.loop-line.invariant.reads (get_or c.args.lines.now c.loop-line.line-index 0) (c.requires.numbered c.loop-line.line-index c.loop-line-test.true) in
    let part = size_part c.args.lines.now c.loop-line.line-index (get_or c.args.lines.now c.loop-line.line-index 0) in
    let fits = first_fits c.args.lines.now (get_or c.args.lines.now c.loop-line.line-index 0) in
    omega arith

pub loop-line-preserved : goal.loop-line-preserved
loop-line-preserved c =
    let read : c.index_mut.result.now ≡ get_or c.loop-line.sizes.items (get_or c.args.lines.now c.loop-line.line-index 0) 0 = get_or_read c.loop-line.sizes.items (get_or c.args.lines.now c.loop-line.line-index 0) c.index_mut.result.now (omega (arith, c.requires.numbered c.loop-line.line-index c.loop-line-test.true, c.loop-line.invariant.long)) c.index_mut.ensures.value 0 in
    subst (λ (n : ℕ). IsTable (size_of (take (c.loop-line.line-index + 1) c.args.lines.now)) (length c.args.lines.now) (set c.loop-line.sizes.items (get_or c.args.lines.now c.loop-line.line-index 0) (n + 1))) (sym read)
    (sizes_more c.args.lines.now c.loop-line.sizes.items c.loop-line.line-index c.requires.numbered c.loop-line-test.true c.loop-line.invariant)
