use Rattle.std.proofs.Common.{◌≡◌, ◌∙◌, ℕ, ◌+◌, List, ap, subst, sym, length}
use Rattle.ct_turn.specs.Pass.{PassValue}
use Rattle.ct_worker.specs.Crew.{HasSplit}
use Rattle.ct_worker.proofs.CrewLemmas.{split_step}
use Rattle.ct_worker.proofs.crew.split_all.Goals as goal

pub loop-preserved : goal.loop-preserved
loop-preserved g c =
    let so_far = c.loop.invariant in
    let pushed = c.push_reserved-in-loop.ensures in
    let size : length c.loop.passes.items ≡ c.loop.counter + 1 = sym c.loop.passes.ok.0 ∙ so_far.count in
    record {
      split = subst (λ (ps : List PassValue). HasSplit c.args.turn.now c.args.first (c.loop.counter + 1) ps) (sym {A = List PassValue} pushed.items)
          (split_step c.args.turn.now c.args.first c.loop.counter c.loop.passes.items c.index_mut.result.now c.split-pass.new.pass c.split-pass.result
          so_far.split size c.index_mut.ensures.value c.split-pass.ensures.pass c.split-pass.ensures.other);
      count = pushed.len ∙ ap (λ (n : ℕ). n + 1) so_far.count;
      room = pushed.capacity ∙ so_far.room;
    }
