use Rattle.std.proofs.Common.{rules, ◌≡◌, ℕ, List, subst, sym}
use Rattle.std.specs.List.Sorted.{IsNonDecreasing}
use Rattle.std.proofs.lemmas.Map.Keys.{non_decreasing_from_sorted}
use Rattle.ct_explain.proofs.bars.listed.Goals as goal

pub returns-clause-ascend : goal.returns-clause-ascend
returns-clause-ascend c =
    let same : c.loop-worker.workers ≡ c.args.kept.keys = search rules in
    subst (λ (ws : List ℕ). IsNonDecreasing ws) (sym same) (non_decreasing_from_sorted c.args.kept.keys c.into_iter-worker-iterator.ensures.into_iter_gives.4)
