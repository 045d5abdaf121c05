use Rattle.std.proofs.Common.{rules}
use Rattle.std.proofs.lemmas.List.Sorted.{answers_always}
use Rattle.ct_plan.specs.Queue.{is_more_urgent}
use Rattle.ct_plan.proofs.UrgencyLemmas.{urgent_order}
use Rattle.ct_plan.proofs.queue.sorted.Goals as goal

pub returns-clause-sorted : goal.returns-clause-sorted
returns-clause-sorted c = c.sort_unstable_by.ensures.sorted is_more_urgent urgent_order (answers_always _ _ _ (λ f a r g h. search rules))
