use Rattle.std.proofs.Common.{◌≡◌, map, take}
use Rattle.ct_history.specs.declared.plan.PlanTest.{PlanTest}
use Rattle.ct_core.proofs.FollowerLemmas.{listed}
use Rattle.ct_core.proofs.followers.follow.Given as goal

abbrev pub invariant-loop-predecessor : goal.invariant-loop-predecessor
invariant-loop-predecessor l = l.followers.items ≡ map (λ (t : PlanTest). listed (take l.at l.tests) l.test (take l.predecessor-index l.test.before) t.number) l.tests
