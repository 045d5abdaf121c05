use Rattle.std.proofs.Common.{rules, ◌≡◌, ◌∙◌, ◌+◌, ◌*◌, ◌<◌, ℕ, ap, get_or, length, subst, sym, take}
use Rattle.std.specs.Prelude.{sum_by}
use Rattle.ct_history.specs.declared.plan.PlanTest.{PlanTest}
use Rattle.ct_times.specs.Works.{kept_at}
use Rattle.ct_times.specs.Bounds.{IsShare, amount_by, done_by}
use Rattle.ct_times.proofs.MeasureLemmas.{sum_next}
use Rattle.ct_times.proofs.amounts.shared_by.Goals as goal

pub loop-test-preserved : goal.loop-test-preserved
loop-test-preserved c =
    let at = c.loop-test.test-index in
    let tests = c.args.tests.now in
    let item = c.test-item.result in
    let within : at < length tests = search rules in
    let is : item ≡ get_or tests at item = search rules in
    let f = λ (t : PlanTest). kept_at c.args.works.now t.number * amount_by c.args.level (done_by c.args.works.now) c.args.capacity.now c.args.size t in
    let front = sum_by f (take at tests) in
    let sum : sum_by f (take (at + 1) tests) ≡ front + f item = sum_next f tests at item within is in
    let product : c.work_at.result * c.amount_of-amount.result ≡ f item = cc in
    subst (λ (n : ℕ). IsShare c.share_more-share.result c.args.size n) (ap (λ (n : ℕ). front + n) product ∙ sym sum)
    (c.share_more-share.ensures front c.loop-test.invariant)
