use Rattle.std.specs.Prelude.{◌≡◌, is_some}
use Rattle.ct_worker.specs.Work.{IsUnderWay, terms_in}
use Rattle.ct_worker.proofs.worker.attend.Given as goal

abbrev pub invariant-loop : goal.invariant-loop
invariant-loop g l =
    IsUnderWay (terms_in l.jobs l.fn.pass.known.plan) l.fn.pass l.pass (g.G.Gate.tells l.fn.gate) (g.G.Gate.tells l.gate) l.answer.next
    × (l.answer.lends ≡ is_some l.fn.pass.known.plan.resources)
