use Rattle.std.proofs.Common.{◌≡◌, ◌≢◌, arith, inr, subst}
use Rattle.std.specs.Prelude.{MatchOption, Option, vec_capacity}
use Rattle.ct_core.specs.declared.choice.Startable.{Startable}
use Rattle.ct_core.specs.Choice.{IsStartable, IsStuck, NoneStarts}
use Rattle.ct_core.specs.Run.{history_of_run}
use Rattle.ct_core.proofs.ChoiceLemmas.{all_kept, failed, some_kept, stuck_busy}
use Rattle.ct_core.proofs.run.Run.choose.Goals as goal

pub returns-then-self-eq0-clause-ok : goal.returns-then-self-eq0-clause-ok
returns-then-self-eq0-clause-ok c =
    let run = c.args.self.now in
    let none : run.parts.unfinished ≡ 0 = omega arith in
    all_kept run.plan (history_of_run run) (vec_capacity run.history.entries) run.parts c.requires none

pub returns-in-None-clause-ok : goal.returns-in-None-clause-ok
returns-in-None-clause-ok c =
    let run = c.args.self.now in
    let plan = run.plan in
    let entries = history_of_run run in
    let some : run.parts.unfinished ≢ 0 = λ none. omega (arith, none) in
    let stuck : IsStuck plan entries = record {
      unfinished = some_kept plan entries (vec_capacity run.history.entries) run.parts c.requires some;
      unsettled = c.in_default.ensures.found;
      unstarted = subst (λ (o : Option Startable). MatchOption o (NoneStarts plan entries plan.queue) (λ s. IsStartable plan entries s)) c.in-None.is c.in_ok-start.ensures.ok;
    } in
    (stuck, stuck_busy plan entries c.first_to_settle.ensures.sound stuck)

pub returns-in_err-start-clause-err : goal.returns-in_err-start-clause-err
returns-in_err-start-clause-err c =
    let run = c.args.self.now in
    let some : run.parts.unfinished ≢ 0 = λ none. omega (arith, none) in
    failed c.from_residual.result (record {
      unfinished = some_kept run.plan (history_of_run run) (vec_capacity run.history.entries) run.parts c.requires some;
      goes_on = inr (c.in_default.ensures.found, c.in_err-start.ensures.err);
    })
