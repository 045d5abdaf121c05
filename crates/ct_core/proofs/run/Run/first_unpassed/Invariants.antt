use Rattle.std.proofs.Common.{◌≡◌, drop}
use Rattle.std.specs.Prelude.{find, not}
use Rattle.ct_core.specs.Run.{history_of_run}
use Rattle.ct_history.specs.Rules.{is_passed_verdict}
use Rattle.ct_history.specs.Verdicts.{verdict_of_test}
use Rattle.ct_core.proofs.run.Run.first_unpassed.Given as goal

abbrev pub invariant-loop-setup : goal.invariant-loop-setup
invariant-loop-setup l =
    find (λ s. not (is_passed_verdict (verdict_of_test l.self.plan (history_of_run l.self) s))) (drop l.setup-index l.setups)
    ≡ find (λ s. not (is_passed_verdict (verdict_of_test l.self.plan (history_of_run l.self) s))) l.setups
