-- What a run by several workers comes to. This project's own.
use Rattle.std.specs.Prelude.{◌≡◌, ℕ, true, List, [], None, IfErr}
use Rattle.ct_history.specs.History.{open_starts}
use Rattle.ct_history.specs.Legal.{is_legal}
use Rattle.ct_history.specs.Verdicts.{are_all_final}
use Rattle.ct_core.specs.Gate.{GateTell}
use Rattle.ct_report.specs.PutLines.{PutsLines}
use Rattle.ct_report.specs.Report.{test_lines}
use Rattle.ct_worker.specs.Gates.{AreAsked, Terms, are_below}
use Rattle.ct_worker.specs.Halted.{IsHalted}
use Rattle.ct_worker.specs.Lent.{AreLent}
use Rattle.ct_worker.specs.State.{StateValue, base_of, put_of}

-- `count` workers ran the tests of a plan; the plan and what the sink told at the opening stay. The
-- history is legal, leaves nothing open, and has Starts and Ends by these workers only. If the run
-- was not given up, every test is final. Each gate was asked for the attempts of its worker, and
-- was lent the worker's pass for each. The sink took the lines of the tests, or, if the run was
-- given up, the lines in front of the halt.
pub record IsPooled
    (terms : Terms) (count : ℕ) (old new : StateValue) (gates_before gates_now : List GateTell) : Type 0 where
  pub plan : new.plan ≡ old.plan
  pub base : base_of new ≡ base_of old
  pub legal : is_legal new.plan new.entries ≡ true
  pub closed : open_starts new.entries ≡ []
  pub workers : are_below count new.entries ≡ true
  pub ended : new.halt ≡ None → are_all_final new.plan new.entries ≡ true
  pub asked : AreAsked terms 0 gates_before gates_now new.entries
  pub lent : AreLent new.plan gates_before gates_now new.entries
  pub put : PutsLines (test_lines new.plan new.entries) new.opened new.sink (put_of new.halt)
  pub halted : IfErr (put_of new.halt) (λ fault. IsHalted fault new.plan new.entries new.opened new.sink)
