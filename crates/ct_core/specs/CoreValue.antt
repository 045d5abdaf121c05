-- The value of a core, as its callers see it. This project's own.
use Rattle.std.specs.Prelude.{Bool, List}
use Rattle.ct_history.specs.declared.plan.PlanParts.{PlanParts}
use Rattle.ct_history.specs.declared.history.Entry.{Entry}

-- a plan, the history made so far, and whether the run was given up
pub record CoreValue : Type 0 where
  pub plan : PlanParts
  pub entries : List Entry
  pub aborted : Bool
