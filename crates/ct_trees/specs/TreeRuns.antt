-- The run of several trees by one whole plan: one history over one pool of slots, locks and processors.
-- This project's own.
use Rattle.std.specs.Prelude.{◌≡◌, ℕ, List, map, Option, Some, None, is_some, Result, Err, IsSomeAnd}
use Rattle.ct_base.specs.Outside.{FilesTell, SinkTell}
use Rattle.ct_history.specs.declared.plan.PlanParts.{PlanParts}
use Rattle.ct_history.specs.declared.history.Entry.{Entry}
use Rattle.ct_core.specs.Gate.{GateTell}
use Rattle.ct_core.specs.Order.{FollowsQueue}
use Rattle.ct_plan.specs.declared.whole.Tree.{Tree}
use Rattle.ct_plan.specs.Whole.{IsWholePlan}
use Rattle.ct_worker.specs.Gates.{Terms}
use Rattle.ct_app.specs.declared.outcome.Outcome.{Outcome}
use Rattle.ct_app.specs.declared.outcome.Outcome.TheVariants.{Memory}
use Rattle.ct_app.specs.Calls.{BeforeAfter}
use Rattle.ct_app.specs.Run.{HasRun}
use Rattle.ct_trees.specs.declared.joining.Prepared.{Prepared}
use Rattle.ct_trees.specs.declared.tree_run.RunTerms.{RunTerms}
use Rattle.ct_trees.specs.Joining.{AreReadyTrees, defs_of_trees, props_of_trees}
use Rattle.ct_trees.specs.TreeReports.{rest_of}
use Rattle.ct_trees.specs.TreeStops.{TreesEnd}
use Rattle.ct_trees.specs.TreeEnds.{EndsWithTrees}
use Rattle.ct_trees.specs.Trees.{plans_of}

-- the terms of the attempts of all trees: the tests of all of them, one tree behind the other. Slots are lent
-- where the whole plan has resources.
abbrev pub terms_for : RunTerms → List Tree → PlanParts → Terms
terms_for run trees whole = record {
  own = run.own.now;
  defs = defs_of_trees trees;
  props = props_of_trees trees;
  limit = run.timeout;
  lends = is_some whole.resources;
}

-- a whole plan was made of these trees, and its tests ran as far as the history goes; the history is as that
-- of one plan is, over one pool of slots, locks and processors. Each test was started or settled when it was
-- the next by the queue.
pub record IsRunOfTrees
    (terms : Terms) (trees : List Tree) (gates_before gates_now : List GateTell) (whole : PlanParts)
    (entries : List Entry) : Type 0 where
  pub joined : IsWholePlan trees whole
  pub ran : HasRun terms gates_before gates_now whole entries
  pub order : FollowsQueue whole entries

-- what is told of the files, the gates and the sink of a run, before it and after it
pub record RunSides : Type 0 where
  pub files : BeforeAfter FilesTell
  pub gates : BeforeAfter (List GateTell)
  pub sink : BeforeAfter SinkTell

-- what these values tell of the files, the gates and the sink, each before the run and after it
abbrev pub sides_of_run : FilesTell
    → FilesTell → List GateTell → List GateTell → SinkTell → SinkTell → RunSides
sides_of_run files_before files_now gates_before gates_now sink_before sink_now = record {
  files = record { before = files_before; after = files_now };
  gates = record { before = gates_before; after = gates_now };
  sink = record { before = sink_before; after = sink_now };
}

-- these trees ran as far as the history goes, with this report, these files and this end; a write failed at
-- the tree with this place, if at any
pub record RanTrees
    (s : RunSides) (run : RunTerms) (trees : List Tree) (whole : PlanParts) (entries : List Entry)
    (place : Option ℕ) (ended : Result ℕ Outcome) : Type 0 where
  pub ran : IsRunOfTrees (terms_for run trees whole) trees s.gates.before s.gates.after whole entries
  pub tests : Result (Unit {0}) Outcome
  pub reported : TreesEnd (map rest_of trees) whole entries s.sink.before s.sink.after tests
  pub left :
      EndsWithTrees run.empty_is_error (map rest_of trees) entries s.files.before s.files.after tests place
      ended

-- memory ran out before the trees ran, and nothing was run or written
pub record AreUnrun
    (s : RunSides) (history : Option (List Entry)) (place : Option ℕ) (ended : Result ℕ Outcome)
    : Type 0 where
  pub none : history ≡ None
  pub memory : ended ≡ Err Memory
  pub no_place : place ≡ None
  pub files : s.files.after ≡ s.files.before
  pub gates : s.gates.after ≡ s.gates.before
  pub sink : s.sink.after ≡ s.sink.before

-- the plans are those of these trees, which ran by their whole plan, or memory ran out before
abbrev pub RunsTrees : RunSides
    → RunTerms → List Tree → List PlanParts → Option PlanParts → Option (List Entry) → Option ℕ
    → Result ℕ Outcome → Type 0
RunsTrees s run trees plans None history place ended =
    (plans ≡ plans_of trees) × AreUnrun s history place ended
RunsTrees s run trees plans (Some whole) history place ended =
    (plans ≡ plans_of trees)
    × IsSomeAnd history (λ entries. RanTrees s run trees whole entries place ended)

-- the trees that are ready ran by their whole plan
abbrev pub RunsReadyTrees : RunSides
    → RunTerms → Prepared → List PlanParts → Option PlanParts → Option (List Entry) → Option ℕ
    → Result ℕ Outcome → Type 0
RunsReadyTrees s run ready plans whole history place ended =
    (trees : List Tree) → AreReadyTrees trees ready → RunsTrees s run trees plans whole history place ended
