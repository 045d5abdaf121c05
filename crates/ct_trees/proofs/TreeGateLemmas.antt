-- The gates of a call over several trees come back in their order, whatever came of the call.
use Rattle.std.proofs.Common.{◌≡◌, ℕ, List, ap, inl, inr}
use Rattle.std.specs.Prelude.{Option, Some, None, Result, map}
use Rattle.ct_base.specs.declared.defs.Pair.{Pair}
use Rattle.ct_history.specs.declared.plan.PlanParts.{PlanParts}
use Rattle.ct_history.specs.declared.history.Entry.{Entry}
use Rattle.ct_core.specs.Gate.{GateTell}
use Rattle.ct_plan.specs.declared.whole.Tree.{Tree}
use Rattle.ct_args.specs.declared.invocation.Invocation.{Invocation}
use Rattle.ct_worker.specs.Gates.{AreSameGates}
use Rattle.ct_worker.proofs.PoolLemmas.{asked_in_order}
use Rattle.ct_app.specs.declared.outcome.Outcome.{Outcome}
use Rattle.ct_trees.specs.declared.tree_run.RunTerms.{RunTerms}
use Rattle.ct_trees.specs.TreeAnswers.{EndsForDirs, EndsTrees, TreesMade}
use Rattle.ct_trees.specs.TreeRuns.{RunSides, RunsTrees, terms_for}

-- gates that are as before are the same ones
unasked_in_order : (s : RunSides) → s.gates.after ≡ s.gates.before → AreSameGates s.gates.before s.gates.after
unasked_in_order s same = ap (λ (gates : List GateTell). map (λ (gate : GateTell). gate.who) gates) same

ran_in_order : (s : RunSides) (run : RunTerms) (trees : List Tree) (plans : List PlanParts) (whole : Option PlanParts) (history : Option (List Entry)) (place : Option ℕ) (ended : Result ℕ Outcome) → RunsTrees s run trees plans whole history place ended → AreSameGates s.gates.before s.gates.after
ran_in_order s run trees plans None history place ended ran = unasked_in_order s ran.1.gates
ran_in_order s run trees plans (Some whole) None place ended ran = absurd ran.1
ran_in_order s run trees plans (Some whole) (Some entries) place ended ran =
    asked_in_order (terms_for run trees whole) 0 s.gates.before s.gates.after entries ran.1.ran.ran.asked

dirs_in_order : (dirs : List (List ℕ)) (invocation : Invocation) (own : List Pair) (s : RunSides) (made : TreesMade) (names : List (List ℕ)) (ended : Result ℕ Outcome) → EndsForDirs dirs invocation own s made names ended → AreSameGates s.gates.before s.gates.after
dirs_in_order dirs invocation own s made names ended (inl unplanned) = unasked_in_order s unplanned.unrun.gates
dirs_in_order dirs invocation own s made names ended (inr run) =
    ran_in_order (record { files = record { before = run.between; after = s.files.after }; gates = s.gates; sink = s.sink }) run.run run.trees made.plans made.whole made.history made.tree ended run.ran

pub trees_in_order : (words : List (List ℕ)) (own : List Pair) (s : RunSides) (made : TreesMade) (names : List (List ℕ)) (ended : Result ℕ Outcome) → EndsTrees words own s made names ended → AreSameGates s.gates.before s.gates.after
trees_in_order words own s made names ended (inl refused) = unasked_in_order s refused.unrun.gates
trees_in_order words own s made names ended (inr asked) = dirs_in_order asked.dirs asked.invocation own s made names ended asked.ends
