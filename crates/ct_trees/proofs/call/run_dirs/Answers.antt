use Rattle.std.proofs.Common.{sym, refl, subst, inl, inr, List}
use Rattle.ct_history.specs.declared.plan.PlanParts.{PlanParts}
use Rattle.ct_app.specs.declared.outcome.Outcome.TheVariants.{Memory}
use Rattle.ct_app.proofs.ChangeLemmas.{stays}
use Rattle.ct_trees.specs.Planning.{LackPlans}
use Rattle.ct_trees.proofs.CallLemmas.{have_alike, have_few, have_level, have_planned}
use Rattle.ct_trees.proofs.call.run_dirs.Goals as goal

pub run_planned-requires-clause-planned : goal.run_planned-requires-clause-planned
run_planned-requires-clause-planned g c lifetimes outlives = have_planned (g.F.Files.tells c.args.files.now).held c.args.invocation c.args.dirs c.read_and_plan.new.trees c.in-Ok-read_and_plan.ensures.ok

pub run_planned-requires-clause-alike : goal.run_planned-requires-clause-alike
run_planned-requires-clause-alike g c lifetimes outlives = have_alike (g.F.Files.tells c.args.files.now).held c.args.invocation c.args.dirs c.read_and_plan.new.trees c.in-Ok-read_and_plan.ensures.ok c.requires.one

pub run_planned-requires-clause-few : goal.run_planned-requires-clause-few
run_planned-requires-clause-few g c lifetimes outlives = have_few (g.F.Files.tells c.args.files.now).held c.args.invocation c.args.dirs c.read_and_plan.new.trees c.in-Ok-read_and_plan.ensures.ok

pub run_planned-requires-clause-level : goal.run_planned-requires-clause-level
run_planned-requires-clause-level g c lifetimes outlives = have_level (g.F.Files.tells c.args.files.now).held c.args.invocation c.args.dirs c.read_and_plan.new.trees c.in-Ok-read_and_plan.ensures.ok c.requires.bounded

pub returns-in-Ok-read_and_plan-clause-ends : goal.returns-in-Ok-read_and_plan-clause-ends
returns-in-Ok-read_and_plan-clause-ends g c =
    inr (record {
      trees = c.read_and_plan.new.trees;
      read = c.in-Ok-read_and_plan.ensures.ok;
      between = g.F.Files.tells c.read_and_plan.new.files;
      stay = c.in-Ok-read_and_plan.ensures.stay;
      run = _;
      own_is = refl;
      limit = refl;
      empty = refl;
      ran = c.run_planned.ensures.ran;
    })

pub returns-in-Err-clause-ends : goal.returns-in-Err-clause-ends
returns-in-Err-clause-ends g c =
    let before = g.F.Files.tells c.args.files.now in
    let now = g.F.Files.tells c.read_and_plan.new.files in
    let bad = c.in-Err.bad in
    rw c.unplanned.ensures (inl (record {
      outcome = bad.why.outcome;
      is = refl;
      lack = subst (λ (plans : List PlanParts). LackPlans c.args.invocation c.args.dirs before now plans bad.tree bad.why.names bad.why.outcome) (sym c.plans_of_trees.ensures) c.in-Err.ensures.err;
      unrun = record { no_plan = refl; no_history = refl; gates = refl; sink = refl };
    }))

pub returns-in_default-clause-ends : goal.returns-in_default-clause-ends
returns-in_default-clause-ends g c =
    rw c.unrun.ensures (inl (record {
      outcome = Memory;
      is = refl;
      lack = (c.new.ensures, stays (g.F.Files.tells c.args.files.now));
      unrun = record { no_plan = refl; no_history = refl; gates = refl; sink = refl };
    }))
