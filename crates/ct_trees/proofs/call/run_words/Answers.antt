use Rattle.std.proofs.Common.{rules, ◌≡◌, refl, ap, inl, inr, Err}
use Rattle.ct_app.specs.Outcome.{outcome_of_usage}
use Rattle.ct_trees.proofs.call.run_words.Goals as goal

pub returns-in-Ok-clause-ends : goal.returns-in-Ok-clause-ends
returns-in-Ok-clause-ends g c = inr (record { dirs = c.in-Ok.asked.dirs; invocation = c.in-Ok.asked.invocation; words_are = c.in-Ok.ensures.exact; ends = c.run_dirs.ensures.ends })

pub returns-in-Err-clause-ends : goal.returns-in-Err-clause-ends
returns-in-Err-clause-ends g c =
    let named : c.from.result ≡ outcome_of_usage c.in-Err.fault = search rules in
    rw c.unrun.ensures (inl (record {
      fault = c.in-Err.fault;
      first = c.in-Err.ensures.exact;
      is = ap Err named;
      files = refl;
      no_tree = refl;
      no_plans = c.new.ensures;
      unrun = record { no_plan = refl; no_history = refl; gates = refl; sink = refl };
    }))
