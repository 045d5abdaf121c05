use Rattle.std.proofs.Common.{rules, ◌≡◌, ◌∙◌, sym, subst, List, ℕ, length}
use Rattle.std.specs.Prelude.{Option, Some, Ok}
use Rattle.std.specs.Option.{option_copied}
use Rattle.std.proofs.lemmas.List.{length-map}
use Rattle.ct_base.specs.declared.defs.Resource.{Resource}
use Rattle.ct_app.specs.SpecFile.{ReadsSpec}
use Rattle.ct_trees.specs.Planning.{LackPlans, LackTree}
use Rattle.ct_trees.specs.Trees.{AreTrees, plans_of}
use Rattle.ct_plan.specs.declared.whole.Tree.{Tree}
use Rattle.ct_trees.proofs.ForestLemmas.{declared_trees, have_no_more, lacks_plan}
use Rattle.ct_trees.proofs.planning.read_and_plan.Goals as goal

pub returns-in-Ok-plan_trees-clause-ok : goal.returns-in-Ok-plan_trees-clause-ok
returns-in-Ok-plan_trees-clause-ok g c =
    let invocation = c.args.invocation in
    let before = g.F.Files.tells c.args.files.now in
    let between = g.F.Files.tells c.read_spec.new.files in
    let now = g.F.Files.tells c.plan_trees.new.files in
    let trees = c.plan_trees.new.trees in
    let named : ReadsSpec invocation.spec_file before between (Ok c.in-Ok.spec) = search rules in
    let lent : option_copied c.as_ref-2.result ≡ c.in-Ok.spec = search rules in
    let are = subst (λ (l : Option (List Resource)). AreTrees between.held invocation l c.args.dirs trees) lent c.in-Ok-plan_trees.ensures.ok in
    declared_trees invocation c.args.dirs before between now c.in-Ok.spec named trees are c.in-Ok-plan_trees.ensures.few

pub returns-clause-err : goal.returns-clause-err
returns-clause-err g c =
    let invocation = c.args.invocation in
    let before = g.F.Files.tells c.args.files.now in
    let between = g.F.Files.tells c.read_spec.new.files in
    let now = g.F.Files.tells c.plan_trees.new.files in
    let trees = c.plan_trees.new.trees in
    let bad = c.in-Err-plan_trees.why in
    let named : ReadsSpec invocation.spec_file before between (Ok c.in-Ok.spec) = search rules in
    let lent : option_copied c.as_ref-2.result ≡ c.in-Ok.spec = search rules in
    let lack = subst (λ (l : Option (List Resource)). LackTree invocation l c.args.dirs between now (plans_of trees) bad.names bad.outcome) lent c.in-Err-plan_trees.ensures.err in
    let place : length (plans_of trees) ≡ c.len.result = length-map trees (λ (t : Tree). t.plan) ∙ sym c.len.ensures in
    subst (λ (n : ℕ). LackPlans invocation c.args.dirs before now (plans_of trees) (Some n) bad.names bad.outcome) place
    (lacks_plan invocation c.args.dirs before between now c.in-Ok.spec named (plans_of trees) bad.names bad.outcome lack)

pub returns-in-Ok-plan_trees-clause-count : goal.returns-in-Ok-plan_trees-clause-count
returns-in-Ok-plan_trees-clause-count g c = have_no_more (g.F.Files.tells c.args.files.now).held c.args.invocation c.args.dirs c.plan_trees.new.trees (returns-in-Ok-plan_trees-clause-ok g c)
