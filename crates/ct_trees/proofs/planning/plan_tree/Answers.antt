use Rattle.std.specs.Option.{option_copied}
use Rattle.ct_plan.proofs.CallerLemmas.{have_processors, length-have_props}
use Rattle.ct_trees.proofs.TreeLemmas.{planned_tree}
use Rattle.ct_trees.proofs.planning.plan_tree.Goals as goal

pub plan-requires-clause-paired : goal.plan-requires-clause-paired
plan-requires-clause-paired g c =
    let tests = c.in-Ok.folder.tests in
    length-have_props tests.defs tests.props c.in-Ok.ensures.ok.read.read.have

pub plan-requires-clause-processors : goal.plan-requires-clause-processors
plan-requires-clause-processors g c =
    let tests = c.in-Ok.folder.tests in
    have_processors tests.defs tests.props c.in-Ok.ensures.ok.read.read.have

pub returns-in-Ok-plan-clause-ok : goal.returns-in-Ok-plan-clause-ok
returns-in-Ok-plan-clause-ok g c =
    rw c.with_plan.ensures
    (planned_tree c.args.invocation.now (option_copied c.args.spec) (g.F.Files.tells c.args.files.now) (g.F.Files.tells c.read_folder.new.files) c.args.count c.in-Ok.folder c.in-Ok.ensures.ok c.in-Ok-plan.plan c.hand_out_sound.ensures c.in-Ok-plan.ensures.answer)
