use Rattle.std.proofs.Common.{length}
use Rattle.ct_regex.proofs.WalkLemmas.{many_steps}
use Rattle.ct_regex.proofs.program.+add.Goals as goal

pub add_choice-returns-clause-steps : goal.add_choice-returns-clause-steps
add_choice-returns-clause-steps t c =
    rw (many_steps (length c.args.program.marks.items) c.args.branches.now c.if-branches-eq1.false) c.add_branches.ensures.steps
