use Rattle.std.proofs.Common.{subst}
use Rattle.ct_explain.specs.declared.reading.Reading.{Reading}
use Rattle.ct_explain.specs.Reading.{ReadsAs}
use Rattle.ct_explain.proofs.StepLemmas.{told_finding}
use Rattle.ct_explain.proofs.find.find_in.Goals as goal

pub returns-in_ok-story_of-in-Whole : goal.returns-in_ok-story_of-in-Whole
returns-in_ok-story_of-in-Whole c =
    told_finding c.args.plan.now c.args.text.now c.in-Whole.entries c.in_ok-story_of-in-Whole.field-0 c.requires.size
    (subst (λ (reading : Reading). ReadsAs c.args.plan.now c.args.text.now reading) c.in-Whole.is c.in_ok-entries.ensures)
    c.in_ok-story_of-in-Whole.ensures
