use Rattle.ct_explain.proofs.StoryLemmas.{AreTold}
use Rattle.ct_explain.proofs.story.waits_of.Given as goal

abbrev pub invariant-loop-at : goal.invariant-loop-at
invariant-loop-at l = AreTold l.plan l.entries l.chain l.waits l.at l.noted l.audit
