use Rattle.std.proofs.Common.{◌∷◌, ◌++◌, [], sym, ◌∙◌}
use Rattle.std.proofs.lemmas.List.{map_push}
use Rattle.ct_suite.specs.Entries.{def_of}
use Rattle.ct_suite.proofs.suite.defs_of.Goals as goal

pub loop-test-preserved : goal.loop-test-preserved
loop-test-preserved c =
    c.in_ok-push.ensures.ok
    ∙ (λ i. c.loop-test.invariant i ++ c.in_ok-define.ensures i ∷ [])
    ∙ sym (map_push def_of c.loop-test.yielded c.in-Some.test)
