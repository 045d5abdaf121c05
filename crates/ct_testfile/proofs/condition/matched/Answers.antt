use Rattle.std.proofs.Common.{ap, sym, ◌∙◌, Ok}
use Rattle.ct_regex.specs.Reading.{reading}
use Rattle.ct_testfile.specs.Condition.{matched}
use Rattle.ct_testfile.proofs.ConditionLemmas.{matched-refused}
use Rattle.ct_testfile.proofs.condition.matched.Goals as goal

pub returns-in_ok-hit-in-Ok : goal.returns-in_ok-hit-in-Ok
returns-in_ok-hit-in-Ok c =
    ap (matched c.args.text.now) c.in-Ok.ensures.exact ∙ ap Ok (sym c.in_ok-hit-in-Ok.ensures)

pub returns-in-Err : goal.returns-in-Err
returns-in-Err c =
    rw c.bad_pattern.ensures (matched-refused c.args.text.now (reading c.args.right.now) c.in-Err.fault c.in-Err.ensures.exact)
