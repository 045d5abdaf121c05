use Rattle.ct_start.proofs.call.exit_code.Goals as goal

pub returns-clause-done : goal.returns-clause-done
returns-clause-done g c = rw c.from.ensures c.code_of-code.ensures.done
