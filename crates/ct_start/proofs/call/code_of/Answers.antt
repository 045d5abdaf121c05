use Rattle.std.proofs.Common.{rules}
use Rattle.ct_start.proofs.call.code_of.Goals as goal

pub returns-in-Ok-clause-done : goal.returns-in-Ok-clause-done
returns-in-Ok-clause-done g c = rw c.in-Ok.is (search rules)
