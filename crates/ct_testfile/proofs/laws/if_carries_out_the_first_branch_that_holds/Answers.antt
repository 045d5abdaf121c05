use Rattle.std.proofs.Common.{[], refl}
use Rattle.ct_testfile.proofs.IfLemmas.{carried-if}
use Rattle.ct_testfile.proofs.laws.if_carries_out_the_first_branch_that_holds.Goals as goal

pub returns : goal.returns
returns c = λ read limits held file state whole rest ending is. carried-if read limits held file [] state whole rest ending refl is
