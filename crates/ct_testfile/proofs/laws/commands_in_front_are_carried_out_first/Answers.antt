use Rattle.ct_testfile.proofs.IfLemmas.{carried-front}
use Rattle.ct_testfile.proofs.laws.commands_in_front_are_carried_out_first.Goals as goal

pub returns : goal.returns
returns c = λ read limits held file state front rest ending. carried-front read limits held file rest ending state front
