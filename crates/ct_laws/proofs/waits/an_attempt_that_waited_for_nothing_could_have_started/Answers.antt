use Rattle.ct_laws.proofs.EarlierLemmas.{could_start}
use Rattle.ct_laws.proofs.waits.an_attempt_that_waited_for_nothing_could_have_started.Goals as goal

pub returns : goal.returns
returns c plan front between rest number attempt worker placement test = could_start plan front between rest test number attempt worker placement
