use Rattle.ct_laws.proofs.LogLemmas.{log_back}
use Rattle.ct_laws.proofs.texts.a_failed_log_names_the_tests_that_failed.Goals as goal

pub returns : goal.returns
returns c = log_back
