use Rattle.ct_journal.proofs.CheckAnswerLemmas.{check_answer, check_completes}
use Rattle.ct_journal.proofs.CheckStepLemmas.{leads_keep}
use Rattle.ct_journal.proofs.check.check_main.Goals as goal

pub returns-clause-answer : goal.returns-clause-answer
returns-clause-answer g c =
    check_answer c.args.words.now (g.F.Files.tells c.args.files) (g.F.Files.tells c.check_words-found.new.files) (g.S.Sink.tells c.args.sink) (g.S.Sink.tells c.report_check-outcome.new.sink) c.check_words-found.result c.report_check-outcome.result.0 c.report_check-outcome.result.1 c.check_words-found.ensures c.report_check-outcome.ensures

pub returns-clause-complete : goal.returns-clause-complete
returns-clause-complete g c =
    check_completes c.args.words.now (g.F.Files.tells c.args.files) (g.F.Files.tells c.check_words-found.new.files) (g.S.Sink.tells c.args.sink) (g.S.Sink.tells c.report_check-outcome.new.sink) c.report_check-outcome.result.0 c.report_check-outcome.result.1 (returns-clause-answer g c)

pub returns-clause-kept : goal.returns-clause-kept
returns-clause-kept g c = leads_keep c.args.words.now (g.F.Files.tells c.args.files) (g.F.Files.tells c.check_words-found.new.files) c.check_words-found.result c.check_words-found.ensures
