use Rattle.ct_explain.proofs.AnswerLemmas.{explain_answer, explain_completes}
use Rattle.ct_explain.proofs.StepLemmas.{leads_keep}
use Rattle.ct_explain.proofs.explain.explain_main.Goals as goal

pub returns-clause-answer : goal.returns-clause-answer
returns-clause-answer g c =
    explain_answer c.args.words.now c.journal_words.result.now c.asks_picture.result (g.F.Files.tells c.args.files) (g.F.Files.tells c.explain_words-found.new.files) (g.S.Sink.tells c.args.sink) (g.S.Sink.tells c.report_found-outcome.new.sink) c.explain_words-found.result c.report_found-outcome.result.0 c.report_found-outcome.result.1 c.journal_words.ensures.is c.asks_picture.ensures c.explain_words-found.ensures c.report_found-outcome.ensures

pub returns-clause-complete : goal.returns-clause-complete
returns-clause-complete g c =
    explain_completes c.args.words.now (g.F.Files.tells c.args.files) (g.F.Files.tells c.explain_words-found.new.files) (g.S.Sink.tells c.args.sink) (g.S.Sink.tells c.report_found-outcome.new.sink) c.report_found-outcome.result.0 c.report_found-outcome.result.1 (returns-clause-answer g c)

pub returns-clause-kept : goal.returns-clause-kept
returns-clause-kept g c = leads_keep c.journal_words.result.now (g.F.Files.tells c.args.files) (g.F.Files.tells c.explain_words-found.new.files) c.explain_words-found.result c.explain_words-found.ensures
