use Rattle.std.proofs.Common.{[], refl}
use Rattle.std.specs.Prelude.{None}
use Rattle.ct_app.specs.Calls.{list_sides}
use Rattle.ct_app.proofs.CompleteLemmas.{list_completes}
use Rattle.ct_app.proofs.ListLemmas.{list_answer}
use Rattle.ct_app.proofs.top.list_main.Goals as goal

pub returns-clause-answer : goal.returns-clause-answer
returns-clause-answer g c =
    list_answer c.args.words.now [] (g.F.Files.tells c.args.files) (g.F.Files.tells c.list_words-outcome.new.files) [] [] (g.S.Sink.tells c.args.sink) (g.S.Sink.tells c.list_words-outcome.new.sink) (g.S.Sink.tells c.report_outcome-outcome.new.sink) None None
    (record { no_plan = refl; no_history = refl; unasked = refl }) c.list_words-outcome.result c.report_outcome-outcome.result.0 c.report_outcome-outcome.result.1 c.list_words-outcome.ensures c.report_outcome-outcome.ensures.reported c.report_outcome-outcome.ensures.status

pub returns-clause-complete : goal.returns-clause-complete
returns-clause-complete g c =
    list_completes (list_sides c.args.words.now (g.F.Files.tells c.args.files) (g.F.Files.tells c.list_words-outcome.new.files) (g.S.Sink.tells c.args.sink) (g.S.Sink.tells c.report_outcome-outcome.new.sink))
    c.report_outcome-outcome.result.0 c.report_outcome-outcome.result.1 (returns-clause-answer g c)
