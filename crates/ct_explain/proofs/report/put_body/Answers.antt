use Rattle.ct_report.proofs.PutLemmas.{lines_nothing}
use Rattle.ct_explain.proofs.report.put_body.Goals as goal

pub returns-then-story-eq0 : goal.returns-then-story-eq0
returns-then-story-eq0 g c = rw c.if-story-eq0.true (lines_nothing (g.S.Sink.tells c.args.sink.now))
