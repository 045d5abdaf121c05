use Rattle.std.proofs.Common.{rules, ◌≡◌, ◌∷◌, [], Err, codes}
use Rattle.ct_explain.specs.Report.{programs_micros, seconds_line}
use Rattle.ct_report.proofs.PutLemmas.{lines_more, lines_then}
use Rattle.ct_explain.proofs.report.put_times.Goals as goal

pub returns-in_err-put_programs : goal.returns-in_err-put_programs
returns-in_err-put_programs g c =
    let gave : c.from_residual.result ≡ Err c.in_err-put_programs.field-0.0 = search rules in
    rw gave (lines_more (g.S.Sink.tells c.args.sink.now) (g.S.Sink.tells c.put_programs.new.sink) (seconds_line (codes "Time of programs: ") (programs_micros c.args.story.now.entries) ∷ []) (seconds_line (codes "Length: at least ") c.args.story.now.length ∷ []) c.in_err-put_programs.field-0.0 c.in_err-put_programs.ensures)

pub returns : goal.returns
returns g c =
    lines_then (g.S.Sink.tells c.args.sink.now) (g.S.Sink.tells c.put_programs.new.sink) (g.S.Sink.tells c.put_seconds.new.sink) (seconds_line (codes "Time of programs: ") (programs_micros c.args.story.now.entries) ∷ []) (seconds_line (codes "Length: at least ") c.args.story.now.length ∷ []) c.put_seconds.result c.in_ok-put_programs.ensures c.put_seconds.ensures
