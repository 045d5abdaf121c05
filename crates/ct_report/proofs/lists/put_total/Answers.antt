use Rattle.std.proofs.Common.{rules, ◌≡◌, ◌∷◌, [], Err, Ok, codes}
use Rattle.ct_report.proofs.PutLemmas.{lines_more, one_line, two_lines}
use Rattle.ct_report.proofs.lists.put_total.Goals as goal

pub returns-in_err-put-clause-text : goal.returns-in_err-put-clause-text
returns-in_err-put-clause-text g c =
    let old = g.S.Sink.tells c.args.sink.now in
    let mid = g.S.Sink.tells c.put.new.self in
    let fault = c.in_err-put.field-0.0 in
    let gave : c.from_residual.result ≡ Err fault = search rules in
    let first = one_line old mid (codes "\n") (Err fault) c.in_err-put.ensures.puts c.in_err-put.ensures.each in
    rw gave ((lines_more old mid (codes "\n" ∷ []) (c.args.total.now ∷ []) fault first).bytes)

pub returns-in_err-put-clause-each : goal.returns-in_err-put-clause-each
returns-in_err-put-clause-each g c =
    let old = g.S.Sink.tells c.args.sink.now in
    let mid = g.S.Sink.tells c.put.new.self in
    let fault = c.in_err-put.field-0.0 in
    let gave : c.from_residual.result ≡ Err fault = search rules in
    let first = one_line old mid (codes "\n") (Err fault) c.in_err-put.ensures.puts c.in_err-put.ensures.each in
    rw gave ((lines_more old mid (codes "\n" ∷ []) (c.args.total.now ∷ []) fault first).each)

pub returns-clause-text : goal.returns-clause-text
returns-clause-text g c =
    let old = g.S.Sink.tells c.args.sink.now in
    let mid = g.S.Sink.tells c.put.new.self in
    let new = g.S.Sink.tells c.put-2.new.self in
    let total = c.args.total.now in
    let first = one_line old mid (codes "\n") (Ok tt) c.in_ok-put.ensures.puts c.in_ok-put.ensures.each in
    let second = one_line mid new total c.put-2.result c.put-2.ensures.puts c.put-2.ensures.each in
    (two_lines old mid new (codes "\n") total c.put-2.result first second).bytes

pub returns-clause-each : goal.returns-clause-each
returns-clause-each g c =
    let old = g.S.Sink.tells c.args.sink.now in
    let mid = g.S.Sink.tells c.put.new.self in
    let new = g.S.Sink.tells c.put-2.new.self in
    let total = c.args.total.now in
    let first = one_line old mid (codes "\n") (Ok tt) c.in_ok-put.ensures.puts c.in_ok-put.ensures.each in
    let second = one_line mid new total c.put-2.result c.put-2.ensures.puts c.put-2.ensures.each in
    (two_lines old mid new (codes "\n") total c.put-2.result first second).each
