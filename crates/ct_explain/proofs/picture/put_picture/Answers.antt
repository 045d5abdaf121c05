use Rattle.std.proofs.Common.{rules, ◌≡◌, ◌∙◌, ◌∷◌, [], ap, Err, Ok, codes}
use Rattle.ct_base.specs.declared.sink.SinkFault.TheVariants as Sinks
use Rattle.ct_report.proofs.PutLemmas.{lines_as, lines_none}
use Rattle.ct_explain.specs.Bars.{workers}
use Rattle.ct_explain.specs.Picture.{bar_lines, frame_lines, picture_lines}
use Rattle.ct_explain.proofs.SinkLemmas.{bars-fail, ending-put, frame-fails}
use Rattle.ct_explain.proofs.picture.put_picture.Goals as goal

pub returns-in_err-workers : goal.returns-in_err-workers
returns-in_err-workers g c =
    let gave : c.from_residual.result ≡ Err Sinks.NoMemory = search rules in
    rw gave (lines_none (g.S.Sink.tells c.args.sink.now) (picture_lines c.args.plan.now c.args.story.now))

pub returns-in_err-frame : goal.returns-in_err-frame
returns-in_err-frame g c =
    let gave : c.from_residual-in_err-frame.result ≡ Err Sinks.NoMemory = search rules in
    rw gave (lines_none (g.S.Sink.tells c.args.sink.now) (picture_lines c.args.plan.now c.args.story.now))

pub returns-in_err-put_lines : goal.returns-in_err-put_lines
returns-in_err-put_lines g c =
    let plan = c.args.plan.now in
    let story = c.args.story.now in
    let ws = workers story.entries in
    let same : c.as_slice-2.result.now ≡ ws = c.as_slice-2.ensures ∙ c.in_ok-workers.ensures.workers ∙ ap workers c.as_slice.ensures in
    let framed : c.as_slice-3.result.now ≡ frame_lines plan story ws = c.as_slice-3.ensures ∙ c.in_ok-frame.ensures ∙ ap (frame_lines plan story) same in
    let fault = c.in_err-put_lines.field-0.0 in
    let gave : c.from_residual-in_err-put_lines.result ≡ Err fault = search rules in
    rw gave (frame-fails (frame_lines plan story ws) (bar_lines plan story ws) (codes "</svg>\n" ∷ []) (g.S.Sink.tells c.args.sink.now) (g.S.Sink.tells c.put_lines.new.sink) fault (lines_as framed c.in_err-put_lines.ensures))

pub returns-in_err-put_bars : goal.returns-in_err-put_bars
returns-in_err-put_bars g c =
    let plan = c.args.plan.now in
    let story = c.args.story.now in
    let ws = workers story.entries in
    let same : c.as_slice-2.result.now ≡ ws = c.as_slice-2.ensures ∙ c.in_ok-workers.ensures.workers ∙ ap workers c.as_slice.ensures in
    let framed : c.as_slice-3.result.now ≡ frame_lines plan story ws = c.as_slice-3.ensures ∙ c.in_ok-frame.ensures ∙ ap (frame_lines plan story) same in
    let again : c.as_slice-4.result.now ≡ ws = c.as_slice-4.ensures ∙ c.in_ok-workers.ensures.workers ∙ ap workers c.as_slice.ensures in
    let fault = c.in_err-put_bars.field-0.0 in
    let gave : c.from_residual-in_err-put_bars.result ≡ Err fault = search rules in
    rw gave (bars-fail (frame_lines plan story ws) (bar_lines plan story ws) (codes "</svg>\n" ∷ []) (g.S.Sink.tells c.args.sink.now) (g.S.Sink.tells c.put_lines.new.sink) (g.S.Sink.tells c.put_bars.new.sink) fault (lines_as framed c.in_ok-put_lines.ensures) (lines_as (ap (bar_lines plan story) again) c.in_err-put_bars.ensures))

pub returns-in_err-put_line : goal.returns-in_err-put_line
returns-in_err-put_line g c =
    let plan = c.args.plan.now in
    let story = c.args.story.now in
    let ws = workers story.entries in
    let same : c.as_slice-2.result.now ≡ ws = c.as_slice-2.ensures ∙ c.in_ok-workers.ensures.workers ∙ ap workers c.as_slice.ensures in
    let framed : c.as_slice-3.result.now ≡ frame_lines plan story ws = c.as_slice-3.ensures ∙ c.in_ok-frame.ensures ∙ ap (frame_lines plan story) same in
    let again : c.as_slice-4.result.now ≡ ws = c.as_slice-4.ensures ∙ c.in_ok-workers.ensures.workers ∙ ap workers c.as_slice.ensures in
    let fault = c.in_err-put_line.field-0.0 in
    let gave : c.from_residual-in_err-put_line.result ≡ Err fault = search rules in
    rw gave (ending-put (frame_lines plan story ws) (bar_lines plan story ws) (codes "</svg>\n" ∷ []) (g.S.Sink.tells c.args.sink.now) (g.S.Sink.tells c.put_lines.new.sink) (g.S.Sink.tells c.put_bars.new.sink) (g.S.Sink.tells c.put_line.new.sink) (Err fault) (lines_as framed c.in_ok-put_lines.ensures) (lines_as (ap (bar_lines plan story) again) c.in_ok-put_bars.ensures) c.in_err-put_line.ensures)

pub returns : goal.returns
returns g c =
    let plan = c.args.plan.now in
    let story = c.args.story.now in
    let ws = workers story.entries in
    let same : c.as_slice-2.result.now ≡ ws = c.as_slice-2.ensures ∙ c.in_ok-workers.ensures.workers ∙ ap workers c.as_slice.ensures in
    let framed : c.as_slice-3.result.now ≡ frame_lines plan story ws = c.as_slice-3.ensures ∙ c.in_ok-frame.ensures ∙ ap (frame_lines plan story) same in
    let again : c.as_slice-4.result.now ≡ ws = c.as_slice-4.ensures ∙ c.in_ok-workers.ensures.workers ∙ ap workers c.as_slice.ensures in
    ending-put (frame_lines plan story ws) (bar_lines plan story ws) (codes "</svg>\n" ∷ []) (g.S.Sink.tells c.args.sink.now) (g.S.Sink.tells c.put_lines.new.sink) (g.S.Sink.tells c.put_bars.new.sink) (g.S.Sink.tells c.put_line.new.sink) (Ok tt) (lines_as framed c.in_ok-put_lines.ensures) (lines_as (ap (bar_lines plan story) again) c.in_ok-put_bars.ensures) c.in_ok-put_line.ensures
