use Rattle.std.proofs.Common.{rules, ◌≡◌, ◌∙◌, ap, Err, Ok}
use Rattle.ct_trees.specs.TreeParts.{entries_of_each, parts_behind}
use Rattle.ct_trees.proofs.PutTreeLemmas.{put_by_parts}
use Rattle.ct_trees.proofs.reports.put_summaries.Goals as goal

pub returns-in_err-put_parts : goal.returns-in_err-put_parts
returns-in_err-put_parts g c =
    let trees = c.args.trees.now in
    let entries = c.args.history.now.entries.items in
    let slice = c.as_slice.result.now in
    let same : slice ≡ c.in_ok-parts.parts = search rules in
    let are : entries_of_each slice ≡ parts_behind 0 trees entries = ap entries_of_each same ∙ c.in_ok-parts.ensures in
    let fault = c.in_err-put_parts.field-0.0 in
    let gave : c.from_residual-in_err-put_parts.result ≡ Err fault = search rules in
    rw gave (put_by_parts trees entries (entries_of_each slice) are (g.S.Sink.tells c.args.sink.now) (g.S.Sink.tells c.put_parts.new.sink) (Err fault) c.in_err-put_parts.ensures)

pub returns : goal.returns
returns g c =
    let trees = c.args.trees.now in
    let entries = c.args.history.now.entries.items in
    let slice = c.as_slice.result.now in
    let same : slice ≡ c.in_ok-parts.parts = search rules in
    let are : entries_of_each slice ≡ parts_behind 0 trees entries = ap entries_of_each same ∙ c.in_ok-parts.ensures in
    put_by_parts trees entries (entries_of_each slice) are (g.S.Sink.tells c.args.sink.now) (g.S.Sink.tells c.put_parts.new.sink) (Ok tt) c.in_ok-put_parts.ensures
