use Rattle.std.proofs.Common.{◌≡◌, ◌∙◌, refl, arith}
use Rattle.std.specs.List.{range_with_len}
use Rattle.std.proofs.lemmas.Iterator.{YieldsList-from_range, items_from_collect}
use Rattle.std.proofs.lemmas.Result.{IfOk-at_ok}
use Rattle.ct_queue.proofs.ready.own_lines.Goals as goal

pub returns : goal.returns
returns c =
    let collected : c.in_ok-lines.lines.items ≡ range_with_len 0 c.args.places = IfOk-at_ok _ c.in_ok-lines.was (items_from_collect _ c.collect.ensures.ran (YieldsList-from_range 0 c.args.places c.args.places refl (omega arith))) in
    c.from_vec.ensures ∙ collected
