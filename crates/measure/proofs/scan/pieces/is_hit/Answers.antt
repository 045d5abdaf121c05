use Rattle.std.proofs.Common.{take, ◌++◌}
use Rattle.ct_base.proofs.ListLemmas.{parts-more}
use Rattle.ct_regex.specs.TreeOf.{regex_tree}
use Rattle.measure.proofs.scan.pieces.is_hit.Goals as goal

pub rest-preserved : goal.rest-preserved
rest-preserved c =
    let was = c.rest.invariant in
    let left = c.rest.rest.now in
    let front = take c.min-size.result left in (
      was.0 ++ front,
      parts-more c.args.text.now was.0 left c.min-size.result was.1,
      c.feed.ensures (regex_tree c.args.regex.now) was.0 was.2,
    )
