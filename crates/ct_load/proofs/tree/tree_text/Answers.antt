use Rattle.std.proofs.Common.{rules, ◌≡◌, ◌+◌, ◌++◌}
use Rattle.ct_load.specs.Tree.{lines_of}
use Rattle.ct_load.proofs.ListLemmas.{one_text_more}
use Rattle.ct_load.proofs.tree.tree_text.Goals as goal

pub loop-before-preserved : goal.loop-before-preserved
loop-before-preserved c =
    let text = c.extend_from_slice.new.self in
    let more : text.items ≡ c.loop-before.text.items ++ lines_of (c.loop-before.before + 1) = search rules in
    one_text_more lines_of c.loop-before.before c.loop-before.text.items text.items c.loop-before.invariant more
