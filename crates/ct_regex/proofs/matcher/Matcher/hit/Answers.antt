use Rattle.std.proofs.Common.{[]}
use Rattle.ct_regex.specs.Tree.{Tree}
use Rattle.ct_regex.specs.TreeOf.{regex_tree}
use Rattle.ct_regex.proofs.matcher.Matcher.hit.Goals as goal

pub invariant_of-self : goal.invariant_of-self
invariant_of-self c =
    let tree : Tree = regex_tree c.args.self.now.regex.now in
    record { right = (c.feed.ensures tree [] (c.restart.ensures tree c.args.self.now.right)).pattern }

pub returns-clause-hit : goal.returns-clause-hit
returns-clause-hit c =
    let tree : Tree = regex_tree c.args.self.now.regex.now in
    c.ended.ensures tree c.args.text.now (c.feed.ensures tree [] (c.restart.ensures tree c.args.self.now.right))
