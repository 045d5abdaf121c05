use Rattle.std.proofs.Common.{[]}
use Rattle.ct_regex.specs.TreeOf.{regex_tree}
use Rattle.ct_regex.proofs.pattern.Regex.hit.Goals as goal

pub returns : goal.returns
returns c = c.ended.ensures (regex_tree c.args.self.now) c.args.text.now (c.feed.ensures (regex_tree c.args.self.now) [] c.in_ok-scan.ensures)
