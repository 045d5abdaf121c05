use Rattle.std.proofs.Common.{rules}
use Rattle.ct_regex.proofs.ScanLemmas.{goes_on_all, goes_on_some}
use Rattle.ct_regex.proofs.scan.Scan.feed.Goals as goal

pub returns-then-self : goal.returns-then-self
returns-then-self c = λ tree text stands. goes_on_some tree text c.args.piece.now c.rest.rest.now c.args.self.now c.rest.self c.rest.invariant c.if-self.true stands

pub returns : goal.returns
returns c = λ tree text stands. goes_on_all tree text c.args.piece.now c.rest.rest.now c.args.self.now c.rest.self c.rest.invariant (search rules) stands
