use Rattle.std.proofs.Common.{◌≡◌, ◌++◌, map, take, drop}
use Rattle.ct_app.specs.Tests.{without_links}
use Rattle.ct_app.proofs.props.without_links.Given as goal

abbrev pub invariant-loop-own : goal.invariant-loop-own
invariant-loop-own l = l.own-items ≡ map without_links (take l.own-index l.fn.tests.props) ++ drop l.own-index l.fn.tests.props
