use Rattle.std.proofs.Common.{take}
use Rattle.ct_graph.specs.Index.{IsIndexAt}
use Rattle.ct_graph.proofs.index.Index.add_all.Given as goal

abbrev pub invariant-loop-number : goal.invariant-loop-number
invariant-loop-number l =
    let index = l.fn.self in
    IsIndexAt index.defs.now index.props.now index.members.now (take l.number-index index.members.now) l.self
