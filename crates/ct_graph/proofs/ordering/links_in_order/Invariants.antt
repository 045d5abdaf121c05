use Rattle.std.proofs.Common.{◌≡◌, take, map}
use Rattle.ct_graph.specs.Walk.{row_of}
use Rattle.ct_graph.specs.Rows.{links_of}
use Rattle.ct_graph.proofs.OrderLemmas.{AreLeft}
use Rattle.ct_graph.proofs.ordering.links_in_order.Given as goal

abbrev pub invariant-loop-number : goal.invariant-loop-number
invariant-loop-number l =
    (l.links ≡ map (links_of (row_of l.fn.graph.setups.items) l.fn.graph.before.items l.marks) (take l.number-index l.members))
    × AreLeft (take l.number-index l.members) l.fn.graph.before.items l.before.items
    × AreLeft (take l.number-index l.members) l.fn.graph.setups.items l.setups.items
