use Rattle.std.proofs.Common.{◌≡◌, ◌≤◌, take, length, sum_by}
use Rattle.ct_graph.specs.Index.{IsReadySearch}
use Rattle.ct_graph.specs.Rows.{AreRows, before_in, setups_in}
use Rattle.ct_graph.proofs.rows.Graph.fill.Given as goal

abbrev pub invariant-loop-number : goal.invariant-loop-number
invariant-loop-number l =
    AreRows (before_in l.index) (length l.index.props.now) (take l.number-index l.index.members.now) l.self.before.items
    × AreRows (setups_in l.index) (length l.index.props.now) (take l.number-index l.index.members.now) l.self.setups.items
    × IsReadySearch l.index l.search
    × (l.edges ≡ sum_by (λ number. length (before_in l.index number)) (take l.number-index l.index.members.now))
    × (l.edges ≤ l.most)
