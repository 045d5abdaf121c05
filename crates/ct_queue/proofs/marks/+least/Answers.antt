use Rattle.std.proofs.Common.{◌≡◌, ℕ, ◌+◌, ◌/◌, false, length, subst, arith, rules, MatchOption}
use Rattle.ct_queue.specs.Marks.{is_marked, marks_of, NoneWithin, IsLeastWithin}
use Rattle.ct_queue.proofs.TreeLemmas.{even_power, positive_power}
use Rattle.ct_queue.proofs.SearchLemmas.{none_below, left_below, right_below, behind_left}
use Rattle.ct_queue.proofs.marks.+least.Goals as goal

pub returns-then-not-nodes-node : goal.returns-then-not-nodes-node
returns-then-not-nodes-node t c =
    let bare : is_marked c.args.nodes.now c.args.node ≡ false = search (rules, c.if-not-nodes-node.true) in
    none_below c.args.nodes.now c.requires.tree c.args.node c.args.low c.args.span c.requires.inside c.requires.span c.requires.below c.requires.within c.args.from bare

pub least-requires : goal.least-requires
least-requires t c =
    let half = even_power c.args.span c.requires.span c.if-span-eq1.false in
    let below = left_below c.args.node c.args.low c.args.span (length c.args.nodes.now / 2) half.0 c.requires.below in
    let positive = positive_power c.args.span c.requires.span in
    (omega (arith, half.0), (c.requires.tree, (omega arith, (half.1, (below, omega arith)))))

pub least-requires-in-None : goal.least-requires-in-None
least-requires-in-None t c =
    let half = even_power c.args.span c.requires.span c.if-span-eq1.false in
    let below = right_below c.args.node c.args.low c.args.span (length c.args.nodes.now / 2) half.0 c.requires.below in
    let positive = positive_power c.args.span c.requires.span in
    (omega (arith, half.0), (c.requires.tree, (omega arith, (half.1, (below, omega (arith, half.0))))))

pub returns-in-None : goal.returns-in-None
returns-in-None t c =
    let half = even_power c.args.span c.requires.span c.if-span-eq1.false in
    let end : c.args.low + c.args.span / 2 + c.args.span / 2 ≡ c.args.low + c.args.span = omega (arith, half.0) in
    behind_left (marks_of c.args.nodes.now) c.args.from c.args.low (c.args.low + c.args.span / 2) (c.args.low + c.args.span) c.least-in-None.result (omega arith) c.in-None.ensures
    (subst (λ (e : ℕ). MatchOption c.least-in-None.result (NoneWithin (marks_of c.args.nodes.now) c.args.from (c.args.low + c.args.span / 2) e) (IsLeastWithin (marks_of c.args.nodes.now) c.args.from (c.args.low + c.args.span / 2) e)) end c.least-in-None.ensures)
