use Rattle.std.proofs.Common.{◌≡◌, ℕ, ◌+◌, ◌*◌, ◌/◌, ◌<◌, ◌||◌, Bool, List, length, set, sym, subst, rules}
use Rattle.ct_queue.specs.Marks.{is_marked, marks_of}
use Rattle.ct_queue.proofs.TreeLemmas.{IsRising, first_rise, rise}
use Rattle.ct_queue.proofs.marks.Marks.set.Goals as goal

pub loop-node-init : goal.loop-node-init
loop-node-init c =
    let len : c.len.result ≡ length c.self.inside.nodes.items = search rules in
    let view : marks_of c.self.inside.nodes.items ≡ c.args.self.now = c.self.view_is in
    let start = first_rise c.self.inside.nodes.items c.args.place c.args.mark c.self.invariant (subst (λ (ms : List Bool). c.args.place < length ms) (sym view) c.requires) in
    subst (λ (ms : List Bool). IsRising (set ms c.args.place c.args.mark) (set c.self.inside.nodes.items (c.len.result / 2 + c.args.place) c.args.mark) (c.len.result / 2 + c.args.place)) view
    (subst (λ (n : ℕ). IsRising (set (marks_of c.self.inside.nodes.items) c.args.place c.args.mark) (set c.self.inside.nodes.items (n / 2 + c.args.place) c.args.mark) (n / 2 + c.args.place)) (sym len) start)

pub loop-node-preserved : goal.loop-node-preserved
loop-node-preserved c =
    let is = subst (λ (l : List Bool). c.is_marked_below-below.result ≡ (is_marked l (2 * (c.loop-node.node / 2)) || is_marked l (2 * (c.loop-node.node / 2) + 1))) c.as_slice.ensures.value c.is_marked_below-below.ensures in
    rise (set c.args.self.now c.args.place c.args.mark) c.loop-node.self-inside.nodes.items c.loop-node.node c.is_marked_below-below.result c.loop-node-test.true c.loop-node.invariant is
