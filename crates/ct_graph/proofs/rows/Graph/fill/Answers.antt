use Rattle.std.proofs.Common.{◌≡◌, ◌≤◌, ◌<◌, ◌+◌, ◌∙◌, arith, length, sum_by, take, get_or, set, refl, sym, ap, subst}
use Rattle.std.proofs.lemmas.Bool.{ltb-true, ltb-false}
use Rattle.std.proofs.lemmas.List.Elements.{All-get_or}
use Rattle.std.proofs.lemmas.List.Sums.{sum_by_more, sum_by_more_le}
use Rattle.ct_graph.specs.ByName.{tests_of}
use Rattle.ct_graph.specs.Rows.{AreRows, before_in, setups_in}
use Rattle.ct_graph.proofs.RowLemmas.{starts_rows, puts_row}
use Rattle.ct_graph.proofs.rows.Graph.fill.Goals as goal

pub returns-then-exceeds-clause-err : goal.returns-then-exceeds-clause-err
returns-then-exceeds-clause-err c =
    let index = c.args.index.now in
    let members = index.members.now in
    let at = c.loop-number.number-index in
    let more = sum_by_more_le (λ number. length (before_in index number)) members at 0 c.loop-number-test.true in
    let row : length c.in_ok-row.row.before ≡ length (before_in index (get_or members at 0)) = ap length c.in_ok-row.ensures.before in
    let so_far : c.loop-number.edges ≡ sum_by (λ number. length (before_in index number)) (take at members) = c.loop-number.invariant.3 in
    let long : c.len-more.result ≡ length c.in_ok-row.row.before = c.len-more.ensures in
    let over : c.args.most < c.loop-number.edges + c.len-more.result = ltb-true c.args.most (c.loop-number.edges + c.len-more.result) (sym c.exceeds.ensures ∙ c.if-exceeds.true) in
    omega arith

pub loop-number-init : goal.loop-number-init
loop-number-init c =
    let index = c.args.index.now in (
      starts_rows (before_in index) (length index.props.now) c.args.self.now.before.items c.requires.before,
      starts_rows (setups_in index) (length index.props.now) c.args.self.now.setups.items c.requires.setups,
      record { empty = c.new-search.ensures.empty; setups = c.new-search.ensures.setups (tests_of index.setups); users = c.new-search.ensures.users (tests_of index.users) },
      refl,
      omega arith,
    )

pub loop-number-preserved : goal.loop-number-preserved
loop-number-preserved c =
    let index = c.args.index.now in
    let tests = length index.props.now in
    let members = index.members.now in
    let at = c.loop-number.number-index in
    let number = get_or members at 0 in
    let old = c.loop-number.self in
    let new = c.put.new.self in
    let within = c.loop-number-test.true in
    let few : number ≤ tests = (All-get_or (λ n. (0 < n) × (n ≤ tests)) members at 0 within c.requires.indexed.inside).1 in
    let rows_count : length old.before.items ≡ tests + 1 = c.loop-number.invariant.0.count in
    let sets_count : length old.setups.items ≡ tests + 1 = c.loop-number.invariant.1.count in
    let more = sum_by_more (λ n. length (before_in index n)) members at 0 within in
    let row : length c.in_ok-row.row.before ≡ length (before_in index number) = ap length c.in_ok-row.ensures.before in
    let so_far : c.loop-number.edges ≡ sum_by (λ n. length (before_in index n)) (take at members) = c.loop-number.invariant.3 in
    let long : c.len-more.result ≡ length c.in_ok-row.row.before = c.len-more.ensures in
    let left : c.loop-number.edges + c.len-more.result ≤ c.args.most = ltb-false c.args.most (c.loop-number.edges + c.len-more.result) (sym c.exceeds.ensures ∙ c.if-exceeds.false) in
    let befores : new.before.items ≡ set old.before.items number (before_in index number) = c.put.ensures.before ∙ ap (set old.before.items number) c.in_ok-row.ensures.before in
    let sets : new.setups.items ≡ set old.setups.items number (setups_in index number) = c.put.ensures.setups ∙ ap (set old.setups.items number) c.in_ok-row.ensures.setups in (
      subst (AreRows (before_in index) tests (take (at + 1) members)) (sym befores) (puts_row (before_in index) tests members at 0 old.before.items within (omega arith) c.loop-number.invariant.0),
      subst (AreRows (setups_in index) tests (take (at + 1) members)) (sym sets) (puts_row (setups_in index) tests members at 0 old.setups.items within (omega arith) c.loop-number.invariant.1),
      c.in_ok-row.ensures.ready,
      omega (arith, more),
      omega arith,
    )
