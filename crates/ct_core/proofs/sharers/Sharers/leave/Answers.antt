use Rattle.std.proofs.Common.{◌≡◌, ◌∙◌, ◌||◌, ◌+◌, ◌-◌, ap, arith, bytes_eq, sym, take, ℕ, List}
use Rattle.std.proofs.lemmas.Bool.{not-false, not-true}
use Rattle.ct_base.specs.Names.{is_among}
use Rattle.ct_base.proofs.TruthLemmas.{true_where}
use Rattle.ct_core.specs.declared.sharers.SharerCount.{SharerCount}
use Rattle.ct_core.specs.declared.sharers.Sharers.{Sharers}
use Rattle.ct_core.specs.Sharers.{counts_sharers, has_mark, one_if, sharers_of}
use Rattle.ct_core.proofs.SharerLemmas.{among_at, count_less, seen_again, seen_more}
use Rattle.ct_core.proofs.sharers.Sharers.leave.Goals.{else-not-count, then-not-count}
use Rattle.ct_core.proofs.sharers.Sharers.leave.Goals as goal

pub overflow_sub-count : goal.overflow_sub-count
overflow_sub-count c =
    let names = c.args.names.now in
    let name = c.name-item.result in
    let among = among_at names c.loop-name.name-index name c.loop-name-test.true (sym c.name-item.is) in
    let fresh = sym (c.loop-name.invariant.marked name among) ∙ sym (ap (λ (n : SharerCount). n.marked) c.count-count.ensures) ∙ not-true c.count-count.result.marked c.if-not-count.true in
    let none : one_if (is_among name (take c.loop-name.name-index names)) ≡ 0 = ap one_if fresh in
    let one : one_if (is_among name names) ≡ 1 = ap one_if among in
    omega (arith, ap (λ (n : SharerCount). n.tests) c.count-count.ensures, c.loop-name.invariant.changed name, c.unmark.ensures.kept name, c.requires.shares name, none, one)

pub loop-name-preserved : goal.loop-name-preserved
loop-name-preserved c =
    let names = c.args.names.now in
    let name = c.name-item.result in
    let cur = c.loop-name.self in
    let old = c.unmark.new.self in
    let seen = λ (asked : List ℕ). is_among asked (take c.loop-name.name-index names) in
    let more = seen_more names c.loop-name.name-index name c.loop-name-test.true (sym c.name-item.is) in
    let among = among_at names c.loop-name.name-index name c.loop-name-test.true (sym c.name-item.is) in
    let is_seen = sym (c.loop-name.invariant.marked name among) ∙ sym (ap (λ (n : SharerCount). n.marked) c.count-count.ensures) in
    elim c.if-not-count.branch [
      | then-not-count w ↦
          let fresh = is_seen ∙ not-true c.count-count.result.marked w.if-not-count.true in
          record {
            counted = λ asked. ap (λ (s : Sharers). counts_sharers s asked) w.self-is ∙ w.set.ensures.counted asked ∙ c.loop-name.invariant.counted asked;
            changed = λ asked.
                ap (λ (s : Sharers). sharers_of s asked) w.self-is
                ∙ count_less seen (sharers_of cur) (sharers_of old) name fresh c.loop-name.invariant.changed (c.count-count.result.tests - 1)
                (ap (λ (n : SharerCount). n.tests - 1) c.count-count.ensures) asked (sharers_of w.set.new.self asked) (w.set.ensures.set asked)
                ∙ ap (λ b. sharers_of old asked - one_if b) (sym (more asked));
            marked = λ asked within.
                ap (λ (s : Sharers). has_mark s asked) w.self-is
                ∙ w.set.ensures.marked asked
                ∙ true_where (bytes_eq asked name) (has_mark cur asked)
                ∙ ap (λ b. b || bytes_eq asked name) (c.loop-name.invariant.marked asked within)
                ∙ sym (more asked);
          }
      | else-not-count w ↦
          let again = is_seen ∙ not-false c.count-count.result.marked w.if-not-count.false in
          let same : (asked : List ℕ) → is_among asked (take (c.loop-name.name-index + 1) names) ≡ seen asked = λ asked. more asked ∙ seen_again seen name asked again in
          record {
            counted = λ asked. ap (λ (s : Sharers). counts_sharers s asked) w.self-is ∙ c.loop-name.invariant.counted asked;
            changed = λ asked.
                ap (λ (s : Sharers). sharers_of s asked) w.self-is
                ∙ c.loop-name.invariant.changed asked
                ∙ ap (λ b. sharers_of old asked - one_if b) (sym (same asked));
            marked = λ asked within.
                ap (λ (s : Sharers). has_mark s asked) w.self-is ∙ c.loop-name.invariant.marked asked within ∙ sym (same asked);
          }
    ]
