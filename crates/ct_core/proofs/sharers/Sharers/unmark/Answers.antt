use Rattle.std.proofs.Common.{◌∙◌, ap, refl, bytes_eq, cond, sym, take}
use Rattle.ct_core.specs.declared.sharers.SharerCount.{SharerCount}
use Rattle.ct_core.specs.Sharers.{has_mark, sharers_of}
use Rattle.ct_core.proofs.SharerLemmas.{mark_less, seen_more, set_again}
use Rattle.ct_core.proofs.sharers.Sharers.unmark.Goals as goal
use Rattle.ct_base.specs.Names.{is_among}

pub loop-name-preserved : goal.loop-name-preserved
loop-name-preserved c =
    let names = c.args.names.now in
    let at = c.loop-name.name-index in
    let name = c.name-item.result in
    let before = c.loop-name.self in
    let more = seen_more names at name c.loop-name-test.true (sym c.name-item.is) in
    record {
      counted = λ asked. c.set.ensures.counted asked ∙ c.loop-name.invariant.counted asked;
      kept = λ asked.
          c.set.ensures.set asked
          ∙ ap (λ tests. cond (bytes_eq asked name) tests (sharers_of before asked)) (ap (λ (n : SharerCount). n.tests) c.count-tests.ensures)
          ∙ set_again (sharers_of before) name asked (bytes_eq asked name) refl
          ∙ c.loop-name.invariant.kept asked;
      unmarked = λ asked among.
          c.set.ensures.marked asked
          ∙ mark_less (has_mark before asked) (is_among asked (take at names)) (bytes_eq asked name) (c.loop-name.invariant.unmarked asked) (sym (more asked) ∙ among);
    }
