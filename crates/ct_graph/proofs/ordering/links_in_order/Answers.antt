use Rattle.std.proofs.Common.{◌≡◌, ◌<◌, ◌∙◌, [], ◌∷◌, ◌++◌, get_or, length, subst, sym, ap}
use Rattle.std.proofs.lemmas.List.{map_more, get_or_read}
use Rattle.std.proofs.lemmas.List.Elements.{All-get_or}
use Rattle.ct_graph.specs.Walk.{row_of, mark_of, rank_of}
use Rattle.ct_graph.specs.Rows.{links_of}
use Rattle.ct_graph.proofs.TestLemmas.{not_in_front}
use Rattle.ct_graph.proofs.OrderLemmas.{leaves_more}
use Rattle.ct_graph.proofs.ordering.links_in_order.Goals as goal

pub loop-number-preserved : goal.loop-number-preserved
loop-number-preserved c =
    let members = c.args.members.now in
    let rows = c.args.graph.before.items in
    let sets = c.args.graph.setups.items in
    let at = c.loop-number.number-index in
    let number = get_or members at 0 in
    let within = c.loop-number-test.true in
    let front = not_in_front members at c.requires.ascending within in
    let inside : number < length c.loop-number.before.items = subst (λ n. number < n) (sym c.loop-number.invariant.1.count) (All-get_or (λ n. n < length rows) members at 0 within c.requires.before) in
    let inside_sets : number < length c.loop-number.setups.items = subst (λ n. number < n) (sym c.loop-number.invariant.2.count) (All-get_or (λ n. n < length sets) members at 0 within c.requires.setups) in
    let before : c.replace.result ≡ row_of rows number = c.replace.ensures.value ∙ get_or_read c.loop-number.before.items number c.index_mut.result.now inside c.index_mut.ensures.value [] ∙ c.loop-number.invariant.1.same number front in
    let setups : c.replace-in-loop-number.result ≡ row_of sets number = c.replace-in-loop-number.ensures.value ∙ get_or_read c.loop-number.setups.items number c.index_mut-in-loop-number.result.now inside_sets c.index_mut-in-loop-number.ensures.value [] ∙ c.loop-number.invariant.2.same number front in
    let rank : c.rank.result ≡ rank_of (mark_of c.args.marks.now number) = c.rank.ensures in
    let pushed : c.push.new.self ≡ c.loop-number.links ++ record { number = number; before = c.replace.result; setups = c.replace-in-loop-number.result; rank = c.rank.result } ∷ [] = c.in_ok-push.ensures.ok in
    let made : record { number = number; before = c.replace.result; setups = c.replace-in-loop-number.result; rank = c.rank.result } ≡ links_of (row_of sets) rows c.args.marks.now number = λ i. record { number = number; before = before i; setups = setups i; rank = rank i } in (
      pushed
          ∙ ap (λ l. c.loop-number.links ++ l ∷ []) made
          ∙ ap (λ ls. ls ++ links_of (row_of sets) rows c.args.marks.now number ∷ []) c.loop-number.invariant.0
          ∙ sym (map_more (links_of (row_of sets) rows c.args.marks.now) members at 0 within),
      leaves_more members at 0 rows c.loop-number.before.items c.replace.new.dest within c.loop-number.invariant.1,
      leaves_more members at 0 sets c.loop-number.setups.items c.replace-in-loop-number.new.dest within c.loop-number.invariant.2,
    )
