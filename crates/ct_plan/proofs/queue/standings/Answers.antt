use Rattle.std.proofs.Common.{◌≡◌, ◌<◌, ◌≤◌, ◌∙◌, ◌++◌, ◌∷◌, [], Some, arith, get_or, length, map, sym, ap}
use Rattle.std.proofs.lemmas.List.{map_more, map_push}
use Rattle.std.proofs.lemmas.List.Elements.{All-get_or}
use Rattle.ct_props.specs.Numbered.{at_number}
use Rattle.ct_props.proofs.NumberedLemmas.{at_number_read}
use Rattle.ct_plan.specs.Linked.{standing_in}
use Rattle.ct_plan.specs.Queue.{standing_there}
use Rattle.ct_plan.proofs.queue.standings.Goals as goal

pub loop-number-preserved : goal.loop-number-preserved
loop-number-preserved c =
    let defs = c.args.defs.now in
    let props = c.args.props.now in
    let costs = c.args.costs.now in
    let numbers = c.args.numbers.now in
    let at = c.loop-number.number-index in
    let number = get_or numbers at 0 in
    let within = c.loop-number-test.true in
    let bounds = All-get_or (λ n. (0 < n) × (n ≤ length defs)) numbers at 0 within c.requires.within in
    let def : at_number defs number ≡ Some c.index-defs-at.result = at_number_read defs number c.index-defs-at.result bounds.0 bounds.1 c.index-defs-at.is in
    let own : at_number props number ≡ Some c.index-props-at.result = at_number_read props number c.index-props-at.result bounds.0 (omega (arith, bounds.1, c.requires.paired)) c.index-props-at.is in
    let one : Some c.of.result ≡ standing_in defs props costs number = c.of.ensures ∙ sym ((λ i. standing_there costs number (def i) (own i))) in
    let pushed : c.push.new.self.items ≡ c.loop-number.standings.items ++ c.of.result ∷ [] = c.in_ok-push.ensures.items in
    ap (map Some) pushed
    ∙ map_push Some c.loop-number.standings.items c.of.result
    ∙ (λ i. c.loop-number.invariant i ++ one i ∷ [])
    ∙ sym (map_more (standing_in defs props costs) numbers at 0 within)
