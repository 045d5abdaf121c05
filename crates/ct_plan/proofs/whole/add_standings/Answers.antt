use Rattle.std.proofs.Common.{◌≡◌, ◌<◌, ◌≤◌, ◌∙◌, ◌+◌, ◌++◌, ◌∷◌, [], ℕ, List, Option, Some, append_assoc, arith, get_or, length, map, sym, ap, subst, take}
use Rattle.std.proofs.lemmas.List.{map_more, map_push}
use Rattle.std.proofs.lemmas.List.Elements.{All-get_or}
use Rattle.ct_base.specs.declared.defs.TestDef.{TestDef}
use Rattle.ct_props.specs.declared.props.Props.{Props}
use Rattle.ct_props.specs.Numbered.{at_number}
use Rattle.ct_props.proofs.NumberedLemmas.{at_number_read}
use Rattle.ct_plan.specs.declared.standing.Standing.{Standing}
use Rattle.ct_plan.specs.Queue.{standing_there}
use Rattle.ct_plan.specs.Whole.{standing_behind}
use Rattle.ct_plan.proofs.whole.add_standings.Goals as goal

pub loop-number-preserved : goal.loop-number-preserved
loop-number-preserved c =
    let defs = c.args.tree.now.defs in
    let props = c.args.tree.now.props in
    let costs = c.args.tree.now.costs in
    let offset = c.args.offset in
    let numbers = c.args.numbers.now in
    let at = c.loop-number.number-index in
    let number = get_or numbers at 0 in
    let within = c.loop-number-test.true in
    let bounds = All-get_or (λ n. (0 < n) × (n ≤ length defs)) numbers at 0 within c.requires.within in
    let low = subst (λ (ds : List TestDef). number ≤ length ds) (sym c.as_slice-defs.ensures) bounds.1 in
    let own_low = subst (λ (ps : List Props). number ≤ length ps) (sym c.as_slice-props.ensures) (omega (arith, bounds.1, c.requires.paired)) in
    let def : at_number defs number ≡ Some c.index-defs-at.result =
    ap (λ (ds : List TestDef). at_number ds number) (sym c.as_slice-defs.ensures) ∙ at_number_read c.as_slice-defs.result.now number c.index-defs-at.result bounds.0 low c.index-defs-at.is in
    let own : at_number props number ≡ Some c.index-props-at.result =
    ap (λ (ps : List Props). at_number ps number) (sym c.as_slice-props.ensures) ∙ at_number_read c.as_slice-props.result.now number c.index-props-at.result bounds.0 own_low c.index-props-at.is in
    let one : Some c.of-standing.result ≡ standing_behind offset defs props costs number =
    c.of-standing.ensures ∙ sym ((λ i. standing_there costs (number + offset) (def i) (own i))) in
    let f : ℕ → Option Standing = standing_behind offset defs props costs in
    let pushed : c.push.new.self.items ≡ c.loop-number.standings.items ++ c.of-standing.result ∷ [] = c.in_ok-push.ensures.items in
    ap (map Some) pushed
    ∙ map_push Some c.loop-number.standings.items c.of-standing.result
    ∙ (λ i. c.loop-number.invariant i ++ one i ∷ [])
    ∙ append_assoc (map Some c.args.standings.now.items) (map f (take at numbers)) (f number ∷ [])
    ∙ ap (λ (ss : List (Option Standing)). map Some c.args.standings.now.items ++ ss) (sym (map_more f numbers at 0 within))
