use Rattle.std.proofs.Common.{arith, ◌∙◌, sym, length}
use Rattle.std.proofs.lemmas.Bool.{ltb-true}
use Rattle.ct_core.proofs.ScriptLemmas.{place_first, place_behind}
use Rattle.ct_core.proofs.script.is_place.Goals as goal

pub returns-then-at-eq0 : goal.returns-then-at-eq0
returns-then-at-eq0 c found = place_first c.args.told.now c.requires c.args.test c.args.attempt c.args.at c.in-Some.line.now (ltb-true c.args.at (length c.args.told.now) (sym c.in-Some.ensures.lookup.0)) c.in-Some.ensures.lookup.1 (sym c.is_of.ensures ∙ c.if-is_of.true) c.if-at-eq0.true

pub returns-else-at-eq0 : goal.returns-else-at-eq0
returns-else-at-eq0 c before = place_behind c.args.told.now c.requires c.args.test c.args.attempt c.args.at c.in-Some.line.now (ltb-true c.args.at (length c.args.told.now) (sym c.in-Some.ensures.lookup.0)) c.in-Some.ensures.lookup.1 (sym c.is_of.ensures ∙ c.if-is_of.true) c.index-told-at.result (omega (arith, c.if-at-eq0.false)) c.index-told-at.is (sym c.is_before.ensures ∙ before)
