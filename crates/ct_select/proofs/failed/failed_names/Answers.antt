use Rattle.std.proofs.Common.{rules, tests, ◌∙◌, ap, sym, map, ◌∷◌, ◌++◌, [], filter_map}
use Rattle.std.proofs.lemmas.Iterator.Consumers.{YieldsList-end}
use Rattle.std.proofs.lemmas.Iterator.Splits.{YieldsList-from_slice_split}
use Rattle.std.proofs.lemmas.List.{map_push}
use Rattle.std.proofs.lemmas.List.Elements.{filter_map-append}
use Rattle.ct_select.specs.FailedLog.{name_in}
use Rattle.ct_select.proofs.failed.failed_names.Goals as goal

pub loop-line-preserved : goal.loop-line-preserved
loop-line-preserved c =
    let before = c.loop-line.yielded in
    let line = c.in-Some.line in
    c.in_ok-push_name.ensures
    ∙ ap (λ names. names ++ filter_map name_in (line.now ∷ [])) c.loop-line.invariant
    ∙ sym (ap (filter_map name_in) (map_push (λ l. l.now) before line) ∙ filter_map-append name_in (map (λ l. l.now) before) (line.now ∷ []))

pub returns : goal.returns
returns c =
    let split = c.split-line-items in
    let same = c.into_iter-line-iterator.ensures.into_iter_gives in
    let cut = YieldsList-from_slice_split {s = c.into_iter-line-iterator.result} _ _ c.args.log.now (ap (λ s. s.rest.now) same ∙ split.ensures.rest) (ap (λ s. s.done) same ∙ split.ensures.done) split.ensures.closure (λ x r q k. search (rules, tests)) in
    let all = YieldsList-end cut c.loop-line.yielded _ c.loop-line.yielded_by _ _ c.in-None.is c.next.ensures.steps in
    c.loop-line.invariant ∙ ap (filter_map name_in) all.0
