use Rattle.std.proofs.Common.{◌≡◌, ◌∙◌, ap, sym, map, [], None, Some, option_map}
use Rattle.std.specs.Option.{option_map_or}
use Rattle.std.proofs.lemmas.Result.{on_ok_weaker}
use Rattle.ct_cost.specs.CostLine.{line_of, with_line}
use Rattle.ct_cost.specs.Kept.{durations_of, kept_line, line_for}
use Rattle.ct_cost.proofs.KeptLemmas.{durations-lookup, found_or_none, lines-set_value, run-line}
use Rattle.ct_cost.proofs.lines.Lines.add_run.Goals as goal

pub returns-in_ok-push-in-Some : goal.returns-in_ok-push-in-Some
returns-in_ok-push-in-Some c =
    let lines = c.args.self.now in
    let name = c.args.name.now in
    let entries = c.self.inside.durations.entries in
    let old = c.in-Some.durations.now in
    let more = c.push.new.self in
    let before : old ≡ option_map_or durations_of (line_of lines name) [] =
    found_or_none (line_of lines name) (Some old) (c.in-Some.ensures.value ∙ durations-lookup name entries ∙ ap (λ ls. option_map durations_of (line_of ls name)) c.self.view_is) in
    ap (map kept_line) (c.get_mut.follows.holds more).0
    ∙ lines-set_value entries name more old (sym c.in-Some.ensures.value)
    ∙ ap (λ ls. with_line ls (line_for name more)) c.self.view_is
    ∙ run-line lines name c.args.micros old more before c.in_ok-push-in-Some.ensures

pub returns-in_ok-first-in-None : goal.returns-in_ok-first-in-None
returns-in_ok-first-in-None c =
    let lines = c.args.self.now in
    let name = c.args.name.now in
    let entries = c.self.inside.durations.entries in
    let first = c.in_ok-first-in-None.first in
    let before : [] ≡ option_map_or durations_of (line_of lines name) [] =
    found_or_none (line_of lines name) None (c.in-None.ensures.value ∙ durations-lookup name entries ∙ ap (λ ls. option_map durations_of (line_of ls name)) c.self.view_is) in
    let same = run-line lines name c.args.micros [] first before c.in_ok-first-in-None.ensures in
    let kept = ap (λ m. map kept_line m.entries) c.get_mut.follows.holds-at-none ∙ c.self.view_is in
    on_ok_weaker c.add.result (λ added. added ∙ ap (λ ls. with_line ls (line_for name first)) kept ∙ same) c.add.ensures
