use Rattle.std.proofs.Common.{rules, ◌≡◌, ◌∙◌, sym, ap, is_some, option_map, false}
use Rattle.ct_cost.specs.CostLine.{line_of}
use Rattle.ct_cost.specs.Text.{line_in}
use Rattle.ct_cost.specs.Kept.{durations_of, seen_line}
use Rattle.ct_cost.proofs.KeptLemmas.{new_read, is_some-mapped}
use Rattle.ct_cost.proofs.lines.Lines.add_line.Goals as goal

pub returns : goal.returns
returns c =
    let line = c.in-Some.line in
    let gone : is_some c.durations.result ≡ false = search rules in
    let none = sym (is_some-mapped durations_of (line_of c.args.self.now line.name.now)) ∙ ap is_some (sym c.durations.ensures) ∙ is_some-mapped (λ found. found.now) c.durations.result ∙ gone in
    let said = ap (option_map seen_line) (sym c.in-Some.is) ∙ c.in_ok-line.ensures in
    let same = new_read c.args.self.now (seen_line line) (line_in c.args.version c.args.text.now) said none in
    rw (← same) c.add.ensures
