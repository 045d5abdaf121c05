use Rattle.std.proofs.Common.{rules, ◌≡◌, ◌∙◌, ◌-◌, ℕ, List, ap, length}
use Rattle.std.specs.Prelude.{slice_get, unwrap_or}
use Rattle.ct_times.specs.Times.{least_times}
use Rattle.ct_times.proofs.CodeLemmas.{last_at}
use Rattle.ct_times.proofs.times.length_of.Goals as goal

pub returns : goal.returns
returns c =
    let same : c.as_slice.result.now ≡ least_times c.args.entries.now = search rules in
    c.last_of.ensures ∙ ap (λ (ms : List ℕ). unwrap_or (slice_get ms (length ms - 1)) 0) same ∙ last_at (least_times c.args.entries.now)
