use Rattle.std.proofs.Common.{◌∙◌, ◌<◌, ℕ, List, All, ap, length, map, subst, sym, arith}
use Rattle.std.proofs.lemmas.List.Elements.{All-push}
use Rattle.ct_core.specs.Lines.{demand_at}
use Rattle.ct_core.proofs.LineLemmas.{lines_more}
use Rattle.ct_core.proofs.lines.list_lines.Goals as goal

pub loop-place-preserved : goal.loop-place-preserved
loop-place-preserved c =
    let plan = c.args.plan.now in
    let line = c.in_ok-line.line in
    let place = c.loop-place.place in
    let lines = c.loop-place.lines in
    let pushed = c.in_ok-push.ensures.ok in
    let within : place < length plan.queue = omega arith in
    record {
      within =
          subst (λ (ls : List ℕ). All (λ (l : ℕ). l < length plan.queue) ls) (sym pushed)
          (All-push (λ (l : ℕ). l < length plan.queue) lines line c.loop-place.invariant.within c.in_ok-line.ensures.within);
      alike =
          ap (λ (ls : List ℕ). map (demand_at plan) ls) pushed
          ∙ lines_more plan lines place line within c.in_ok-line.ensures.alike c.loop-place.invariant.alike;
    }
