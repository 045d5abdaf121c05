use Rattle.std.proofs.Common.{[], ◌∙◌, refl, subst}
use Rattle.std.proofs.lemmas.Result.{IfErr-weaker, err_from_is_err_and, on_ok_weaker}
use Rattle.ct_suite.specs.Readers.{StopsFor, entries_with}
use Rattle.ct_suite.proofs.TakesLemmas.{entry-last, with_entry}
use Rattle.ct_suite.proofs.reader.Reader.end_entries.Goals as goal

pub returns-in_err-release-clause-stopped : goal.returns-in_err-release-clause-stopped
returns-in_err-release-clause-stopped c =
    let p = err_from_is_err_and c.from_residual.result c.from_residual.ensures.1 in
    rw (p.1, p.2) (c.in_err-release.ensures.stopped [] refl)

pub returns-clause-values : goal.returns-clause-values
returns-clause-values c =
    let last = entry-last c.args.self.now c.release.new.self c.in_ok-release.ensures.held (c.in_ok-release.ensures.taken [] refl) in
    on_ok_weaker c.end_entry.result (λ is. is ∙ last) c.end_entry.ensures.values

pub returns-clause-stopped : goal.returns-clause-stopped
returns-clause-stopped c =
    let limits = c.args.limits.now in
    let last = entry-last c.args.self.now c.release.new.self c.in_ok-release.ensures.held (c.in_ok-release.ensures.taken [] refl) in
    IfErr-weaker c.end_entry.result (StopsFor limits (with_entry c.release.new.self)) (StopsFor limits (entries_with c.args.self.now [])) (λ why stops. subst (λ vs. StopsFor limits vs why) last stops) c.end_entry.ensures.stopped
