use Rattle.std.proofs.Common.{rules, ℕ, ◌≡◌, ◌<◌, get_or, length, take, true, subst, sym, arith}
use Rattle.ct_history.specs.declared.history.Entry.{Entry}
use Rattle.ct_history.specs.Legal.{is_allowed}
use Rattle.ct_history.specs.Audited.{IsAuditOf}
use Rattle.ct_explain.proofs.StoryLemmas.{allowed_at, audit_more}
use Rattle.ct_explain.proofs.story.note_until.Goals as goal

pub loop-place-preserved : goal.loop-place-preserved
loop-place-preserved c =
    let entries = c.args.entries.now in
    let place = c.loop-place.place in
    let e = c.in_ok-entry.entry in
    let inside : c.loop-place.place < length c.args.entries.now = omega arith in
    let is : e ≡ get_or entries place e = search rules in
    let allowed : is_allowed c.args.plan.now (take place entries) e ≡ true = subst (λ (x : Entry). is_allowed c.args.plan.now (take place entries) x ≡ true) (sym is) (allowed_at c.args.plan.now entries c.requires.legal place e inside) in
    audit_more c.args.plan.now entries place e c.note.new.self inside is (c.in_ok-note.ensures (take place entries) c.loop-place.invariant allowed)

pub returns : goal.returns
returns c =
    let same : c.loop-place.place ≡ c.args.end = omega (arith, c.loop-place-test.false, c.loop-place.auto.place-end, c.requires.order) in
    subst (λ (n : ℕ). IsAuditOf c.args.plan.now (take n c.args.entries.now) c.loop-place.audit) same c.loop-place.invariant
