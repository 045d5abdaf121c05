use Rattle.std.proofs.Common.{rules, ◌≡◌, ℕ, refl}
use Rattle.ct_history.specs.Course.{course_at, untouched}
use Rattle.ct_history.proofs.AuditedLemmas.{tells_none}
use Rattle.ct_history.proofs.audit.Audit.new.Goals as goal

pub returns : goal.returns
returns c =
    let none : (test : ℕ) → course_at c.new-2.result test ≡ untouched = search rules in
    tells_none c.args.plan.now _ c.new.ensures.items none refl refl refl
