use Rattle.std.proofs.Common.{rules, ◌≡◌, ◌∙◌, sym, ap, subst, true, length, ◌==◌}
use Rattle.std.specs.Prelude.{Err}
use Rattle.ct_history.specs.declared.plan.PlanParts.{PlanParts}
use Rattle.ct_cost.specs.After.{failed_log_text}
use Rattle.ct_app.specs.Steps.{WritesLog}
use Rattle.ct_app.proofs.RunFilesLemmas.{leaves_none, none_failing, unwritten_costs}
use Rattle.ct_app.proofs.StepLemmas.{writes_both}
use Rattle.ct_app.proofs.run_files.write_files.Goals as goal

pub returns-then-is_empty-clause-written : goal.returns-then-is_empty-clause-written
returns-then-is_empty-clause-written g c =
    let none : (length c.args.plan.now.tests == 0) ≡ true = ap (λ (p : PlanParts). length p.tests == 0) (sym c.parts.ensures.is) ∙ sym c.is_empty.ensures ∙ c.if-is_empty.true in
    leaves_none c.args.plan.now c.args.history.now.entries.items c.args.costs.now (g.F.Files.tells c.args.files.now) none

pub returns-then-is_empty-clause-failed : goal.returns-then-is_empty-clause-failed
returns-then-is_empty-clause-failed g c =
    let none : (length c.args.plan.now.tests == 0) ≡ true = ap (λ (p : PlanParts). length p.tests == 0) (sym c.parts.ensures.is) ∙ sym c.is_empty.ensures ∙ c.if-is_empty.true in
    sym (none_failing c.args.plan.now c.args.history.now.entries.items none)

pub returns-in_err-write_costs-clause-written : goal.returns-in_err-write_costs-clause-written
returns-in_err-write_costs-clause-written g c =
    let some = ap (λ (p : PlanParts). length p.tests == 0) (sym c.parts.ensures.is) ∙ sym c.is_empty.ensures ∙ c.if-is_empty.false in
    let fault = c.in_err-write_costs.field-0.0 in
    let gave : c.from_residual-in_err-write_costs.result ≡ Err fault = search rules in
    rw gave (unwritten_costs c.args.plan.now c.args.history.now.entries.items c.args.costs.now some fault (g.F.Files.tells c.args.files.now) (g.F.Files.tells c.write_costs.new.files) c.in_err-write_costs.ensures)

pub returns-clause-written : goal.returns-clause-written
returns-clause-written g c =
    let some = ap (λ (p : PlanParts). length p.tests == 0) (sym c.parts.ensures.is) ∙ sym c.is_empty.ensures ∙ c.if-is_empty.false in
    let log : c.bytes.result.now ≡ failed_log_text c.args.plan.now c.args.history.now.entries.items = search rules in
    let between = g.F.Files.tells c.write_costs.new.files in
    let after = g.F.Files.tells c.write_log.new.files in
    let logged = subst (λ (p : PlanParts). WritesLog p.dir c.bytes.result.now between after c.write_log.result) c.parts-2.ensures.is c.write_log.ensures in
    (writes_both c.args.plan.now c.args.history.now.entries.items c.args.costs.now some c.bytes.result.now (g.F.Files.tells c.args.files.now) between after c.write_log.result log c.in_ok-write_costs.ensures logged).0

pub returns-clause-failed : goal.returns-clause-failed
returns-clause-failed g c =
    let some = ap (λ (p : PlanParts). length p.tests == 0) (sym c.parts.ensures.is) ∙ sym c.is_empty.ensures ∙ c.if-is_empty.false in
    let log : c.bytes.result.now ≡ failed_log_text c.args.plan.now c.args.history.now.entries.items = search rules in
    let between = g.F.Files.tells c.write_costs.new.files in
    let after = g.F.Files.tells c.write_log.new.files in
    let logged = subst (λ (p : PlanParts). WritesLog p.dir c.bytes.result.now between after c.write_log.result) c.parts-2.ensures.is c.write_log.ensures in
    (writes_both c.args.plan.now c.args.history.now.entries.items c.args.costs.now some c.bytes.result.now (g.F.Files.tells c.args.files.now) between after c.write_log.result log c.in_ok-write_costs.ensures logged).1
