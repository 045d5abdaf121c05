use Rattle.std.proofs.Common.{◌≡◌, ◌∙◌, ◌++◌, ◌∷◌, [], ◌+◌, ◌≤◌, List, ap, subst, sym, length, arith}
use Rattle.std.specs.Prelude.{vec_capacity}
use Rattle.ct_verdict.specs.declared.verdict.Verdict.TheVariants.{NotRun}
use Rattle.ct_history.specs.Plan.{IsPlaceOf}
use Rattle.ct_history.specs.declared.plan.PlanTest.{PlanTest}
use Rattle.ct_history.specs.declared.plan.PlanParts.{PlanParts}
use Rattle.ct_history.specs.declared.history.Entry.{Entry}
use Rattle.ct_history.specs.declared.history.Entry.TheVariants.{Settle}
use Rattle.ct_core.specs.Parts.{IsConcluding}
use Rattle.ct_core.specs.Run.{history_of_run}
use Rattle.ct_core.proofs.SettleLemmas.{concluding-settled, is_member, stands_queued}
use Rattle.ct_core.proofs.run.Run.settle.Goals as goal

pub settle-requires-clause-stands : goal.settle-requires-clause-stands
settle-requires-clause-stands c =
    let run = c.args.self.now in
    let tests : c.as_slice.result.now ≡ run.plan.tests = c.as_slice.ensures ∙ ap (λ (p : PlanParts). p.tests) c.parts.ensures.is in
    let at = subst (λ (ts : List PlanTest). IsPlaceOf ts c.args.number c.expect_place-place.result) tests c.expect_place-place.ensures in
    stands_queued run.plan (history_of_run run) (vec_capacity run.history.entries) run.parts c.requires.kept c.args.number c.args.cause c.requires.may c.expect_place-place.result at

pub settle-requires-clause-member : goal.settle-requires-clause-member
settle-requires-clause-member c =
    let run = c.args.self.now in
    let tests : c.as_slice.result.now ≡ run.plan.tests = c.as_slice.ensures ∙ ap (λ (p : PlanParts). p.tests) c.parts.ensures.is in
    let at = subst (λ (ts : List PlanTest). IsPlaceOf ts c.args.number c.expect_place-place.result) tests c.expect_place-place.ensures in
    is_member run.plan (history_of_run run) (vec_capacity run.history.entries) run.parts c.requires.kept c.args.number c.args.cause c.requires.may c.expect_place-place.result at

pub conclude-requires : goal.conclude-requires
conclude-requires c =
    let run = c.args.self.now in
    let es = history_of_run run in
    let tests : c.as_slice.result.now ≡ run.plan.tests = c.as_slice.ensures ∙ ap (λ (p : PlanParts). p.tests) c.parts.ensures.is in
    let at = subst (λ (ts : List PlanTest). IsPlaceOf ts c.args.number c.expect_place-place.result) tests c.expect_place-place.ensures in
    let room = vec_capacity c.append_reserved.new.entries in
    let appended : c.append_reserved.new.entries.items ≡ es ++ Settle c.args.number c.args.cause ∷ [] = c.append_reserved.ensures.items ∙ ap (λ (xs : List Entry). xs ++ Settle c.args.number c.args.cause ∷ []) c.in_ok-reserve.ensures.items in
    let fits : length es + (run.parts.in_use.open_count + 2) ≤ room = omega (arith, c.in_ok-reserve.ensures.ok, c.append_reserved.ensures.room) in
    record {
      concluding =
          subst (λ (xs : List Entry). IsConcluding run.plan xs room c.args.number (NotRun c.args.cause) c.settle.new.self) (sym appended)
          (concluding-settled run.plan es (vec_capacity run.history.entries) run.parts c.requires.kept c.args.number c.args.cause c.requires.may c.expect_place-place.result at c.settle.new.self c.settle.ensures room fits);
    }
