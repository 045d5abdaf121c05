use Rattle.std.proofs.Common.{◌∙◌, ap, subst, sym, List, ℕ, get_or, nat_le, ◌||◌}
use Rattle.ct_history.specs.declared.plan.PlanParts.{PlanParts}
use Rattle.ct_core.specs.Choice.{IsStartOf}
use Rattle.ct_core.specs.Run.{history_of_run}
use Rattle.ct_core.specs.Waiting.{IsDue}
use Rattle.ct_core.proofs.BunchLemmas.{best_due, best_first, head_due, head_within, looked_more, none_last, none_to}
use Rattle.ct_core.proofs.ChoiceLemmas.{failed, first_found, first_unable, none_full, placing}
use Rattle.ct_core.proofs.PickLemmas.{none_stopped}
use Rattle.ct_core.proofs.run.Run.first_to_start.Goals as goal
use Rattle.ct_core.proofs.run.Run.first_to_start.Goals.{then-self-via-then-self, then-self-via-else-self+then-is_full}

pub returns-then-self-clause-ok : goal.returns-then-self-clause-ok
returns-then-self-clause-ok c =
    let run = c.args.self.now in
    let current = c.requires.kept.current in
    elim c.then-self.branch [
      | then-self-via-then-self w ↦ none_stopped run.plan (history_of_run run) run.plan.queue (sym current.stopped ∙ w.if-self.true)
      | then-self-via-else-self+then-is_full w ↦
          none_full run.plan (history_of_run run) run.parts.in_use c.parts-plan.ensures.sound current.in_use
          (sym (w.is_full.ensures ∙ ap (λ (p : PlanParts). nat_le p.level run.parts.in_use.processors || run.parts.in_use.serial) c.parts-plan.ensures.is) ∙ w.if-is_full.true)
    ]

pub next_start-requires-clause-due : goal.next_start-requires-clause-due
next_start-requires-clause-due c =
    let run = c.args.self.now in
    let on = sym c.requires.kept.current.stopped ∙ c.if-self.false in
    let queue = c.as_slice-queue.ensures ∙ ap (λ (p : PlanParts). p.queue) c.parts-plan.ensures.is in
    subst (λ (ns : List ℕ). IsDue run.plan (history_of_run run) (get_or ns c.in-Some.first 0)) (sym queue)
    (head_due run.plan c.parts-plan.ensures.sound (history_of_run run) run.parts.ready (c.requires.kept.queued.ready on) on c.requires.unsettled c.in-Some.first c.in-Some.ensures.new.head)

pub returns-then-is_some-clause-ok : goal.returns-then-is_some-clause-ok
returns-then-is_some-clause-ok c =
    let run = c.args.self.now in
    let on = sym c.requires.kept.current.stopped ∙ c.if-self.false in
    let queue = c.as_slice-queue.ensures ∙ ap (λ (p : PlanParts). p.queue) c.parts-plan.ensures.is in
    let first = c.in-Some.first in
    let within = head_within run.plan c.parts-plan.ensures.sound (history_of_run run) run.parts.ready (c.requires.kept.queued.ready on) on c.requires.unsettled first c.in-Some.ensures.new.head in
    let none = none_to run.plan c.parts-plan.ensures.sound (history_of_run run) run.parts.ready (c.requires.kept.queued.ready on) on c.requires.unsettled c.loop-first.behind c.loop-first.best c.loop-first.invariant first c.in-Some.ensures.new c.in-Some.ensures.before in
    first_found run.plan (history_of_run run) first (get_or c.as_slice-queue.result.now first 0) c.in_ok-found.found within (ap (λ (ns : List ℕ). get_or ns first 0) queue) none (sym c.is_some.ensures ∙ c.if-is_some.true) c.in_ok-found.ensures.ok

pub returns-in_err-found-clause-err : goal.returns-in_err-found-clause-err
returns-in_err-found-clause-err c =
    let run = c.args.self.now in
    let on = sym c.requires.kept.current.stopped ∙ c.if-self.false in
    let queue = c.as_slice-queue.ensures ∙ ap (λ (p : PlanParts). p.queue) c.parts-plan.ensures.is in
    let first = c.in-Some.first in
    let within = head_within run.plan c.parts-plan.ensures.sound (history_of_run run) run.parts.ready (c.requires.kept.queued.ready on) on c.requires.unsettled first c.in-Some.ensures.new.head in
    let none = none_to run.plan c.parts-plan.ensures.sound (history_of_run run) run.parts.ready (c.requires.kept.queued.ready on) on c.requires.unsettled c.loop-first.behind c.loop-first.best c.loop-first.invariant first c.in-Some.ensures.new c.in-Some.ensures.before in
    failed c.from_residual.result (placing run.plan (history_of_run run) first (get_or c.as_slice-queue.result.now first 0) within (ap (λ (ns : List ℕ). get_or ns first 0) queue) none c.in_err-found.ensures.err)

pub first_of_bunch-requires-clause-unable : goal.first_of_bunch-requires-clause-unable
first_of_bunch-requires-clause-unable c =
    let run = c.args.self.now in
    let on = sym c.requires.kept.current.stopped ∙ c.if-self.false in
    let queue = c.as_slice-queue.ensures ∙ ap (λ (p : PlanParts). p.queue) c.parts-plan.ensures.is in
    first_unable run.plan (history_of_run run) (get_or c.as_slice-queue.result.now c.in-Some.first 0) (get_or run.plan.queue c.in-Some.first 0) c.in_ok-found.found (ap (λ (ns : List ℕ). get_or ns c.in-Some.first 0) queue) (sym c.is_some.ensures ∙ c.if-is_some.false) c.in_ok-found.ensures.ok

pub loop-first-preserved : goal.loop-first-preserved
loop-first-preserved c =
    let run = c.args.self.now in
    let on = sym c.requires.kept.current.stopped ∙ c.if-self.false in
    let queue = c.as_slice-queue.ensures ∙ ap (λ (p : PlanParts). p.queue) c.parts-plan.ensures.is in
    let first = c.in-Some.first in
    let unable = first_unable run.plan (history_of_run run) (get_or c.as_slice-queue.result.now first 0) (get_or run.plan.queue first 0) c.in_ok-found.found (ap (λ (ns : List ℕ). get_or ns first 0) queue) (sym c.is_some.ensures ∙ c.if-is_some.false) c.in_ok-found.ensures.ok in
    looked_more run.plan c.parts-plan.ensures.sound (history_of_run run) run.parts.ready (c.requires.kept.queued.ready on) on c.requires.unsettled c.loop-first.behind c.loop-first.best c.loop-first.invariant first c.in-Some.ensures.new c.in-Some.ensures.before unable c.first_of_bunch.result c.or-best.result c.first_of_bunch.ensures c.or-best.ensures

pub start_unplaced-requires-clause-due : goal.start_unplaced-requires-clause-due
start_unplaced-requires-clause-due c =
    let run = c.args.self.now in
    let on = sym c.requires.kept.current.stopped ∙ c.if-self.false in
    let queue = c.as_slice-queue.ensures ∙ ap (λ (p : PlanParts). p.queue) c.parts-plan.ensures.is in
    subst (λ (ns : List ℕ). IsDue run.plan (history_of_run run) (get_or ns c.in-Some-best.place 0)) (sym queue)
    (best_due run.plan c.parts-plan.ensures.sound (history_of_run run) run.parts.ready (c.requires.kept.queued.ready on) on c.requires.unsettled c.loop-first.behind c.loop-first.best c.loop-first.invariant c.in-Some-best.place c.in-Some-best.is)

pub returns-in-Some-best-clause-ok : goal.returns-in-Some-best-clause-ok
returns-in-Some-best-clause-ok c =
    let run = c.args.self.now in
    let on = sym c.requires.kept.current.stopped ∙ c.if-self.false in
    let queue = c.as_slice-queue.ensures ∙ ap (λ (p : PlanParts). p.queue) c.parts-plan.ensures.is in
    let of = subst (λ (ns : List ℕ). IsStartOf run.plan (history_of_run run) (get_or ns c.in-Some-best.place 0) c.start_unplaced.result) queue c.start_unplaced.ensures in
    best_first run.plan c.parts-plan.ensures.sound (history_of_run run) run.parts.ready (c.requires.kept.queued.ready on) on c.requires.unsettled c.loop-first.behind c.loop-first.best c.loop-first.invariant c.in-Some-best.place c.start_unplaced.result c.in-Some-best.is c.in_default.ensures of

pub returns-in-None-clause-ok : goal.returns-in-None-clause-ok
returns-in-None-clause-ok c =
    let run = c.args.self.now in
    let on = sym c.requires.kept.current.stopped ∙ c.if-self.false in
    none_last run.plan c.parts-plan.ensures.sound (history_of_run run) run.parts.ready (c.requires.kept.queued.ready on) on c.requires.unsettled c.loop-first.behind c.loop-first.best c.loop-first.invariant c.in-None.is c.in_default.ensures
