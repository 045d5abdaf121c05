-- A completed run has the verdicts, the status and the texts that it is meant to have,
-- where all its gates tell one world.
use Rattle.std.proofs.Common.{◌≡◌, ◌∙◌, sym, ap, subst, Bool, true, ℕ, zero, suc, ◌+◌, ◌≤◌, ◌<◌, min, List, [], ◌∷◌, length, refl, arith, inl, inr}
use Rattle.std.specs.Prelude.{Option, Some, None, IfSome, IsSomeAnd, not, ◌||◌, ◌==◌, if◌then◌else◌}
use Rattle.std.specs.List.{range_with_len}
use Rattle.std.proofs.lemmas.Bool.{and_parts, cases_Bool, ltb-true, not-true}
use Rattle.std.proofs.lemmas.Bool.Decides.{nat_tests}
use Rattle.ct_base.specs.declared.defs.TestDef.{TestDef}
use Rattle.ct_base.specs.Numbers.{is_in}
use Rattle.ct_props.specs.declared.props.Props.{Props}
use Rattle.ct_props.specs.declared.wanted.Wanted.{Wanted}
use Rattle.ct_props.specs.declared.wanted.Choice.{Choice}
use Rattle.ct_props.specs.Numbered.{at_number}
use Rattle.ct_select.specs.Chosen.{chosen_tests, is_chosen_at}
use Rattle.ct_fixture.specs.Drawing.{after_rounds, fixtures_required, is_drawn, members_of}
use Rattle.ct_verdict.specs.declared.repeat.Repeat.{Repeat}
use Rattle.ct_history.specs.declared.plan.PlanParts.{PlanParts}
use Rattle.ct_history.specs.declared.history.Entry.{Entry}
use Rattle.ct_history.specs.declared.history.Entry.TheVariants.{Start, End, Settle, Stop}
use Rattle.ct_history.specs.Plan.{IsAscendingFrom}
use Rattle.ct_history.proofs.AscendLemmas.{range_ascends, ascends-filter}
use Rattle.ct_core.specs.declared.gate.Told.{Told}
use Rattle.ct_core.specs.Gate.{GateTell, is_no_memory, told}
use Rattle.ct_args.specs.declared.invocation.Invocation.{Invocation}
use Rattle.ct_args.proofs.BoundLemmas.{bounded}
use Rattle.ct_plan.specs.Source.{Source, run_members}
use Rattle.ct_plan.proofs.PlannedTreeLemmas.{planned_numbers}
use Rattle.ct_app.specs.declared.outcome.Outcome.{Outcome}
use Rattle.ct_app.specs.declared.outcome.Outcome.TheVariants.{Completed}
use Rattle.ct_app.specs.Answers.{Answers}
use Rattle.ct_app.specs.Calls.{Sides}
use Rattle.ct_worker.specs.Gates.{AreAsked, SawAllTold, SawTold, Terms, are_below, had_memory, is_below, lacks_memory, seen_of}
use Rattle.ct_app.specs.Meant.{AreSeen, IsSeen}
use Rattle.ct_app.specs.MeantRuns.{AnswersAsMeant, HasRunAsMeant, RanAsMeant}
use Rattle.ct_app.specs.MeantTold.{AllTell, ComesAsMeant, seen_as_told, seen_in_world}
use Rattle.ct_app.specs.Reading.{ask_for_list}
use Rattle.ct_app.specs.Runs.{HasRunWith, IsCompleted, IsRun, RanWith}
use Rattle.ct_app.specs.Tests.{terms_from}
use Rattle.ct_app.proofs.MeantLemmas.{IsRanked}
use Rattle.ct_app.proofs.MeantRunLemmas.{are_meant}
use Rattle.ct_app.proofs.MeantTextLemmas.{has_meant_texts}

-- the numbers of the members ascend
members_ascend : (choice : Choice) (defs : List TestDef) (props : List Props) → IsAscendingFrom 1 (members_of choice props (chosen_tests defs props choice))
members_ascend choice defs props = by_rounds (length props)
  where
    by_rounds : (rounds : ℕ) → IsAscendingFrom 1 (after_rounds choice props (chosen_tests defs props choice) rounds)
    by_rounds zero = ascends-filter (is_chosen_at defs props choice) 1 (range_with_len 1 (length defs)) (range_ascends 1 (length defs))
    by_rounds (suc rounds) =
        let tests = after_rounds choice props (chosen_tests defs props choice) rounds in
        ascends-filter (λ number. is_in tests number || is_drawn choice (fixtures_required props tests) (at_number props number)) 1 (range_with_len 1 (length props)) (range_ascends 1 (length props))

-- the plan of a run has numbers that ascend, predecessors with lesser ranks, and at least one attempt
ranked : (s : Sides) (invocation : Invocation) (source : Source) (plan : PlanParts) (entries : List Entry) → IsRun s invocation source plan entries → IsRanked plan
ranked s invocation source plan entries run = record {
  numbers =
      subst (IsAscendingFrom 1) (sym (planned_numbers source (run_members source) plan.tests run.ran.planned.tests))
      (members_ascend source.wanted.choice source.defs source.props);
  links = run.ran.planned.ranks;
  times =
      subst (λ (repeat : Repeat). 1 ≤ repeat.times) (sym (run.ran.planned.repeat ∙ ap (λ (wanted : Wanted). wanted.repeat) run.read.wanted))
      (bounded s.words invocation run.words).some_times;
}

-- each worker saw what the one world tells
pub told_by : (terms : Terms) (world : List Told) (entries : List Entry) (first : ℕ) (befores nows : List GateTell) → AreAsked terms first befores nows entries → AllTell world befores → (worker : ℕ) → first ≤ worker → worker < first + length befores → SawAllTold terms.props world worker entries
told_by terms world entries first [] nows asked all worker low high = absurd (omega (arith, low, high))
told_by terms world entries first (before ∷ befores) [] asked all worker low high = absurd asked
told_by terms world entries first (before ∷ befores) (now ∷ nows) asked all worker low high = elim (cases_Bool (first == worker)) [
  | inl same ↦
      let here : first ≡ worker = grind (arith, nat_tests) in
      subst (λ (w : ℕ). SawAllTold terms.props world w entries) here
      (subst (λ (o : Option (List Told)). IfSome o (λ own. SawAllTold terms.props own first entries)) all.0 asked.0.told)
  | inr later ↦
      let less : first < worker = grind (arith, nat_tests) in
      told_by terms world entries (first + 1) befores nows asked.1 all.1 worker (omega (arith, less)) (omega (arith, high))
]

pub seen_entry : (props : List Props) (world : List Told) (workers : ℕ) (e : Entry) → is_below workers e ≡ true → not (lacks_memory e) ≡ true → ((worker : ℕ) → worker < workers → SawTold props world worker e) → IsSeen (seen_in_world props world) e
seen_entry props world workers (Start t a w p) below had saw = tt
seen_entry props world workers (End t a w seen) below had saw = by_props (at_number props t) (saw w (ltb-true w workers below) refl (not-true (is_no_memory seen.how) had))
  where
    by_props : (o : Option Props) → IsSomeAnd o (λ own. seen ≡ seen_of own (told world t a).heard (told world t a).ended) → seen ≡ seen_as_told o (told world t a)
    by_props None is = absurd is
    by_props (Some own) is = is
seen_entry props world workers (Settle t c) below had saw = tt
seen_entry props world workers Stop below had saw = tt

-- the workers saw what is seen in the world
pub seen_entries : (props : List Props) (world : List Told) (workers : ℕ) (entries : List Entry) → are_below workers entries ≡ true → had_memory entries ≡ true → ((worker : ℕ) → worker < workers → SawAllTold props world worker entries) → AreSeen (seen_in_world props world) entries
seen_entries props world workers [] below had saw = tt
seen_entries props world workers (e ∷ es) below had saw =
    let few = and_parts (is_below workers e) (are_below workers es) below in
    let memory = and_parts (not (lacks_memory e)) (had_memory es) had in (
      seen_entry props world workers e few.0 memory.0 (λ worker less. (saw worker less).0),
      seen_entries props world workers es few.1 memory.1 (λ worker less. (saw worker less).1),
    )

-- a completed run has the verdicts, status and texts that are meant in the world that its gates tell
comes_as_meant : (s : Sides) (status : ℕ) (invocation : Invocation) (source : Source) (plan : PlanParts) (entries : List Entry) → IsRun s invocation source plan entries → IsCompleted s status invocation plan entries → (world : List Told) → AllTell world s.gates.before → ComesAsMeant invocation.empty_is_error plan (seen_in_world source.props world) entries status
comes_as_meant s status invocation source plan entries run completed world all =
    let verdicts = are_meant plan (ranked s invocation source plan entries run) (seen_in_world source.props world) entries run.ran.ran.legal completed.reported.complete.final are_seen in
    record {
      verdicts = verdicts;
      is = completed.is ∙ ap (λ (b : Bool). if (if length plan.tests == 0 then invocation.empty_is_error else b) then 8 else 0) verdicts.failing;
      texts = λ off. has_meant_texts plan (ranked s invocation source plan entries run) (seen_in_world source.props world) off entries run.ran.ran.legal completed.reported.complete.final are_seen;
    }
  where
    are_seen : AreSeen (seen_in_world source.props world) entries
    are_seen =
        seen_entries source.props world (min plan.level (length s.gates.before)) entries run.ran.ran.workers completed.reported.memory
        (λ worker less. told_by (terms_from s.env source invocation.timeout) world entries 0 s.gates.before s.gates.after run.ran.ran.asked all worker (omega arith) (omega (arith, less)))

some_and : {A : Type 0} (P Q : A → Type 0) (o : Option A) → ((x : A) → P x → Q x) → IsSomeAnd o P → IsSomeAnd o Q
some_and P Q None each is = absurd is
some_and P Q (Some x) each is = each x is

-- a call with a completed run has a run with the verdicts, status and texts that are meant
pub ran_as_meant : (s : Sides) (status : ℕ) → HasRunWith s (IsCompleted s status) → HasRunAsMeant s status
ran_as_meant s status has =
    some_and (λ plan. IsSomeAnd s.history (λ entries. RanWith s (IsCompleted s status) plan entries)) (λ plan. IsSomeAnd s.history (λ entries. RanAsMeant s status plan entries)) s.plan
    (λ plan. some_and (λ entries. RanWith s (IsCompleted s status) plan entries) (λ entries. RanAsMeant s status plan entries) s.history (λ entries ran. by_run plan entries ran)) has
  where
    by_run : (plan : PlanParts) (entries : List Entry) → RanWith s (IsCompleted s status) plan entries → RanAsMeant s status plan entries
    by_run plan entries ran = record {
      invocation = ran.invocation;
      source = ran.source;
      run = ran.run;
      completed = ran.holds;
      meant = comes_as_meant s status ran.invocation ran.source plan entries ran.run ran.holds;
    }

completed_as_meant : (s : Sides) (status : ℕ) → Answers s Completed status → HasRunAsMeant s status
completed_as_meant s status answer = elim (cases_Bool (ask_for_list s.words)) [
  | inl list ↦ absurd (answer.list list)
  | inr run ↦ ran_as_meant s status (answer.run run)
]

-- a call that returns Completed had a run with the verdicts, status and texts that are meant
pub answers_as_meant : {s : Sides} {outcome : Outcome} {status : ℕ} → Answers s outcome status → AnswersAsMeant s outcome status
answers_as_meant {s} {outcome} {status} answer is = completed_as_meant s status (subst (λ (o : Outcome). Answers s o status) is answer)
