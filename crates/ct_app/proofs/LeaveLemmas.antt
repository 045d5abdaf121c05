-- What became of the files of a run, from the contracts of its steps.
use Rattle.std.proofs.Common.{◌≡◌, sym, ap, subst, Bool, true, ℕ, List, refl, inl, inr}
use Rattle.std.specs.Prelude.{Option, Some, None, is_some, Result, Ok, Err, IfOk, IfSome}
use Rattle.ct_base.specs.declared.defs.Pair.{Pair}
use Rattle.ct_base.specs.declared.defs.Resource.{Resource}
use Rattle.ct_base.specs.Outside.{FilesTell, SinkTell}
use Rattle.ct_history.specs.declared.plan.PlanParts.{PlanParts}
use Rattle.ct_history.specs.declared.history.Entry.{Entry}
use Rattle.ct_history.specs.Verdicts.{are_all_final}
use Rattle.ct_core.specs.Gate.{GateTell}
use Rattle.ct_core.specs.Order.{FollowsQueue}
use Rattle.ct_cost.specs.declared.cost_data.CostData.{CostData}
use Rattle.ct_graph.specs.Order.{most_edges}
use Rattle.ct_args.specs.declared.invocation.Invocation.{Invocation}
use Rattle.ct_plan.specs.declared.fault.PlanFault.{PlanFault}
use Rattle.ct_plan.specs.declared.fault.PlanFault.TheVariants as Plans
use Rattle.ct_plan.specs.PlanOf.{IsPlanAnswer, IsPlanOf}
use Rattle.ct_plan.specs.Source.{Source, source}
use Rattle.ct_worker.specs.Gates.{AreAsked, Terms}
use Rattle.ct_app.specs.declared.outcome.Outcome.{Outcome}
use Rattle.ct_app.specs.declared.outcome.Outcome.TheVariants.{Completed, Listed, Usage, Refused, FilesFault, OutputFault, Memory}
use Rattle.ct_app.specs.declared.outcome.Refusal.TheVariants.{Cycle, TooManyEdges}
use Rattle.ct_app.specs.declared.props.Tests.{Tests}
use Rattle.ct_app.specs.declared.run_files.RunFileFault.{RunFileFault}
use Rattle.ct_app.specs.declared.run_files.RunFileFault.TheVariants as Fault
use Rattle.ct_app.specs.Calls.{IsUnrun, Sides, sides}
use Rattle.ct_app.specs.Runs.{IsRunOf}
use Rattle.ct_app.specs.Ends.{EndsUnrun, Ends, EndsWithFiles, IsReadFolder, IsUnplanned, IsUnreadFolder, PlanEnds, RunLeaves, with_status}
use Rattle.ct_app.specs.Outcome.{outcome_of_file}
use Rattle.ct_app.specs.Rerun.{wanted_of}
use Rattle.ct_app.specs.Reading.{AskFor, IsSource}
use Rattle.ct_app.specs.Run.{HasRun}
use Rattle.ct_app.specs.RunFiles.{FilesStay, Leaves, LeavesPart, LeavesTorn, WritesFiles, done_of, last_costs}
use Rattle.ct_app.specs.Tests.{terms_from}
use Rattle.ct_app.proofs.ChangeLemmas.{fails_with_last, serves_with_last}
use Rattle.ct_app.proofs.RunFilesLemmas.{leaves_behind, leaves_part_behind, leaves_torn_behind}

-- a run that ended well is complete
pub final_where_ended : (plan : PlanParts) (entries : List Entry) (before now : SinkTell) (ended : Result (Unit {0}) Outcome) → PlanEnds plan entries before now ended → IfOk ended (λ done. are_all_final plan entries ≡ true)
final_where_ended plan entries before now (Ok done) ends = ends.complete.final
final_where_ended plan entries before now (Err outcome) ends = tt

-- a run that ended early has an outcome and no status
pub early_status : (empty_is_error : Bool) (plan : PlanParts) (entries : List Entry) (result : Result ℕ Outcome) (outcome : Outcome) → result ≡ Err outcome → result ≡ with_status empty_is_error plan entries (done_of result)
early_status empty_is_error plan entries result outcome is = subst (λ (r : Result ℕ Outcome). r ≡ with_status empty_is_error plan entries (done_of r)) (sym is) refl

-- a fault of writing the files of a complete run is the end of the run
pub ends_unwritten : (plan : PlanParts) (entries : List Entry) (costs : CostData) (before now : FilesTell) (done : Unit {0}) (fault : RunFileFault) (outcome : Outcome) → outcome ≡ outcome_of_file fault → WritesFiles plan entries costs before now (Err fault) → EndsWithFiles plan entries costs before now (Ok done) (Err outcome)
ends_unwritten plan entries costs before now done (Fault.Failed path) outcome is fails = subst (λ (o : Outcome). EndsWithFiles plan entries costs before now (Ok done) (Err o)) (sym is) fails
ends_unwritten plan entries costs before now done Fault.NoMemory outcome is part = subst (λ (o : Outcome). EndsWithFiles plan entries costs before now (Ok done) (Err o)) (sym is) part

module _ (s : Sides) (invocation : Invocation) (between : FilesTell) (costs : CostData) (plan : PlanParts) (entries : List Entry) (read : IfSome s.files.before.held (λ held. costs ≡ last_costs plan.dir held)) (stay : FilesStay s.files.before between) where
  early : (outcome : Outcome) → PlanEnds plan entries s.sink.before s.sink.after (Err outcome) → FilesStay s.files.before s.files.after → RunLeaves s invocation plan entries (Err outcome)
  early Completed ends stays = ends
  early Listed ends stays = ends
  early (Usage word kind) ends stays = ends
  early (Refused refusal) ends stays = ends
  early (FilesFault path) ends stays = absurd ends
  early OutputFault ends stays = (ends, stays)
  early Memory ends stays = inl (ends, stays)

  pub run_leaves : (ended given : Result (Unit {0}) Outcome) → PlanEnds plan entries s.sink.before s.sink.after ended → EndsWithFiles plan entries costs between s.files.after ended given → RunLeaves s invocation plan entries (with_status invocation.empty_is_error plan entries given)
  run_leaves (Ok done) (Ok left_so) ends left =
      record {
        reported = ends;
        left = serves_with_last plan.dir (Leaves plan entries) (leaves_behind plan entries) costs s.files.before between s.files.after read stay left;
        is = refl;
      }
  run_leaves (Ok done) (Err Completed) ends left = left
  run_leaves (Ok done) (Err Listed) ends left = left
  run_leaves (Ok done) (Err (Usage word kind)) ends left = left
  run_leaves (Ok done) (Err (Refused refusal)) ends left = left
  run_leaves (Ok done) (Err (FilesFault path)) ends left =
      ((left.0, fails_with_last plan.dir (LeavesTorn plan entries path) (leaves_torn_behind plan entries path) costs path s.files.before between s.files.after read stay left.1), ends)
  run_leaves (Ok done) (Err OutputFault) ends left = absurd left
  run_leaves (Ok done) (Err Memory) ends left =
      inr (ends, serves_with_last plan.dir (LeavesPart plan entries) (leaves_part_behind plan entries) costs s.files.before between s.files.after read stay left)
  run_leaves (Err outcome) given ends left =
      subst (λ (o : Result (Unit {0}) Outcome). RunLeaves s invocation plan entries (with_status invocation.empty_is_error plan entries o)) (sym left.0)
      (early outcome ends (subst (λ (f : FilesTell). FilesStay s.files.before f) (sym left.1) stay))

-- the terms of a run's attempts, from the plan, are the terms from the source of the plan
pub terms_are : (own : List Pair) (s : Source) (limit : ℕ) (plan : PlanParts) → IsPlanOf s plan → (let t : Terms = record { own = own; defs = s.defs; props = s.props; limit = limit; lends = is_some plan.resources } in t) ≡ terms_from own s limit
terms_are own s limit plan is = ap (λ (x : Option (List Resource)). let t : Terms = record { own = own; defs = s.defs; props = s.props; limit = limit; lends = is_some x } in t) is.resources

-- a folder was read for its run
module _ (words : List (List ℕ)) (env : List Pair) (invocation : Invocation) (asked : AskFor words invocation) (files between files_now : FilesTell) (tests : Tests) (lent : Option (List Resource)) (costs : CostData) (only : Option (List (List ℕ))) (read : IsReadFolder invocation files between tests lent costs only) where
  pub is_source : IsSource files.held invocation (source tests.defs tests.props (wanted_of invocation only) lent costs)
  is_source = record { tests = read.read.read; only = read.inputs.limits; wanted = refl; resources = read.inputs.lent; costs = read.inputs.last }

  -- the plan was run, and the files of the run were written where the run is complete
  pub folder_ends : (terms : Terms) (gates gates_now : List GateTell) (sink sink_now : SinkTell) (plan : PlanParts) (entries : List Entry) (names : List (List ℕ)) (ended given : Result (Unit {0}) Outcome) → (AreAsked terms 0 gates gates_now entries → AreAsked (terms_from env (source tests.defs tests.props (wanted_of invocation only) lent costs) invocation.timeout) 0 gates gates_now entries) → IsPlanAnswer most_edges (source tests.defs tests.props (wanted_of invocation only) lent costs) (Ok plan) → HasRun terms gates gates_now plan entries → FollowsQueue plan entries → PlanEnds plan entries sink sink_now ended → EndsWithFiles plan entries costs between files_now ended given → Ends (sides words env files files_now gates gates_now sink sink_now (Some plan) (Some entries)) names (with_status invocation.empty_is_error plan entries given)
  folder_ends terms gates gates_now sink sink_now plan entries names ended given asked_so planned ran order ends left =
      let s = sides words env files files_now gates gates_now sink sink_now (Some plan) (Some entries) in
      let made = source tests.defs tests.props (wanted_of invocation only) lent costs in
      let last = subst (λ (dir : List ℕ). IfSome files.held (λ held. costs ≡ last_costs dir held)) (sym planned.1.dir) read.inputs.last in
      let run : IsRunOf env made invocation.timeout gates gates_now plan entries = record {
        few = planned.0;
        planned = planned.1;
        ran = record {
          legal = ran.legal;
          within = ran.within;
          closed = ran.closed;
          workers = ran.workers;
          asked = asked_so ran.asked;
          lent = ran.lent;
        };
        order = order;
      } in
      inl (record {
        invocation = invocation;
        source = made;
        run = record { words = asked; read = is_source; ran = run };
        holds = run_leaves s invocation between costs plan entries last read.read.files ended given ends left;
      })

  -- the tests of the folder have no plan
  pub unplanned_unrun : (gates : List GateTell) (sink : SinkTell) (names : List (List ℕ)) (ended : Result ℕ Outcome) (fault : PlanFault) → IsPlanAnswer most_edges (source tests.defs tests.props (wanted_of invocation only) lent costs) (Err fault) → IsUnplanned tests.defs fault names ended → EndsUnrun (sides words env files between gates gates sink sink None None) names ended
  unplanned_unrun gates sink names ended fault answer unplanned = by fault answer unplanned
    where
      unrun : IsUnrun (sides words env files between gates gates sink sink None None)
      unrun = record { no_plan = refl; no_history = refl; unasked = refl }

      said : (other : Result ℕ Outcome) → ended ≡ other → EndsUnrun (sides words env files between gates gates sink sink None None) names other → EndsUnrun (sides words env files between gates gates sink sink None None) names ended
      said other is ends = subst (λ (o : Result ℕ Outcome). EndsUnrun (sides words env files between gates gates sink sink None None) names o) (sym is) ends

      by : (f : PlanFault) → IsPlanAnswer most_edges (source tests.defs tests.props (wanted_of invocation only) lent costs) (Err f) → IsUnplanned tests.defs f names ended → EndsUnrun (sides words env files between gates gates sink sink None None) names ended
      by (Plans.Cycle cycle) refused (inl (is, named)) =
          said (Err (Refused (Cycle cycle))) is
          (inr (inr (record {
            invocation = invocation;
            words = asked;
            source = source tests.defs tests.props (wanted_of invocation only) lent costs;
            read = is_source;
            refused = (refused.0, refused.1, named);
            files = read.read.files;
            unrun = unrun;
          })))
      by (Plans.Cycle cycle) refused (inr is) = said (Err Memory) is (unrun, read.read.files)
      by Plans.TooManyEdges refused is =
          said (Err (Refused TooManyEdges)) is
          (inr (inr (record {
            invocation = invocation;
            words = asked;
            source = source tests.defs tests.props (wanted_of invocation only) lent costs;
            read = is_source;
            refused = refused;
            files = read.read.files;
            unrun = unrun;
          })))
      by Plans.NoMemory refused is = said (Err Memory) is (unrun, read.read.files)

-- a folder was not read for its run
module _ (words : List (List ℕ)) (env : List Pair) (invocation : Invocation) (asked : AskFor words invocation) (files files_now : FilesTell) (gates : List GateTell) (sink : SinkTell) (names : List (List ℕ)) where
  unrun_so : IsUnrun (sides words env files files_now gates gates sink sink None None)
  unrun_so = record { no_plan = refl; no_history = refl; unasked = refl }

  pub unread_unrun : (outcome : Outcome) → IsUnreadFolder invocation files files_now outcome → EndsUnrun (sides words env files files_now gates gates sink sink None None) names (Err outcome)
  unread_unrun Completed unread = absurd unread
  unread_unrun Listed unread = absurd unread
  unread_unrun (Usage word kind) unread = absurd unread
  unread_unrun (Refused refusal) (inl unread) = inl (record { invocation = invocation; words = asked; refused = unread.0; files = unread.1; unrun = unrun_so })
  unread_unrun (Refused refusal) (inr bad) =
      inr (inl (record {
        invocation = invocation;
        words = asked;
        defs = bad.tests.defs;
        props = bad.tests.props;
        read = bad.read;
        refused = bad.refused;
        files = bad.files;
        unrun = unrun_so;
      }))
  unread_unrun (FilesFault path) unread = record { invocation = invocation; words = asked; due = unread.0; files = unread.1; unrun = unrun_so }
  unread_unrun OutputFault unread = absurd unread
  unread_unrun Memory unread = (unrun_so, unread)
