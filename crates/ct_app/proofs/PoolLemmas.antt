-- What the run of a plan by a pool of workers shows, and which lines it put.
use Rattle.std.proofs.Common.{◌≡◌, ◌∙◌, sym, ap, subst, true, ℕ, min, List, [], ◌∷◌, drop, length, inl, inr}
use Rattle.std.specs.Prelude.{Option, None, Some, Result, Ok, Err, IfErr}
use Rattle.ct_base.specs.declared.sink.SinkFault.{SinkFault}
use Rattle.ct_base.specs.Outside.{SinkTell}
use Rattle.ct_history.specs.declared.board.Base.{Base}
use Rattle.ct_history.specs.declared.plan.PlanParts.{PlanParts}
use Rattle.ct_history.specs.declared.history.Entry.{Entry}
use Rattle.ct_history.proofs.LegalLemmas.{legal_allowed}
use Rattle.ct_history.proofs.WithinLemmas.{stays_within}
use Rattle.ct_core.specs.CoreValue.{CoreValue}
use Rattle.ct_core.specs.Gate.{GateTell}
use Rattle.ct_history.specs.History.{open_starts}
use Rattle.ct_history.specs.Verdicts.{are_all_final}
use Rattle.ct_report.specs.PutLines.{PutsLines}
use Rattle.ct_report.specs.Report.{header_line, summary_lines, test_lines}
use Rattle.ct_worker.specs.Gates.{Terms, are_below, had_memory}
use Rattle.ct_worker.specs.Halted.{IsHalted}
use Rattle.ct_worker.specs.Pool.{IsPooled}
use Rattle.ct_worker.specs.declared.state.Halt.{Halt}
use Rattle.ct_worker.specs.declared.state.Halt.TheVariants as Halts
use Rattle.ct_worker.specs.State.{StateValue, base_of, core_of, opened_with, put_of}
use Rattle.ct_app.specs.Run.{HasRun, RestStays, RunEnds, lines_of_run}
use Rattle.ct_app.specs.Stops.{PutsBehind, StopsAt, StopsBehind}
use Rattle.ct_app.proofs.ReportLemmas.{lines_fail, summary_puts}

-- what the sink of a state told when the state was opened
abbrev told_at : Base → SinkTell
told_at base = record { written = base.written; pieces = base.pieces; faults = base.faults }

-- no halt is set where all lines were put
no_halt : (halt : Option Halt) → put_of halt ≡ Ok tt → halt ≡ None
no_halt None put = cc
no_halt (Some Halts.Output) put = cc
no_halt (Some Halts.Memory) put = cc

-- a run whose header was put, and that stopped behind it, stopped at one of the places of `StopsAt`
pub header_stops : (plan : PlanParts) (entries : List Entry) (old middle new : SinkTell) (ended : Result (Unit {0}) SinkFault) → PutsLines (header_line plan ∷ []) old middle (Ok tt) → IfErr ended (λ fault. StopsBehind fault plan entries middle new) → IfErr ended (λ fault. StopsAt fault plan entries old new)
header_stops plan entries old middle new (Ok done) header stops = tt
header_stops plan entries old middle new (Err fault) header stops = inr (record { middle = middle; header = header; stops = stops })

-- the gates that no worker uses came back as they were, for as many workers as the level and the gates admit
pub rest_stays : {G : Type 0} (plan now_plan : PlanParts) (workers : ℕ) (before now : List G) → now_plan ≡ plan → workers ≡ min plan.level (length before) → drop workers now ≡ drop workers before → RestStays now_plan before now
rest_stays {G = G} plan now_plan workers before now same counted rest =
    subst (λ (p : PlanParts). RestStays p before now) (sym same) (subst (λ (n : ℕ). drop n now ≡ drop n before) counted rest)

module _ (terms : Terms) (count : ℕ) (start core : CoreValue) (sink : SinkTell) (old new : StateValue) (gates gates_now : List GateTell) (opened : old ≡ opened_with start sink) (pooled : IsPooled terms count old new gates gates_now) (is : core ≡ core_of new) where
  pub pooled_run : count ≡ min start.plan.level (length gates) → HasRun terms gates gates_now core.plan core.entries
  pooled_run most = subst (λ (c : CoreValue). HasRun terms gates gates_now c.plan c.entries) (sym is) (record {
    legal = pooled.legal;
    within = stays_within new.plan new.entries (legal_allowed new.plan new.entries pooled.legal);
    closed = pooled.closed;
    workers = subst (λ (n : ℕ). are_below n new.entries ≡ true) (most ∙ ap (λ (p : PlanParts). min p.level (length gates)) (sym (ap (λ (s : StateValue). s.plan) opened) ∙ sym pooled.plan)) pooled.workers;
    asked = pooled.asked;
    lent = pooled.lent;
  })

  -- the state was opened with the sink as it was at first
  opened_is : new.opened ≡ sink
  opened_is = ap told_at (pooled.base ∙ ap base_of opened)

  -- what the sink tells at the end, and the result of all puts
  module _ (now : SinkTell) (same : now ≡ new.sink) (put : Result (Unit {0}) SinkFault) (gave : put ≡ put_of new.halt) where
    -- the lines of the tests stand behind what the sink told at first
    pub pool_puts : PutsLines (test_lines core.plan core.entries) sink now put
    pool_puts =
        subst (λ (c : CoreValue). PutsLines (test_lines c.plan c.entries) sink now put) (sym is)
        (subst (λ (t : SinkTell). PutsLines (test_lines new.plan new.entries) sink t put) (sym same)
        (subst (λ (t : SinkTell). PutsLines (test_lines new.plan new.entries) t new.sink put) opened_is
        (subst (λ (r : Result (Unit {0}) SinkFault). PutsLines (test_lines new.plan new.entries) new.opened new.sink r) (sym gave) pooled.put)))

    -- the run was given up among its tests
    pub pool_halted : IfErr put (λ fault. IsHalted fault core.plan core.entries sink now)
    pool_halted =
        subst (λ (c : CoreValue). IfErr put (λ fault. IsHalted fault c.plan c.entries sink now)) (sym is)
        (subst (λ (t : SinkTell). IfErr put (λ fault. IsHalted fault new.plan new.entries sink t)) (sym same)
        (subst (λ (t : SinkTell). IfErr put (λ fault. IsHalted fault new.plan new.entries t new.sink)) opened_is
        (subst (λ (r : Result (Unit {0}) SinkFault). IfErr r (λ fault. IsHalted fault new.plan new.entries new.opened new.sink)) (sym gave) pooled.halted)))

    -- the run is complete where all lines were put, and memory was not wanting
    pub pool_ends : (new.halt ≡ None → had_memory new.entries ≡ true) → RunEnds core.plan core.entries put
    pool_ends memory = by put gave
      where
        by : (r : Result (Unit {0}) SinkFault) → r ≡ put_of new.halt → RunEnds core.plan core.entries r
        by (Ok done) ended = (
          record {
            final = ap (λ (c : CoreValue). are_all_final c.plan c.entries) is ∙ pooled.ended (no_halt new.halt (sym ended));
            closed = ap (λ (c : CoreValue). open_starts c.entries) is ∙ pooled.closed;
          },
          ap (λ (c : CoreValue). had_memory c.entries) is ∙ memory (no_halt new.halt (sym ended)),
        )
        by (Err fault) ended = tt

-- where the run ended well, each test is final
pub ended_final : (plan : PlanParts) (es : List Entry) → RunEnds plan es (Ok tt) → are_all_final plan es ≡ true
ended_final plan es ends = ends.0.final

-- where lines behind those of the tests were put too, the run is complete
pub ends_behind : (plan : PlanParts) (es : List Entry) (lines : List (List ℕ)) (mid new : SinkTell) (put result : Result (Unit {0}) SinkFault) → RunEnds plan es put → PutsBehind put lines mid new result → RunEnds plan es result
ends_behind plan es lines mid new (Ok done) (Ok all) ends behind = ends
ends_behind plan es lines mid new (Ok done) (Err fault) ends behind = tt
ends_behind plan es lines mid new (Err fault) result ends behind = subst (λ (r : Result (Unit {0}) SinkFault). RunEnds plan es r) (sym behind.0) tt

-- the summary behind the lines of the tests
module _ (plan : PlanParts) (es : List Entry) (old mid new : SinkTell) where
  -- the lines of the run, or a beginning of them, were put
  pub run_puts : (put result : Result (Unit {0}) SinkFault) → PutsLines (test_lines plan es) old mid put → RunEnds plan es put → PutsBehind put (summary_lines plan es) mid new result → PutsLines (lines_of_run plan es) old new result
  run_puts (Ok done) result lines ends behind = summary_puts plan es old mid new result ends.0.final lines behind
  run_puts (Err fault) result lines ends behind =
      subst (λ (r : Result (Unit {0}) SinkFault). PutsLines (lines_of_run plan es) old new r) (sym behind.0)
      (subst (λ (t : SinkTell). PutsLines (lines_of_run plan es) old t (Err fault)) (sym behind.1) (lines_fail plan es old mid fault lines))

  -- where the run stopped
  pub run_stops : (put result : Result (Unit {0}) SinkFault) → PutsLines (test_lines plan es) old mid put → RunEnds plan es put → IfErr put (λ fault. IsHalted fault plan es old mid) → PutsBehind put (summary_lines plan es) mid new result → IfErr result (λ fault. StopsBehind fault plan es old new)
  run_stops (Ok done) (Ok all) lines ends halted behind = tt
  run_stops (Ok done) (Err fault) lines ends halted behind = inr (record { final = ends.0.final; middle = mid; lines = lines; cut = behind })
  run_stops (Err fault) result lines ends halted behind =
      subst (λ (r : Result (Unit {0}) SinkFault). IfErr r (λ f. StopsBehind f plan es old new)) (sym behind.0)
      (subst (λ (t : SinkTell). StopsBehind fault plan es old t) (sym behind.1) (inl halted))
