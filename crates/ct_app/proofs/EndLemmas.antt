-- How the run of a plan ended, from the contracts of its steps.
use Rattle.std.proofs.Common.{◌≡◌, sym, subst, ℕ, ◌+◌, List, [], ◌∷◌, refl, inl}
use Rattle.std.specs.Prelude.{Result, Ok, Err, IfErr}
use Rattle.ct_base.specs.declared.sink.SinkFault.{SinkFault}
use Rattle.ct_base.specs.declared.sink.SinkFault.TheVariants as Sinks
use Rattle.ct_base.specs.Outside.{SinkTell}
use Rattle.ct_history.specs.declared.plan.PlanParts.{PlanParts}
use Rattle.ct_history.specs.declared.history.Entry.{Entry}
use Rattle.ct_history.proofs.LegalLemmas.{legal-nil, legal_allowed}
use Rattle.ct_history.proofs.WithinLemmas.{stays_within}
use Rattle.ct_core.specs.CoreValue.{CoreValue}
use Rattle.ct_core.specs.Gate.{GateTell}
use Rattle.ct_core.specs.Order.{FollowsQueue}
use Rattle.ct_core.proofs.OrderLemmas.{follows-nil}
use Rattle.ct_report.specs.PutLines.{PutsLines}
use Rattle.ct_report.specs.Report.{report_lines}
use Rattle.ct_report.proofs.PutLemmas.{lines_none}
use Rattle.ct_worker.specs.Gates.{AreAsked, Terms}
use Rattle.ct_worker.proofs.GateLemmas.{asked_none}
use Rattle.ct_worker.proofs.LentLemmas.{nothing_lent}
use Rattle.ct_app.specs.declared.outcome.Outcome.{Outcome}
use Rattle.ct_app.specs.Ends.{PlanEnds, ended_as}
use Rattle.ct_app.specs.Run.{HasRun, RunEnds}
use Rattle.ct_app.specs.Stops.{StopsAt, StopsSo}

-- the run of a plan is complete, or stopped with the fault that its steps returned
ends_as : (plan : PlanParts) (es : List Entry) (sink now : SinkTell) (ran : Result (Unit {0}) SinkFault) → PutsLines (report_lines plan es) sink now ran → RunEnds plan es ran → IfErr ran (λ fault. StopsAt fault plan es sink now) → PlanEnds plan es sink now (ended_as ran)
ends_as plan es sink now (Ok tt) put ends at = record { complete = ends.0; memory = ends.1; put = put }
ends_as plan es sink now (Err Sinks.Failed) put ends at = record { put = put; at = at }
ends_as plan es sink now (Err Sinks.NoMemory) put ends at = record { put = put; at = at }

pub core_ran : (terms : Terms) (gates gates_now : List GateTell) (core : CoreValue) (p : PlanParts) (es : List Entry) → p ≡ core.plan → es ≡ core.entries → HasRun terms gates gates_now core.plan core.entries → HasRun terms gates gates_now p es
core_ran terms gates gates_now core p es plan_is entries_are ran = subst (λ (q : PlanParts). HasRun terms gates gates_now q es) (sym plan_is) (subst (λ (xs : List Entry). HasRun terms gates gates_now core.plan xs) (sym entries_are) ran)

-- the history that a core returns follows the queue, where the core's own does
pub core_order : (core : CoreValue) (p : PlanParts) (es : List Entry) → p ≡ core.plan → es ≡ core.entries → FollowsQueue core.plan core.entries → FollowsQueue p es
core_order core p es plan_is entries_are order = subst (λ (q : PlanParts). FollowsQueue q es) (sym plan_is) (subst (λ (xs : List Entry). FollowsQueue core.plan xs) (sym entries_are) order)

-- an empty history follows the queue
pub unordered : (p : PlanParts) (es : List Entry) → es ≡ [] → FollowsQueue p es
unordered p es none = subst (λ (xs : List Entry). FollowsQueue p xs) (sym none) (follows-nil p)

pub core_ends : (sink now : SinkTell) (core : CoreValue) (ran : Result (Unit {0}) SinkFault) (p : PlanParts) (es : List Entry) (ended : Result (Unit {0}) Outcome) → p ≡ core.plan → es ≡ core.entries → PutsLines (report_lines core.plan core.entries) sink now ran → RunEnds core.plan core.entries ran → IfErr ran (λ fault. StopsAt fault core.plan core.entries sink now) → ended ≡ ended_as ran → PlanEnds p es sink now ended
core_ends sink now core ran p es ended plan_is entries_are put ends at is =
    subst (λ (q : PlanParts). PlanEnds q es sink now ended) (sym plan_is)
    (subst (λ (xs : List Entry). PlanEnds core.plan xs sink now ended) (sym entries_are)
    (subst (λ (o : Result (Unit {0}) Outcome). PlanEnds core.plan core.entries sink now o) (sym is) (ends_as core.plan core.entries sink now ran put ends at)))

-- with an empty history, gates that are as before were asked for no attempt
pub none_asked : (terms : Terms) (worker : ℕ) (gates : List GateTell) → AreAsked terms worker gates gates []
none_asked terms worker [] = tt
none_asked terms worker (gate ∷ gates) = (asked_none terms worker gate, none_asked terms (worker + 1) gates)

-- a plan with an empty history has run without any attempt
pub unrun : (terms : Terms) (gates : List GateTell) (p : PlanParts) (es : List Entry) → es ≡ [] → HasRun terms gates gates p es
unrun terms gates p es none =
    subst (λ (xs : List Entry). HasRun terms gates gates p xs) (sym none) (record {
      legal = legal-nil p;
      within = stays_within p [] (legal_allowed p [] (legal-nil p));
      closed = refl;
      workers = refl;
      asked = none_asked terms 0 gates;
      lent = nothing_lent p gates [];
    })

pub unopened_ends : (sink : SinkTell) (p : PlanParts) (es : List Entry) → es ≡ [] → StopsSo Sinks.NoMemory p es sink sink
unopened_ends sink p es none = record { put = lines_none sink (report_lines p es); at = inl none }
