-- The gates of a call come back in their order, whatever came of the call.
use Rattle.std.proofs.Common.{◌≡◌, ◌∙◌, sym, ap, ℕ, List, length, inl, inr}
use Rattle.std.specs.Prelude.{Option, Some, None, Result, Ok, Err, IsSomeAnd, map}
use Rattle.std.proofs.lemmas.List.{length-map}
use Rattle.ct_history.specs.declared.plan.PlanParts.{PlanParts}
use Rattle.ct_history.specs.declared.history.Entry.{Entry}
use Rattle.ct_core.specs.Gate.{GateTell}
use Rattle.ct_args.specs.declared.invocation.Invocation.{Invocation}
use Rattle.ct_worker.specs.Gates.{AreSameGates}
use Rattle.ct_worker.proofs.PoolLemmas.{asked_in_order}
use Rattle.ct_app.specs.declared.outcome.Outcome.{Outcome}
use Rattle.ct_app.specs.declared.outcome.Outcome.TheVariants.{Completed, Listed, Usage, Refused, FilesFault, OutputFault, Memory}
use Rattle.ct_app.specs.Calls.{IsUnrun, Sides}
use Rattle.ct_app.specs.Ends.{Ends, EndsUnrun}
use Rattle.ct_app.specs.Runs.{RanWith}
use Rattle.ct_app.specs.Tests.{terms_from}

-- where no plan was run, nothing was run
unrun_for : (s : Sides) (names : List (List ℕ)) (ended : Result ℕ Outcome) → EndsUnrun s names ended → IsUnrun s
unrun_for s names (Ok status) ends = absurd ends
unrun_for s names (Err Completed) ends = absurd ends
unrun_for s names (Err Listed) ends = absurd ends
unrun_for s names (Err (Usage word kind)) ends = ends.unrun
unrun_for s names (Err (Refused refusal)) (inl unreadable) = unreadable.unrun
unrun_for s names (Err (Refused refusal)) (inr (inl undeclared)) = undeclared.unrun
unrun_for s names (Err (Refused refusal)) (inr (inr unplannable)) = unplannable.unrun
unrun_for s names (Err (FilesFault path)) ends = ends.unrun
unrun_for s names (Err OutputFault) ends = absurd ends
unrun_for s names (Err Memory) ends = ends.0

ran_in_order : (s : Sides) (P : Invocation → PlanParts → List Entry → Type 0) (plan : Option PlanParts) (history : Option (List Entry)) → IsSomeAnd plan (λ p. IsSomeAnd history (λ es. RanWith s P p es)) → AreSameGates s.gates.before s.gates.after
ran_in_order s P None history never = absurd never
ran_in_order s P (Some plan) None never = absurd never
ran_in_order s P (Some plan) (Some entries) ran =
    asked_in_order (terms_from s.env ran.source ran.invocation.timeout) 0 s.gates.before s.gates.after entries ran.run.ran.ran.asked

pub ends_in_order : (s : Sides) (names : List (List ℕ)) (ended : Result ℕ Outcome) → Ends s names ended → AreSameGates s.gates.before s.gates.after
ends_in_order s names ended (inl run) = ran_in_order s _ s.plan s.history run
ends_in_order s names ended (inr unrun) = ap (λ (gates : List GateTell). map (λ (gate : GateTell). gate.who) gates) (unrun_for s names ended unrun.0).unasked

-- gates that come back in their order are as many
pub as_many : {G : Type 0} (tells : G → GateTell) (before now : List G) → AreSameGates (map tells before) (map tells now) → length now ≡ length before
as_many tells before now same =
    sym (length-map (map tells now) (λ (gate : GateTell). gate.who) ∙ length-map now tells)
    ∙ ap (λ (whos : List (Option ℕ)). length whos) same
    ∙ length-map (map tells before) (λ (gate : GateTell). gate.who) ∙ length-map before tells
