-- The verdict of a test is read at its place.
use Rattle.std.proofs.Common.{◌≡◌, ◌∙◌, sym, ap, ℕ, List, length, get_or}
use Rattle.std.specs.Prelude.{Option, Some, option_and_then, slice_get}
use Rattle.std.proofs.lemmas.List.{length-map}
use Rattle.std.proofs.lemmas.Option.{slice_get_read}
use Rattle.ct_history.specs.Plan.{IsPlaceOf}
use Rattle.ct_history.specs.declared.plan.PlanParts.{PlanParts}
use Rattle.ct_history.specs.declared.history.Entry.{Entry}
use Rattle.ct_history.specs.Verdicts.{verdict_of_test}
use Rattle.ct_core.specs.declared.parts.Parts.{Parts}
use Rattle.ct_core.specs.declared.state.State.{State}
use Rattle.ct_core.specs.Parts.{AreCurrent}
use Rattle.ct_core.specs.Standing.{state_of, states_of, verdict_of_state}
use Rattle.ct_core.proofs.StandingLemmas.{verdict_state_at}

-- the verdict of a test is the verdict of the state at its place
pub verdict_there : (plan : PlanParts) (es : List Entry) (parts : Parts) (n place : ℕ) (s : State) → AreCurrent plan es parts → IsPlaceOf plan.tests n place → s ≡ get_or parts.states.items place s → verdict_of_state s ≡ verdict_of_test plan es n
verdict_there plan es parts n place s told here is =
    let mapped : length (states_of plan es) ≡ length plan.tests = length-map plan.tests (state_of plan.repeat es) in
    let there : slice_get (states_of plan es) place ≡ Some s =
    slice_get_read (states_of plan es) (length plan.tests) place s (sym mapped) here.within (is ∙ ap (λ (ss : List State). get_or ss place s) told.states) in
    sym (ap (λ (o : Option State). option_and_then verdict_of_state o) there) ∙ sym (verdict_state_at plan es n place here)
