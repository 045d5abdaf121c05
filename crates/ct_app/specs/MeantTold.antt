-- The verdicts, the status and the texts that a run is meant to have in the world that its gates tell. This
-- project's own, after CMake manual, ctest(1).
use Rattle.std.specs.Prelude.{◌≡◌, ℕ, Bool, false, List, [], ◌∷◌, length, Option, Some, None, ◌==◌, ⊤, if◌then◌else◌}
use Rattle.ct_props.specs.declared.props.Props.{Props}
use Rattle.ct_props.specs.Numbered.{at_number}
use Rattle.ct_verdict.specs.declared.attempt.Seen.{Seen}
use Rattle.ct_history.specs.declared.plan.PlanParts.{PlanParts}
use Rattle.ct_history.specs.declared.history.Entry.{Entry}
use Rattle.ct_core.specs.declared.gate.Told.{Told}
use Rattle.ct_core.specs.Gate.{GateTell, told}
use Rattle.ct_worker.specs.Gates.{seen_of}
use Rattle.ct_app.specs.Meant.{AreMeant, is_meant_to_fail}
use Rattle.ct_app.specs.MeantTexts.{HasMeantTexts}

-- what is seen of an attempt of a test with these properties, where the world tells this of the attempt;
-- without properties no pattern hits
abbrev pub seen_as_told : Option Props → Told → Seen
seen_as_told (Some props) attempt = seen_of props attempt.heard attempt.ended
seen_as_told None attempt = record {
  how = attempt.ended.how;
  fail_hit = false;
  pass_hit = false;
  skip_hit = false;
  micros = attempt.ended.micros;
}

-- what is seen of each attempt of each test in a world
abbrev pub seen_in_world : List Props → List Told → ℕ → ℕ → Seen
seen_in_world props world test attempt = seen_as_told (at_number props test) (told world test attempt)

-- each of these gates tells this world
abbrev pub AllTell : List Told → List GateTell → Type 0
AllTell world [] = ⊤
AllTell world (gate ∷ gates) = (gate.world ≡ Some world) × AllTell world gates

-- a run is meant to fail: some meant verdict is of the failing class,
-- or there is no test and that is an error
abbrev pub is_meant_failed : Bool → PlanParts → (ℕ → ℕ → Seen) → Bool
is_meant_failed empty_is_error plan seen =
    if length plan.tests == 0 then empty_is_error else is_meant_to_fail plan seen

-- the status that a run is meant to have: 8 where it is meant to fail, else 0
abbrev pub meant_status : Bool → PlanParts → (ℕ → ℕ → Seen) → ℕ
meant_status empty_is_error plan seen = if is_meant_failed empty_is_error plan seen then 8 else 0

-- the verdicts of a history, in the sense of `AreMeant`, and the status are the meant ones. Without
-- --stop-on-failure the texts are the same as in each complete history of the plan in which the same is seen.
pub record ComesAsMeant
    (empty_is_error : Bool) (plan : PlanParts) (seen : ℕ → ℕ → Seen) (entries : List Entry) (status : ℕ)
    : Type 0 where
  pub verdicts : AreMeant plan seen entries
  pub is : status ≡ meant_status empty_is_error plan seen
  pub texts : plan.stop_on_failure ≡ false → HasMeantTexts plan seen entries
