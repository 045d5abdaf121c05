-- Why a line is refused, step by step.
use Rattle.std.proofs.Common.{◌≡◌, ◌∙◌, sym, ℕ, Bool, false, List, refl, Option, Some, None}
use Rattle.ct_base.specs.declared.defs.Need.{Need}
use Rattle.ct_base.specs.declared.defs.Resource.{Resource}
use Rattle.ct_alloc.specs.declared.placement.Placement.{Placement}
use Rattle.std.specs.Prelude.{option_map, is_some, if◌then◌else◌}
use Rattle.ct_history.specs.declared.plan.PlanTest.{PlanTest}
use Rattle.ct_history.specs.declared.plan.PlanParts.{PlanParts}
use Rattle.ct_history.specs.declared.history.Entry.{Entry}
use Rattle.ct_history.specs.Plan.{test_at}
use Rattle.ct_history.specs.Verdicts.{verdict_of_test}
use Rattle.ct_history.specs.Legal.{is_stop_due}
use Rattle.ct_journal_text.specs.declared.lines.EntryLine.{EntryLine}
use Rattle.ct_explain.specs.declared.why.Why.TheVariants.{StopIsDue, IsFinal}
use Rattle.ct_explain.specs.Reasons.{why_not_by, why_not_found, why_not_of}
use Rattle.ct_journal_text.specs.Completed.{IsPlacementAt, of_picks, picks_by}
use Rattle.ct_journal_text.proofs.PlacementLemmas.{completes}

placed_once : (resources : List Resource) (needs : List Need) (places : List ℕ) (one other : Option Placement) → IsPlacementAt resources needs places one → IsPlacementAt resources needs places other → one ≡ other
placed_once resources needs places None None first second = refl
placed_once resources needs places (Some p) other first second = sym ((second p).1 ((first p).0 refl))
placed_once resources needs places None (Some p) first second = let no : None ≡ Some p = (first p).1 ((second p).0 refl) in no

-- a placement that was found is the one that the picks make
pub placed_by : (resources : List Resource) (needs : List Need) (places : List ℕ) (found : Option Placement) → IsPlacementAt resources needs places found → found ≡ option_map of_picks (picks_by resources needs places)
placed_by resources needs places found is = placed_once resources needs places found (option_map of_picks (picks_by resources needs places)) is (completes resources needs places)

-- the line of an entry that speaks of a test of the plan, where no Stop is due
pub why_found : (plan : PlanParts) (front : List Entry) (line : EntryLine) (o : Option ℕ) (number : ℕ) (t : PlanTest) (final : Bool) → o ≡ Some number → is_stop_due plan front ≡ false → test_at plan.tests number ≡ Some t → is_some (verdict_of_test plan front number) ≡ final → (if final then IsFinal number else why_not_of plan front t line) ≡ why_not_by plan front line o
why_found plan front line o number t final one undue found judged =
    sym ((λ i. why_not_by plan front line (one i))
    ∙ (λ i. if undue i then StopIsDue else why_not_found plan front number line (test_at plan.tests number))
    ∙ (λ i. why_not_found plan front number line (found i))
    ∙ (λ i. if judged i then IsFinal number else why_not_of plan front t line))
