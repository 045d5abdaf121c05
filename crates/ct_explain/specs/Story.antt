-- What a recorded run explains: how long it took at least, which attempts made it so long, and what each of
-- them waited for. This project's own.
use Rattle.std.specs.Prelude.{◌≡◌, ℕ, true, List, [], ◌∷◌, take, map, slice_get, All, Option, Some, None}
use Rattle.std.specs.List.{HoldsAt}
use Rattle.ct_alloc.specs.declared.placement.Placement.{Placement}
use Rattle.ct_history.specs.declared.plan.PlanTest.{PlanTest}
use Rattle.ct_history.specs.declared.plan.PlanParts.{PlanParts}
use Rattle.ct_history.specs.declared.history.Entry.{Entry}
use Rattle.ct_history.specs.declared.history.Entry.TheVariants.{Start, End, Settle, Stop}
use Rattle.ct_history.specs.Plan.{test_at}
use Rattle.ct_history.specs.Legal.{is_allowed}
use Rattle.ct_times.specs.declared.chain.Link.{Link}
use Rattle.ct_times.specs.Times.{least_times, length_of}
use Rattle.ct_times.specs.Works.{AreWorks}
use Rattle.ct_times.specs.Chain.{IsChain}
use Rattle.ct_times.specs.Links.{IsPlaced, as_link}
use Rattle.ct_times.specs.Bounds.{IsExact, NoneIsShorter, done_in}
use Rattle.ct_times.specs.First.{IsFirstOfAll}
use Rattle.ct_explain.specs.declared.wait.Wait.{Wait}
use Rattle.ct_explain.specs.declared.wait.Wait.TheVariants.{Nothing}
use Rattle.ct_explain.specs.declared.story.Story.{Story}
use Rattle.ct_explain.specs.Waits.{wait_of}

-- what a Start of the test that was looked up waits for behind these entries
abbrev pub start_wait : PlanParts → List Entry → ℕ → ℕ → Option Placement → Option PlanTest → Wait
start_wait plan front attempt worker placement None = Nothing
start_wait plan front attempt worker placement (Some t) = wait_of plan front t attempt worker placement

-- what the Start that this entry is waits for behind these entries; no other entry waits
abbrev pub entry_wait : PlanParts → List Entry → Option Entry → Wait
entry_wait plan front None = Nothing
entry_wait plan front (Some (Start t a w p)) = start_wait plan front a w p (test_at plan.tests t)
entry_wait plan front (Some (End t a w seen)) = Nothing
entry_wait plan front (Some (Settle t cause)) = Nothing
entry_wait plan front (Some Stop) = Nothing

-- what one attempt waited for behind the entries in front of the End of another one
abbrev pub wait_between : PlanParts → List Entry → Link → Link → Wait
wait_between plan entries one other =
    entry_wait plan (take one.end entries) (slice_get entries other.begin)

-- what each of these attempts but the first waited for, behind the entries in front of the End of the attempt
-- in front of it
abbrev pub waits_of : PlanParts → List Entry → List Link → List Wait
waits_of plan entries [] = []
waits_of plan entries (link ∷ []) = []
waits_of plan entries (link ∷ next ∷ links) =
    wait_between plan entries link next ∷ waits_of plan entries (next ∷ links)

-- the Start of the attempt is allowed behind the entries in front of it
abbrev pub MayStart : PlanParts → List Entry → Link → Type 0
MayStart plan entries link =
    HoldsAt (λ e. is_allowed plan (take link.begin entries) e ≡ true) entries link.begin

-- the story of a history:
-- - its entries, their least times, its length, and the work of each test;
-- - its chain, with the places of the attempts, each of which was allowed where it started;
-- - what each attempt of the chain but the first waited for;
-- - a bound, which is that of its capacity, and which no order of the same work goes below: its capacity is
--   the first of all capacities of the plan with the greatest bound
pub record IsStory (plan : PlanParts) (history : List Entry) (story : Story) : Type 0 where
  pub entries : story.entries ≡ history
  pub times : story.times ≡ least_times history
  pub length : story.length ≡ length_of history
  pub works : AreWorks story.works history
  pub chain : IsChain history (map as_link story.chain)
  pub placed : All (IsPlaced history) story.chain
  pub started : All (MayStart plan history) story.chain
  pub waits : story.waits ≡ waits_of plan history story.chain
  pub exact : IsExact plan history story.bound
  pub shortest : NoneIsShorter plan history story.bound
  pub first : IsFirstOfAll plan (done_in history) story.bound.capacity
