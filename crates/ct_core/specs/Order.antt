-- The order in which a run settles and starts its tests, as a fact of its history. This project's own.
use Rattle.std.specs.Prelude.{◌≡◌, List, ◌∷◌, ◌++◌, ⊤}
use Rattle.ct_history.specs.declared.plan.PlanParts.{PlanParts}
use Rattle.ct_history.specs.declared.history.Entry.{Entry}
use Rattle.ct_history.specs.declared.history.Entry.TheVariants.{Start, End, Settle, Stop}
use Rattle.ct_core.specs.Choice.{IsFirstToStart, IsLeastToSettle, NoneSettles}

-- the entry is the next one in order behind `front`. A Start is of the
-- first test of the queue that may start, while no test may be settled.
-- A Settle is of the test with the lowest number that may be settled.
abbrev pub IsNextInOrder : PlanParts → List Entry → Entry → Type 0
IsNextInOrder plan front (Start test attempt worker placement) =
    NoneSettles plan front × IsFirstToStart plan front test placement
IsNextInOrder plan front (End test attempt worker seen) = ⊤
IsNextInOrder plan front (Settle test cause) = IsLeastToSettle plan front test cause
IsNextInOrder plan front Stop = ⊤

-- each entry of the history is the next one in order behind the entries in front of it
abbrev pub FollowsQueue : PlanParts → List Entry → Type 0
FollowsQueue plan entries =
    (front : List Entry) (entry : Entry) (back : List Entry) → entries ≡ front ++ entry ∷ back
    → IsNextInOrder plan front entry
