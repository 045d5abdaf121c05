-- What is free of the resources of a plan, and where the needs of a
-- test are met. Source: CMake manual, ctest(1), Resource Allocation.
use Rattle.std.specs.Prelude.{◌≡◌, ℕ, true, List, Option, Some, None, IfSome}
use Rattle.ct_base.specs.declared.defs.Need.{Need}
use Rattle.ct_alloc.specs.declared.placement.Placement.{Placement}
use Rattle.ct_alloc.specs.Free.{FreeValue, used_at}
use Rattle.ct_alloc.specs.Lent.{lent}
use Rattle.ct_history.specs.declared.plan.PlanParts.{PlanParts}
use Rattle.ct_history.specs.declared.history.Entry.{Entry}
use Rattle.ct_history.specs.History.{used_slots}
use Rattle.ct_history.specs.Rules.{is_placed}
use Rattle.ct_core.specs.declared.slots.Place.{Place}
use Rattle.ct_core.specs.declared.slots.Place.TheVariants.{Nowhere, Here}

-- how many slots of the resource at a place are used; 0 if no resources are given
abbrev pub used_of : Option FreeValue → ℕ → ℕ
used_of None place = 0
used_of (Some free) place = used_at free place

-- the resources are the plan's, and the slots in use are the slots that the open starts use
pub record IsFreeBeside (plan : PlanParts) (entries : List Entry) (free : Option FreeValue) : Type 0 where
  pub resources : lent free ≡ plan.resources
  pub used : IfSome free (λ f. (place : ℕ) → used_at f place ≡ used_slots entries place)

-- the answer is right for these needs: `Nowhere` if no
-- placement is right for them, else a placement that is
abbrev pub IsPlaceFor : Option FreeValue → List Need → Place → Type 0
IsPlaceFor free needs Nowhere =
    (placement : Option Placement) → is_placed (lent free) needs (used_of free) placement ≡ true
    → ⊥
IsPlaceFor free needs (Here placement) =
    is_placed (lent free) needs (used_of free) placement ≡ true
