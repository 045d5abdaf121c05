-- What the files hold after several calls, from what each call changed.
use Rattle.std.proofs.Common.{◌≡◌, ◌∙◌, subst, ℕ, List, inl, inr, refl}
use Rattle.std.specs.Prelude.{⊤, Option, Some, None, IfSome}
use Rattle.ct_base.specs.Outside.{Becomes, FailsToWrite, FilesTell, Held, Rose, SameHeld, Writes}
use Rattle.ct_cost.specs.declared.cost_data.CostData.{CostData}
use Rattle.ct_app.specs.RunFiles.{FilesFail, FilesServe, FilesStay, WithLast, last_costs}

-- a change of the files is also each change that follows from it
module _ (P Q : Held → Held → Type 0) where
  pub becomes_as : ((x y : Held) → P x y → Q x y) → (before now : Option Held) → Becomes before now P → Becomes before now Q
  becomes_as leads None now changed = tt
  becomes_as leads (Some x) None changed = absurd changed
  becomes_as leads (Some x) (Some y) changed = leads x y changed

-- two changes, one after the other, are one change
module _ (P Q R : Held → Held → Type 0) (both : (x y z : Held) → P x y → Q y z → R x z) where
  becomes_then : (before between now : Option Held) → Becomes before between P → Becomes between now Q → Becomes before now R
  becomes_then None between now first second = tt
  becomes_then (Some x) None now first second = absurd first
  becomes_then (Some x) (Some y) None first second = absurd second
  becomes_then (Some x) (Some y) (Some z) first second = both x y z first second

  pub serves_then : (before between now : FilesTell) → FilesServe P before between → FilesServe Q between now → FilesServe R before now
  serves_then before between now first second = record {
    held = becomes_then before.held between.held now.held first.held second.held;
    unrefused = second.unrefused ∙ first.unrefused;
    unfailed = second.unfailed ∙ first.unfailed;
  }

  pub fails_then : (path : List ℕ) (before between now : FilesTell) → FilesServe P before between → FilesFail path Q between now → FilesFail path R before now
  fails_then path before between now first second = record {
    held = becomes_then before.held between.held now.held first.held second.held;
    told = subst (λ (refused : Option (Option (List ℕ))). Becomes refused now.refused (λ was last. ⊤)) first.unrefused second.told;
    last = second.last;
    rose = subst (λ (n : ℕ). Rose n now.faults) first.unfailed second.rose;
  }

-- calls with a change are also calls with each change that follows from it
module _ (P Q : Held → Held → Type 0) (leads : (x y : Held) → P x y → Q x y) where
  pub serves_as : (before now : FilesTell) → FilesServe P before now → FilesServe Q before now
  serves_as before now serves = record { held = becomes_as P Q leads before.held now.held serves.held; unrefused = serves.unrefused; unfailed = serves.unfailed }

  pub fails_as : (path : List ℕ) (before now : FilesTell) → FilesFail path P before now → FilesFail path Q before now
  fails_as path before now fails = record { held = becomes_as P Q leads before.held now.held fails.held; told = fails.told; last = fails.last; rose = fails.rose }

stays_told : (held : Option Held) → Becomes held held SameHeld
stays_told None = tt
stays_told (Some held) = λ path. refl

-- files without a call stay
pub stays : (files : FilesTell) → FilesStay files files
stays files = record { held = stays_told files.held; unrefused = refl; unfailed = refl }

pub same_then_same : (x y z : Held) → SameHeld x y → SameHeld y z → SameHeld x z
same_then_same x y z first second = λ path. second path ∙ first path

pub same_then_writes : (path text : List ℕ) (x y z : Held) → SameHeld x y → Writes path text y z → Writes path text x z
same_then_writes path text x y z same writes = record { here = writes.here; others = λ other differs. writes.others other differs ∙ same other }

pub writes_then_same : (path text : List ℕ) (x y z : Held) → Writes path text x y → SameHeld y z → Writes path text x z
writes_then_same path text x y z writes same = record { here = same path ∙ writes.here; others = λ other differs. same other ∙ writes.others other differs }

pub same_then_fails : (path text : List ℕ) (x y z : Held) → SameHeld x y → FailsToWrite path text y z → FailsToWrite path text x z
same_then_fails path text x y z same (inl kept) = inl (same_then_same x y z same kept)
same_then_fails path text x y z same (inr tears) = inr (record { here = tears.here; others = λ other differs. tears.others other differs ∙ same other })

-- a change from cost data that was read while the files stayed is a change from the cost data of the last run
module _ (dir : List ℕ) (Change : CostData → Held → Held → Type 0) (behind : (costs : CostData) (x y z : Held) → SameHeld x y → Change costs y z → Change costs x z) (costs : CostData) where
  becomes_with_last : (before between now : Option Held) → IfSome before (λ held. costs ≡ last_costs dir held) → Becomes before between SameHeld → Becomes between now (Change costs) → Becomes before now (WithLast dir Change)
  becomes_with_last None between now read same changed = tt
  becomes_with_last (Some x) None now read same changed = absurd same
  becomes_with_last (Some x) (Some y) None read same changed = absurd changed
  becomes_with_last (Some x) (Some y) (Some z) read same changed = subst (λ (c : CostData). Change c x z) read (behind costs x y z same changed)

  pub serves_with_last : (before between now : FilesTell) → IfSome before.held (λ held. costs ≡ last_costs dir held) → FilesStay before between → FilesServe (Change costs) between now → FilesServe (WithLast dir Change) before now
  serves_with_last before between now read stay serves = record {
    held = becomes_with_last before.held between.held now.held read stay.held serves.held;
    unrefused = serves.unrefused ∙ stay.unrefused;
    unfailed = serves.unfailed ∙ stay.unfailed;
  }

  pub fails_with_last : (path : List ℕ) (before between now : FilesTell) → IfSome before.held (λ held. costs ≡ last_costs dir held) → FilesStay before between → FilesFail path (Change costs) between now → FilesFail path (WithLast dir Change) before now
  fails_with_last path before between now read stay fails = record {
    held = becomes_with_last before.held between.held now.held read stay.held fails.held;
    told = subst (λ (refused : Option (Option (List ℕ))). Becomes refused now.refused (λ was last. ⊤)) stay.unrefused fails.told;
    last = fails.last;
    rose = subst (λ (n : ℕ). Rose n now.faults) stay.unfailed fails.rose;
  }
