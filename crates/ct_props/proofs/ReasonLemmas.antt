-- A fault that is no want of memory is a reason.
use Rattle.std.proofs.Common.{ℕ, List, ◌≡◌, refl, subst, sym}
use Rattle.ct_regex.specs.declared.fault.RegexFault.{RegexFault}
use Rattle.ct_regex.specs.declared.fault.RegexFault.TheVariants.{OpenGroup, StrayClose, OpenSet, BadRange, NothingToRepeat, EmptyRepeat, NestedRepeat, EndsInBackslash, TooLarge, NoMemory}
use Rattle.ct_groups.specs.declared.fault.GroupsFault.{GroupsFault}
use Rattle.ct_groups.specs.declared.fault.GroupsFault.TheVariants.{NoColon, BadType, BadCount, ZeroSlots, TooMany, NoMemory as GroupsMemory}
use Rattle.ct_props.specs.declared.fault.PropKind.TheVariants.{BadPattern, BadGroups}
use Rattle.ct_props.specs.declared.fault.PropFault.{PropFault}
use Rattle.ct_props.specs.declared.fault.PropFault.TheVariants.{Bad, NoMemory as PropMemory}
use Rattle.ct_props.specs.Refusal.{IsReason, HasReason, IsBad}

reason-pattern : (why : RegexFault) → (why ≡ NoMemory → ⊥) → IsReason (BadPattern why)
reason-pattern (OpenGroup n) other = tt
reason-pattern (StrayClose n) other = tt
reason-pattern (OpenSet n) other = tt
reason-pattern (BadRange n) other = tt
reason-pattern (NothingToRepeat n) other = tt
reason-pattern (EmptyRepeat n) other = tt
reason-pattern (NestedRepeat n) other = tt
reason-pattern (EndsInBackslash n) other = tt
reason-pattern (TooLarge n) other = tt
reason-pattern NoMemory other = absurd (other refl)

reason-groups : (why : GroupsFault) → (why ≡ GroupsMemory → ⊥) → IsReason (BadGroups why)
reason-groups NoColon other = tt
reason-groups BadType other = tt
reason-groups BadCount other = tt
reason-groups ZeroSlots other = tt
reason-groups TooMany other = tt
reason-groups GroupsMemory other = absurd (other refl)

-- the fault of a key for a pattern
pub pattern_reason : (key : List ℕ) (why : RegexFault) (fault : PropFault) → IsBad key (BadPattern why) fault → (why ≡ NoMemory → ⊥) → HasReason fault
pattern_reason key why PropMemory is other = tt
pattern_reason key why (Bad told kind) is other = subst IsReason (sym is.1) (reason-pattern why other)

-- the fault of a key for groups
pub groups_reason : (key : List ℕ) (why : GroupsFault) (fault : PropFault) → IsBad key (BadGroups why) fault → (why ≡ GroupsMemory → ⊥) → HasReason fault
groups_reason key why PropMemory is other = tt
groups_reason key why (Bad told kind) is other = subst IsReason (sym is.1) (reason-groups why other)
