-- What a call returned is what the definition says, unless memory was wanting.
use Rattle.std.specs.Prelude.{◌≡◌, ◌<◌, ◌≤◌, ℕ, List, [], ◌∷◌, length, drop, Result, Ok, Err}
use Rattle.ct_regex.specs.Tree.{Tree}
use Rattle.ct_regex.specs.Signs.{Sign, fault, signs}
use Rattle.ct_regex.specs.declared.fault.RegexFault.{RegexFault}
use Rattle.ct_regex.specs.declared.fault.RegexFault.TheVariants.{TooLarge, NoMemory}

-- the fault is the one that the definition says; NoMemory is always allowed
abbrev pub SaysFault : {Y : Type 0} → Result Y RegexFault → RegexFault → Type 0
SaysFault says NoMemory = Unit {0}
SaysFault says why = says ≡ Err why

-- the call returned what the definition says, seen through the view, or NoMemory
abbrev pub Gives : {X Y : Type 0} → (X → Y) → Result X RegexFault → Result Y RegexFault → Type 0
Gives view (Ok x) says = says ≡ Ok (view x)
Gives view (Err why) says = SaysFault says why

-- a text that is written as the tree was read as that tree, or it was too large, or memory was wanting
abbrev pub IsReadAs : {X : Type 0} → (X → Tree) → Tree → Result X RegexFault → Type 0
IsReadAs view tree (Ok x) = view x ≡ tree
IsReadAs view tree (Err (TooLarge place)) = Unit {0}
IsReadAs view tree (Err NoMemory) = Unit {0}
IsReadAs view tree (Err why) = ⊥

-- the fault is the one that stands there in place of a sign; NoMemory is always allowed
abbrev pub IsFaultAt : List Sign → RegexFault → Type 0
IsFaultAt there NoMemory = Unit {0}
IsFaultAt there why = there ≡ fault why ∷ []

-- the sign stands at a place of the text, and the signs behind it go on from `behind`, a place further on
pub record IsSignAt (text : List ℕ) (place : ℕ) (sign : Sign) (behind : ℕ) : Type 0 where
  pub grows : place < behind
  pub within : behind ≤ length text
  pub there : signs place (drop place text) ≡ sign ∷ signs behind (drop behind text)

-- the call read the sign at a place, or returned the fault that stands there
abbrev pub ReadsSign : {X : Type 0} → (X → Sign) → List ℕ → ℕ → Result (X × ℕ) RegexFault → Type 0
ReadsSign view text place (Ok found) = IsSignAt text place (view found.0) found.1
ReadsSign view text place (Err why) = IsFaultAt (signs place (drop place text)) why
