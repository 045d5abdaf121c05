-- How the refused key is found: the keys are read in byte order. The key that is
-- found is shown to be the least one.
use Rattle.std.specs.Prelude.{◌≡◌, ⊤, ℕ, List, [], ◌∷◌, Option, Some, None}
use Rattle.ct_base.specs.declared.defs.Pair.{Pair}
use Rattle.ct_props.specs.declared.fault.PropKind.{PropKind}
use Rattle.ct_props.specs.declared.fault.PropFault.{PropFault}
use Rattle.ct_props.specs.declared.fault.PropFault.TheVariants.{Bad, NoMemory}
use Rattle.ct_props.specs.Refusal.{refusals}

-- the first refused key and why: this key, if it is refused, else the first of the others
abbrev pub refused_or : List ℕ → Option PropKind → Option (List ℕ × PropKind) → Option (List ℕ × PropKind)
refused_or key None others = others
refused_or key (Some kind) others = Some (key, kind)

-- the first key that is refused, and why
abbrev pub first_refused : List (List ℕ × Option PropKind) → Option (List ℕ × PropKind)
first_refused [] = None
first_refused (row ∷ rows) = refused_or row.0 row.1 (first_refused rows)

-- the fault is that of the first key that is refused, or want of memory, which may come at any time
abbrev pub IsFirstRefused : List Pair → PropFault → Type 0
IsFirstRefused props NoMemory = ⊤
IsFirstRefused props (Bad key kind) = first_refused (refusals props) ≡ Some (key, kind)
